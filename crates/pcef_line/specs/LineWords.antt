-- The words of lines and the fields that go with them (own choice, as all of this format).
use Rattle.std.specs.Prelude.{ℕ, List, [], ◌∷◌, codes, Option, Some, None, if◌then◌else◌}
use Rattle.std.specs.Str.{bytes_eq}
use Rattle.pcef_line.specs.declared.field.Field.{Field}
use Rattle.pcef_line.specs.declared.field.Field.TheVariants as field
use Rattle.pcef_line.specs.declared.word.Word.{Word}
use Rattle.pcef_line.specs.declared.word.Word.TheVariants as word

-- a field as it stands in a line
abbrev pub field_text : Field → List ℕ
field_text field.Do = codes "do"
field_text field.Rule = codes "rule"
field_text field.Key = codes "key"
field_text field.Grant = codes "grant"
field_text field.Events = codes "events"
field_text field.Event = codes "event"
field_text field.Value = codes "value"
field_text field.Bearer = codes "bearer"
field_text field.Worker = codes "worker"
field_text field.Dir = codes "dir"
field_text field.Packet = codes "packet"
field_text field.Name = codes "name"
field_text field.Precedence = codes "precedence"
field_text field.Filters = codes "filters"
field_text field.Text = codes "text"
field_text field.Flow = codes "flow"
field_text field.Qci = codes "qci"
field_text field.Arp = codes "arp"
field_text field.Level = codes "level"
field_text field.Capability = codes "capability"
field_text field.Vulnerability = codes "vulnerability"
field_text field.Gbr = codes "gbr"
field_text field.Up = codes "up"
field_text field.Down = codes "down"
field_text field.Gate = codes "gate"

-- what a line may ask for
abbrev pub word_of : List ℕ → Option Word
word_of text =
    if bytes_eq text (codes "install") then Some word.Install
    else if bytes_eq text (codes "activate") then Some word.Activate
    else if bytes_eq text (codes "remove") then Some word.Remove
    else if bytes_eq text (codes "monitor") then Some word.Monitor
    else if bytes_eq text (codes "stop") then Some word.Stop
    else if bytes_eq text (codes "report") then Some word.Report
    else if bytes_eq text (codes "triggers") then Some word.Triggers
    else if bytes_eq text (codes "notice") then Some word.Notice
    else if bytes_eq text (codes "lose") then Some word.Lose
    else if bytes_eq text (codes "close") then Some word.Close
    else if bytes_eq text (codes "terminate") then Some word.Terminate
    else if bytes_eq text (codes "attach") then Some word.Attach
    else if bytes_eq text (codes "take") then Some word.Take
    else if bytes_eq text (codes "refresh") then Some word.Refresh
    else if bytes_eq text (codes "flush") then Some word.Flush
    else if bytes_eq text (codes "finish") then Some word.Finish
    else if bytes_eq text (codes "abandon") then Some word.Abandon
    else if bytes_eq text (codes "show") then Some word.Show
    else None

-- the fields that a line may have
abbrev pub fields_of : Word → List Field
fields_of word.Install = field.Do ∷ field.Rule ∷ []
fields_of word.Activate = field.Do ∷ field.Name ∷ []
fields_of word.Remove = field.Do ∷ field.Name ∷ []
fields_of word.Monitor = field.Do ∷ field.Key ∷ field.Grant ∷ field.Level ∷ []
fields_of word.Stop = field.Do ∷ field.Key ∷ []
fields_of word.Report = field.Do ∷ field.Key ∷ []
fields_of word.Triggers = field.Do ∷ field.Events ∷ []
fields_of word.Notice = field.Do ∷ field.Event ∷ field.Value ∷ []
fields_of word.Lose = field.Do ∷ field.Bearer ∷ []
fields_of word.Close = field.Do ∷ []
fields_of word.Terminate = field.Do ∷ []
fields_of word.Attach = field.Do ∷ []
fields_of word.Take = field.Do ∷ field.Worker ∷ field.Dir ∷ field.Packet ∷ []
fields_of word.Refresh = field.Do ∷ field.Worker ∷ []
fields_of word.Flush = field.Do ∷ field.Worker ∷ []
fields_of word.Finish = field.Do ∷ field.Worker ∷ []
fields_of word.Abandon = field.Do ∷ field.Worker ∷ []
fields_of word.Show = field.Do ∷ []

-- those of a rule, and of the objects in it
abbrev pub fields_of_rule : List Field
fields_of_rule = field.Name ∷ field.Precedence ∷ field.Filters ∷ field.Qci ∷ field.Arp ∷ field.Gbr ∷ field.Gate ∷ field.Key ∷ []

abbrev pub fields_of_filter : List Field
fields_of_filter = field.Text ∷ field.Flow ∷ []

abbrev pub fields_of_arp : List Field
fields_of_arp = field.Level ∷ field.Capability ∷ field.Vulnerability ∷ []

abbrev pub fields_of_gbr : List Field
fields_of_gbr = field.Up ∷ field.Down ∷ []
