-- The line that a text is, or its first fault (own choice).
use Rattle.std.specs.Prelude.{◌^◌, ◌-◌, ◌≡◌, ℕ, List, is_some, option_and_then, Result, Ok}
use Rattle.serde_json.specs.Data.{Data}
use Rattle.serde_json.specs.Find.{get, as_str, as_object}
use Rattle.serde_json.specs.Read.{read}
use Rattle.pcef_model.specs.declared.command.Command.{Command}
use Rattle.pcef_model.specs.declared.command.Command.TheVariants as command
use Rattle.pcef_model.specs.declared.step.Step.TheVariants as step
use Rattle.pcef_line.specs.FilterReads.{FilterReading, IsExact}
use Rattle.pcef_line.specs.declared.line.Line.{Line}
use Rattle.pcef_line.specs.declared.line.Line.TheVariants.{Show, Step}
use Rattle.pcef_line.specs.declared.fault.LineFault.{LineFault}
use Rattle.pcef_line.specs.declared.fault.LineFault.TheVariants.{NotJson, NotObject, UnknownDo, UnknownField}
use Rattle.pcef_line.specs.declared.field.Field.TheVariants as field
use Rattle.pcef_line.specs.declared.word.Word.{Word}
use Rattle.pcef_line.specs.declared.word.Word.TheVariants as word
use Rattle.pcef_line.specs.LineWords.{field_text, word_of}
use Rattle.pcef_line.specs.LineShape.{is_known}
use Rattle.pcef_line.specs.LineValues.{number_at, name_at, object_at, dir_at, packet_at}
use Rattle.pcef_line.specs.LineRules.{rule_at}
use Rattle.pcef_line.specs.LineLevels.{level_at}
use Rattle.pcef_line.specs.LineTriggers.{event_at, triggers_at}
use Rattle.pcef_base.specs.Readings.{◌>>=◌, or_fault, passing}

unfoldable pub word_at : Data → Result Word LineFault
word_at d = or_fault UnknownDo (option_and_then word_of (option_and_then as_str (get (field_text field.Do) d)))

unfoldable pub worker_at : Data → Result ℕ LineFault
worker_at d = number_at field.Worker field.Worker 0 15 d

-- a line that is a command
abbrev pub of_command : Command → Line
of_command c = Step (step.Command c)

-- each word's fields, in the order of checking
unfoldable pub fields_at : FilterReading → Word → Data → Result Line LineFault
fields_at reads word.Install d = do
  whole ← object_at field.Rule d
  rule ← rule_at reads whole
  Ok (of_command (command.Install rule))
fields_at reads word.Activate d = do
  name ← name_at field.Name d
  Ok (of_command (command.Activate name))
fields_at reads word.Remove d = do
  name ← name_at field.Name d
  Ok (of_command (command.Remove name))
fields_at reads word.Monitor d = do
  key ← name_at field.Key d
  grant ← number_at field.Grant field.Grant 0 (2 ^ 64 - 1) d
  level ← level_at d
  Ok (of_command (command.Monitor key grant level))
fields_at reads word.Stop d = do
  key ← name_at field.Key d
  Ok (of_command (command.Stop key))
fields_at reads word.Report d = do
  key ← name_at field.Key d
  Ok (of_command (command.ReportNow key))
fields_at reads word.Triggers d = do
  set ← triggers_at d
  Ok (of_command (command.Triggers set))
fields_at reads word.Notice d = do
  kind ← event_at d
  value ← name_at field.Value d
  Ok (of_command (command.Notice kind value))
fields_at reads word.Lose d = do
  bearer ← number_at field.Bearer field.Bearer 0 255 d
  Ok (of_command (command.LoseBearer (record { 0 = bearer })))
fields_at reads word.Close d = Ok (of_command command.Close)
fields_at reads word.Terminate d = Ok (of_command command.Terminate)
fields_at reads word.Attach d = Ok (Step step.Attach)
fields_at reads word.Take d = do
  worker ← worker_at d
  dir ← dir_at field.Dir d
  header ← packet_at field.Packet dir d
  Ok (Step (step.Take worker header))
fields_at reads word.Refresh d = do
  worker ← worker_at d
  Ok (Step (step.Refresh worker))
fields_at reads word.Flush d = do
  worker ← worker_at d
  Ok (Step (step.Flush worker))
fields_at reads word.Finish d = do
  worker ← worker_at d
  Ok (Step (step.Finish worker))
fields_at reads word.Abandon d = do
  worker ← worker_at d
  Ok (Step (step.Abandon worker))
fields_at reads word.Show d = Ok Show

unfoldable pub line_at : FilterReading → Data → Result Line LineFault
line_at reads d = do
  whole ← passing (λ v. is_some (as_object v)) NotObject d
  word ← word_at whole
  known ← passing (is_known word) UnknownField whole
  fields_at reads word known

-- a JSON text (RFC 8259); of a key that stands twice in an object the last value counts
unfoldable pub line_by : FilterReading → List ℕ → Result Line LineFault
line_by reads text = or_fault NotJson (read text) >>= line_at reads

-- what is due to a text: the line that it is, with each filter text read as its grammar says, or the first fault
abbrev pub LineOf : List ℕ → Result Line LineFault → Type 0
LineOf text due = (reads : FilterReading) × IsExact reads × (due ≡ line_by reads text)
