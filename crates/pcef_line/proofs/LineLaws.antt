-- Something is due to each text, and no two things are.
use Rattle.std.proofs.Common.{◌≡◌, ◌∙◌, ℕ, List, Option, Result, Ok, Err, refl, sym, ap}
use Rattle.serde_json.specs.Data.{Data, Items, no_items, item}
use Rattle.serde_json.specs.Read.{read}
use Rattle.pcef_filter.specs.declared.filter.Filter.{Filter}
use Rattle.pcef_filter.specs.declared.filter.FilterFault.{FilterFault}
use Rattle.pcef_filter.specs.declared.filter.Flow.{Flow}
use Rattle.pcef_filter.specs.Reading.{reading_of}
use Rattle.pcef_filter.proofs.FilterLaws.{fault_once, fault_or_filter, filter_again, read_fault, read_found}
use Rattle.pcef_line.specs.declared.line.Line.{Line}
use Rattle.pcef_model.specs.declared.command.Command.TheVariants.{Install}
use Rattle.pcef_line.specs.declared.fault.LineFault.{LineFault}
use Rattle.pcef_line.specs.declared.fault.LineFault.TheVariants.{BadFilter, NotJson, UnknownField}
use Rattle.pcef_line.specs.declared.field.Field.TheVariants as field
use Rattle.pcef_line.specs.declared.word.Word.{Word}
use Rattle.pcef_line.specs.declared.word.Word.TheVariants as word
use Rattle.pcef_line.specs.FilterReads.{FilterReading, IsExact, IsReadAs}
use Rattle.pcef_line.specs.LineRules.{filter_at, filters_of, filters_at, flow_at, rule_at}
use Rattle.pcef_line.specs.LineOf.{LineOf, fields_at, line_at, line_by, of_command, word_at}
use Rattle.pcef_line.specs.LineShape.{is_known}
use Rattle.pcef_line.specs.LineValues.{list_at, object_at, text_at}
use Rattle.pcef_base.specs.Readings.{◌>>=◌, or_fault, passing, under}

-- ---- readings of filters
-- the reader's own reading is one
read_as : (text : List ℕ) (flow : Option Flow) (r : Result Filter FilterFault) → r ≡ reading_of text flow → IsReadAs text flow r
read_as text flow (Ok f) is = read_found flow text (Ok f) is
read_as text flow (Err e) is = read_fault flow text (Err e) is

pub reading_exact : IsExact reading_of
reading_exact text flow = read_as text flow (reading_of text flow) refl

-- what is read of a text is one thing
read_once : (text : List ℕ) (flow : Option Flow) (a b : Result Filter FilterFault) → IsReadAs text flow a → IsReadAs text flow b → a ≡ b
read_once text flow (Ok f) (Ok g) is also = sym (filter_again flow text f is) ∙ filter_again flow text g also
read_once text flow (Ok f) (Err e) is also = absurd (fault_or_filter text flow f e is also)
read_once text flow (Err e) (Ok f) is also = absurd (fault_or_filter text flow f e also is)
read_once text flow (Err d) (Err e) is also = ap (λ (x : FilterFault). Err x) (fault_once text flow d e is also)

abbrev pub AreSame : FilterReading → FilterReading → Type 0
AreSame a b = (text : List ℕ) (flow : Option Flow) → a text flow ≡ b text flow

-- ---- two readings that are the same make the same line
then_same : {A B E : Type 0} (r : Result A E) (f g : A → Result B E) → ((x : A) → f x ≡ g x) → (r >>= f) ≡ (r >>= g)
then_same (Ok x) f g same = same x
then_same (Err e) f g same = refl

same_filter : (a b : FilterReading) → AreSame a b → (d : Data) → filter_at a d ≡ filter_at b d
unfolding filter_at
same_filter a b same d =
    then_same _ _ _ (λ filter. then_same (text_at field.Text field.Filters filter) _ _ (λ text. then_same (flow_at filter) _ _ (λ flow. ap (under (BadFilter field.Filters)) (same text flow))))

same_filters : (a b : FilterReading) → AreSame a b → (ds : Items) → filters_of a ds ≡ filters_of b ds
same_filters a b same no_items = refl
same_filters a b same (item d ds) = rw (same_filter a b same d, same_filters a b same ds) refl

same_list : (a b : FilterReading) → AreSame a b → (d : Data) → filters_at a d ≡ filters_at b d
unfolding filters_at
same_list a b same d = then_same (list_at field.Filters d) _ _ (same_filters a b same)

same_rule : (a b : FilterReading) → AreSame a b → (d : Data) → rule_at a d ≡ rule_at b d
unfolding rule_at
same_rule a b same d = rw (same_list a b same d) refl

same_fields : (a b : FilterReading) → AreSame a b → (w : Word) (d : Data) → fields_at a w d ≡ fields_at b w d
unfolding fields_at
same_fields a b same word.Install d = then_same (object_at field.Rule d) _ _ (λ whole. ap (λ r. r >>= λ rule. Ok (of_command (Install rule))) (same_rule a b same whole))
same_fields a b same word.Activate d = refl
same_fields a b same word.Remove d = refl
same_fields a b same word.Monitor d = refl
same_fields a b same word.Stop d = refl
same_fields a b same word.Report d = refl
same_fields a b same word.Triggers d = refl
same_fields a b same word.Notice d = refl
same_fields a b same word.Lose d = refl
same_fields a b same word.Close d = refl
same_fields a b same word.Terminate d = refl
same_fields a b same word.Attach d = refl
same_fields a b same word.Take d = refl
same_fields a b same word.Refresh d = refl
same_fields a b same word.Flush d = refl
same_fields a b same word.Finish d = refl
same_fields a b same word.Abandon d = refl
same_fields a b same word.Show d = refl

same_data : (a b : FilterReading) → AreSame a b → (d : Data) → line_at a d ≡ line_at b d
unfolding line_at
same_data a b same d =
    then_same _ _ _ (λ whole. then_same (word_at whole) _ _ (λ w. then_same (passing (is_known w) UnknownField whole) _ _ (λ known. same_fields a b same w known)))

same_line : (a b : FilterReading) → AreSame a b → (text : List ℕ) → line_by a text ≡ line_by b text
unfolding line_by
same_line a b same text = then_same (or_fault NotJson (read text)) _ _ (same_data a b same)

-- ---- lines
pub due_once : (text : List ℕ) (d e : Result Line LineFault) → LineOf text d → LineOf text e → d ≡ e
due_once text d e is also =
    is.2 ∙ same_line is.0 also.0 (λ t flow. read_once t flow (is.0 t flow) (also.0 t flow) (is.1 t flow) (also.1 t flow)) text ∙ sym also.2

pub due_by : (text : List ℕ) → LineOf text (line_by reading_of text)
due_by text = (reading_of, reading_exact, refl)
