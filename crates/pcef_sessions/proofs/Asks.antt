-- A line that a script takes asks nothing of the sessions.
use Rattle.std.proofs.Common.{◌≡◌, ◌∙◌, ℕ, Bool, true, false, List, Option, Some, None, refl, sym, ap, codes}
use Rattle.std.specs.Prelude.{Result, Ok, Err, is_some, option_and_then, if◌then◌else◌}
use Rattle.std.specs.Str.{bytes_eq, is_utf8}
use Rattle.std.proofs.lemmas.Bool.{false≢true}
use Rattle.std.proofs.lemmas.Slice.Eq.{bytes_eq-Decides}
use Rattle.serde_json.specs.Data.{Data}
use Rattle.serde_json.specs.Find.{get, as_str, as_object}
use Rattle.serde_json.specs.Read.{read}
use Rattle.pcef_model.specs.Setting.{Setting}
use Rattle.pcef_world.specs.Steps.{Standing}
use Rattle.pcef_line.specs.declared.line.Line.{Line}
use Rattle.pcef_line.specs.declared.fault.LineFault.{LineFault}
use Rattle.pcef_line.specs.declared.fault.LineFault.TheVariants.{NotJson, NotObject, UnknownDo, UnknownField}
use Rattle.pcef_line.specs.declared.word.Word.{Word}
use Rattle.pcef_line.specs.FilterReads.{FilterReading}
use Rattle.pcef_line.specs.LineOf.{fields_at, line_at, line_by, word_at}
use Rattle.pcef_line.specs.LineShape.{is_known}
use Rattle.pcef_line.specs.LineWords.{word_of}
use Rattle.pcef_base.specs.Readings.{◌>>=◌, or_fault, passing}
use Rattle.pcef_script.specs.ScriptAnswers.{AnswersAs, AnswersLine, DueWithin, LineDue}
use Rattle.pcef_script.specs.ScriptLines.{within_limit}
use Rattle.pcef_sessions.specs.declared.asking.Asking.{Asking}
use Rattle.pcef_sessions.specs.declared.asking.Asking.TheVariants.{End, Lines, Renew, Script}
use Rattle.pcef_sessions.specs.Asked.{alone_at, asked_at, asked_of, asked_read, asked_within, by_word, if_utf8, open_at}

abbrev taken : Line → Result Line LineFault
taken line = Ok line

-- a word that a script doesn't have
no_word : (d : Data) (w : List ℕ) → option_and_then as_str (get (codes "do") d) ≡ Some w → word_of w ≡ None → word_at d ≡ Err UnknownDo
unfolding word_at
no_word d w is none = rw (is, none) refl

-- ends a line
abbrev behind : FilterReading → Data → Result Line LineFault
behind reads whole = word_at whole >>= λ word. passing (is_known word) UnknownField whole >>= λ known. fields_at reads word known

no_line_by : (reads : FilterReading) (d : Data) (l : Line) (test : Bool) → word_at d ≡ Err UnknownDo
    → ((if test then Ok d else Err NotObject) >>= behind reads) ≡ taken l → ⊥
no_line_by reads d l true none is =
    let e : Err UnknownDo ≡ taken l = sym (ap (λ (r : Result Word LineFault). r >>= λ word. passing (is_known word) UnknownField d >>= λ known. fields_at reads word known) none) ∙ is in
    cc
no_line_by reads d l false none is = cc

no_line : (reads : FilterReading) (d : Data) (l : Line) → word_at d ≡ Err UnknownDo → line_at reads d ≡ taken l → ⊥
unfolding line_at
no_line reads d l none is = no_line_by reads d l (is_some (as_object d)) none is

by_tests : (w : List ℕ) (d : Data) (opens renews shows ends : Bool) → (opens ≡ true → ⊥) → (renews ≡ true → ⊥) → (shows ≡ true → ⊥) → (ends ≡ true → ⊥)
    → (if opens then open_at d else if renews then alone_at Renew d else if shows then alone_at Lines d else if ends then alone_at End d else Script) ≡ Script
by_tests w d true renews shows ends a b s e = absurd (a refl)
by_tests w d false true shows ends a b s e = absurd (b refl)
by_tests w d false false true ends a b s e = absurd (s refl)
by_tests w d false false false true a b s e = absurd (e refl)
by_tests w d false false false false a b s e = refl

no_other : (word : Option (List ℕ)) (d : Data) → ((w : List ℕ) → word ≡ Some w → word_of w ≡ None → ⊥) → by_word word d ≡ Script
no_other None d known = refl
no_other (Some w) d known =
    by_tests w d (bytes_eq w (codes "open")) (bytes_eq w (codes "renew")) (bytes_eq w (codes "lines")) (bytes_eq w (codes "end"))
    (λ is. known w refl (ap word_of ((bytes_eq-Decides w (codes "open")).0 is)))
    (λ is. known w refl (ap word_of ((bytes_eq-Decides w (codes "renew")).0 is)))
    (λ is. known w refl (ap word_of ((bytes_eq-Decides w (codes "lines")).0 is)))
    (λ is. known w refl (ap word_of ((bytes_eq-Decides w (codes "end")).0 is)))

asks_none : (reads : FilterReading) (d : Data) (l : Line) → line_at reads d ≡ taken l → asked_at d ≡ Script
unfolding asked_at
asks_none reads d l is = no_other _ d (λ w word none. no_line reads d l (no_word d w word none) is)

asks_read : (reads : FilterReading) (read : Option Data) (l : Line) → (or_fault NotJson read >>= line_at reads) ≡ taken l → asked_read read ≡ Script
asks_read reads None l is = refl
asks_read reads (Some d) l is = asks_none reads d l is

asks_text : (reads : FilterReading) (text : List ℕ) (l : Line) → taken l ≡ line_by reads text → asked_read (read text) ≡ Script
unfolding line_by
asks_text reads text l is = asks_read reads (read text) l (sym is)

asks_within : (line : List ℕ) (utf8 : Bool) (l : Line) → is_utf8 line ≡ utf8 → DueWithin (Some line) (taken l) → if_utf8 utf8 line ≡ Script
asks_within line false l is due = refl
asks_within line true l is due =
    let read = rw is at due in
    asks_text read.0 line l read.2

asks_due : (o : Option (List ℕ)) (l : Line) → DueWithin o (taken l) → asked_within o ≡ Script
asks_due None l due = refl
asks_due (Some line) l due = asks_within line (is_utf8 line) l refl due

-- the line is no fault
by_due : (p : Setting) (s t : Standing) (line text : List ℕ) (at_fault : Bool) (due : Result Line LineFault) → LineDue line due → AnswersAs p s due text at_fault t → at_fault ≡ false → asked_of line ≡ Script
by_due p s t line text at_fault (Ok l) due a right = asks_due (within_limit line) l due
by_due p s t line text at_fault (Err f) due a right = absurd (false≢true (sym right ∙ a.1))

pub is_of_script : (p : Setting) (s t : Standing) (line text : List ℕ) (at_fault : Bool) → AnswersLine p s line text at_fault t → at_fault ≡ false → asked_of line ≡ Script
is_of_script p s t line text at_fault h right = by_due p s t line text at_fault h.0 h.1 h.2 right

-- a line at fault changes nothing
same_by : (p : Setting) (s t : Standing) (text : List ℕ) (at_fault : Bool) (due : Result Line LineFault) → AnswersAs p s due text at_fault t → at_fault ≡ true → t ≡ s
same_by p s t text at_fault (Ok l) a wrong = absurd (false≢true (sym a.1 ∙ wrong))
same_by p s t text at_fault (Err f) a wrong = a.2

pub fault_stays : (p : Setting) (s t : Standing) (line text : List ℕ) (at_fault : Bool) → AnswersLine p s line text at_fault t → at_fault ≡ true → t ≡ s
fault_stays p s t line text at_fault h wrong = same_by p s t text at_fault h.0 h.2 wrong
