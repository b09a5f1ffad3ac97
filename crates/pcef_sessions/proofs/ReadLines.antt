-- The answer to a line that was read is the one to the line.
use Rattle.std.proofs.Common.{◌≡◌, ◌∙◌, ℕ, Bool, false, List, Option, Some, None, Result, inl, inr, refl, sym, ap, subst, string_bytes}
use Rattle.pcef_model.specs.Setting.{Setting}
use Rattle.pcef_world.specs.Steps.{Standing}
use Rattle.pcef_line.specs.declared.fault.LineFault.{LineFault}
use Rattle.pcef_line.specs.declared.line.Line.{Line}
use Rattle.pcef_script.specs.declared.step.LineAnswer.{LineAnswer}
use Rattle.pcef_sessions.specs.declared.asking.Asking.TheVariants.{Script}
use Rattle.pcef_sessions.specs.Asked.{asked_of}
use Rattle.pcef_sessions.specs.Under.{LacksUnder, Session, UnderBy, UnderName, no_session_text}
use Rattle.pcef_sessions.specs.private.Steps.{IsReadOf, RunReadLacks, RunsRead}

pub read_told : (p : Setting) (there after : Option Session) (line : List ℕ) (read : Result Line LineFault) (a : LineAnswer) → RunsRead there read (Some a) after → IsReadOf line read
    → UnderName p there line (string_bytes a.text) a.is_fault after
read_told p None after line read a runs is = absurd runs
read_told p (Some s) after line read a runs is =
    subst (λ k. UnderBy p (Some s) k line (string_bytes a.text) a.is_fault after) (sym is.1) (runs.0, (read, is.0, runs.1), runs.2)

pub none_read : (p : Setting) (there after : Option Session) (line : List ℕ) (read : Result Line LineFault) (a : LineAnswer) → RunsRead there read None after → IsReadOf line read
    → string_bytes a.text ≡ no_session_text → a.is_fault ≡ false → UnderName p there line (string_bytes a.text) a.is_fault after
none_read p None after line read a none is text right =
    subst (λ k. UnderBy p None k line (string_bytes a.text) a.is_fault after) (sym is.1) (text, right, none)
none_read p (Some s) after line read a none is text right = absurd none

pub read_lacks : (p : Setting) (there after : Option Session) (line : List ℕ) (read : Result Line LineFault) → RunReadLacks there read after → IsReadOf line read → LacksUnder p there line after
read_lacks p None after line read lacks is = absurd lacks
read_lacks p (Some s) after line read (standing, inl same, there) is = inl (there ∙ ap (λ (t : Standing). Some (record s { standing = t })) same)
read_lacks p (Some s) after line read (standing, inr done, there) is =
    inr (record {
      text = done.text;
      at_fault = done.at_fault;
      answer = subst (λ k. UnderBy p (Some s) k line done.text done.at_fault after) (sym is.1) (standing, (read, is.0, done.answer), there);
    })

pub none_lacks : (p : Setting) (there after : Option Session) (line : List ℕ) (read : Result Line LineFault) → RunsRead there read None after → LacksUnder p there line after
none_lacks p None after line read none = inl none
none_lacks p (Some s) after line read none = absurd none
