-- The session that the line of a frame is for.
use Rattle.std.proofs.Common.{◌≡◌, ◌≢◌, ◌∙◌, ◌==◌, ℕ, ◌≤◌, Bool, true, false, List, [], ◌∷◌, ◌++◌, Option, Some, Ok, refl, sym, ap, arith, subst}
use Rattle.std.specs.Prelude.{◌&&◌, All, not, option_and_then, option_map, if◌then◌else◌}
use Rattle.std.proofs.lemmas.Bool.{ne_eqb}
use Rattle.std.proofs.lemmas.List.Elements.{All-head, All-tail}
use Rattle.pcef_model.specs.Setting.{Setting}
use Rattle.pcef_rule.specs.Name.{IsName, IsVisible}
use Rattle.pcef_script.specs.ScriptLines.{is_blank_line}
use Rattle.pcef_sessions.specs.Addressed.{addressed, at_space, for_session, is_session_name}
use Rattle.pcef_sessions.specs.Frames.{meaning, named_line}
use Rattle.pcef_sessions.specs.FrameSayings.{LacksToFrame, SaysToFrame}
use Rattle.pcef_sessions.specs.Sayings.{LacksTo, Said, SaysTo}
use Rattle.pcef_sessions.specs.Under.{LacksUnder, Session, UnderName}
use Rattle.pcef_sessions.proofs.NameTests.{session_names}

space_behind : (name line : List ℕ) → All IsVisible name → at_space (named_line name line) ≡ Some (name, line)
space_behind [] line visible = refl
space_behind (b ∷ name) line visible =
    let here = All-head IsVisible b name visible in
    let isnt : (b == 32) ≡ false = ne_eqb b 32 (λ e. absurd (omega (arith, here.0, e))) in
    let rest = space_behind name line (All-tail IsVisible b name visible) in
    rw (isnt, rest) refl

pub named_line_for : (name line : List ℕ) → is_session_name name ≡ true → is_blank_line line ≡ false → addressed (named_line name line) ≡ Some (name, line)
named_line_for name line is filled =
    ap (option_and_then for_session) (space_behind name line (session_names name is).2) ∙ rw (is, filled) refl

-- the answer to a frame is the one to its line
pub frame_told : (p : Setting) (old new : List ℕ → Option Session) (octets name line : List ℕ) (said : Said) → is_session_name name ≡ true → is_blank_line line ≡ false → meaning octets ≡ Ok (named_line name line)
    → said.name ≡ Some name → UnderName p (old name) line said.text said.at_fault (new name) → ((other : List ℕ) → other ≢ name → new other ≡ old other) → SaysToFrame p old (meaning octets) said new
frame_told p old new octets name line said is filled means own under others =
    subst (λ m. SaysToFrame p old m said new) (sym means) (subst (λ o. SaysTo p old o said new) (sym (named_line_for name line is filled)) (own, under, others))

pub frame_lacks : (p : Setting) (old new : List ℕ → Option Session) (octets name line : List ℕ) → is_session_name name ≡ true → is_blank_line line ≡ false → meaning octets ≡ Ok (named_line name line)
    → LacksUnder p (old name) line (new name) → ((other : List ℕ) → other ≢ name → new other ≡ old other) → LacksToFrame p old (meaning octets) new
frame_lacks p old new octets name line is filled means under others =
    subst (λ m. LacksToFrame p old m new) (sym means) (subst (λ o. LacksTo p old o new) (sym (named_line_for name line is filled)) (under, others))
