-- What stands before an answer says whose it is.
use Rattle.std.proofs.Common.{◌≡◌, ℕ, Bool, true, false, List, [], ◌∷◌, Option, Some, None, refl, sym, ap, subst}
use Rattle.std.specs.Prelude.{◌&&◌, not, option_and_then, option_map, if◌then◌else◌}
use Rattle.std.proofs.lemmas.Bool.{and_parts, false≢true}
use Rattle.pcef_script.specs.ScriptLines.{is_blank_line}
use Rattle.pcef_sessions.specs.Addressed.{at_space, for_session, is_session_name, addressed_name, no_name}
use Rattle.pcef_sessions.specs.Served.{NamesAreToldApart, name_bytes}

abbrev Halves : Type 0
Halves = List ℕ × List ℕ

-- each name is a session's
abbrev IsOfSession : Option (List ℕ) → Type 0
IsOfSession None = Unit {0}
IsOfSession (Some name) = is_session_name name ≡ true

named_if : (p : Halves) (test : Bool) → (is_session_name p.0 && not (is_blank_line p.1)) ≡ test → IsOfSession (option_map (λ (q : Halves). q.0) (if test then Some p else None))
named_if p false isnt = tt
named_if p true is = (and_parts (is_session_name p.0) (not (is_blank_line p.1)) is).0

named_by : (o : Option Halves) → IsOfSession (option_map (λ (q : Halves). q.0) (option_and_then for_session o))
named_by None = tt
named_by (Some p) = named_if p (is_session_name p.0 && not (is_blank_line p.1)) refl

no_dash : (name : List ℕ) → is_session_name name ≡ true → name ≡ no_name → ⊥
no_dash name is same = false≢true (subst (λ n. is_session_name n ≡ true) same is)

same_by : (a b : Option (List ℕ)) → IsOfSession a → IsOfSession b → name_bytes a ≡ name_bytes b → a ≡ b
same_by None None h k e = refl
same_by None (Some b) h k e = absurd (no_dash b k (sym e))
same_by (Some a) None h k e = absurd (no_dash a h e)
same_by (Some a) (Some b) h k e = ap (λ (n : List ℕ). Some n) e

pub told_apart : NamesAreToldApart
told_apart line other e = same_by (addressed_name line) (addressed_name other) (named_by (at_space line)) (named_by (at_space other)) e
