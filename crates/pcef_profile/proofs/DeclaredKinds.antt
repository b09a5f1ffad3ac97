-- A table of kinds that has what is declared knows that and the standard kinds.
use Rattle.std.proofs.Common.{◌≡◌, ℕ, ◌<◌, Bool, true, false, ◌&&◌, List, [], refl}
use Rattle.std.specs.Prelude.{nat_le, Option, Some, None, if◌then◌else◌}
use Rattle.std.specs.Option.{option_or}
use Rattle.pcef_rule.specs.QciKinds.{declared_at, declared_kind, kind_of}
use Rattle.pcef_rule.specs.declared.qci.Kind.{Kind}
use Rattle.pcef_rule.specs.declared.qci.Kind.TheVariants.{Gbr, NonGbr}
use Rattle.pcef_profile.specs.ProfileOf.{Declares, kind_with}

none_at : (n : ℕ) → declared_at [] n ≡ None
none_at n = refl

standard_first : (a b : Bool) (other : Option Kind) → (if a then Some Gbr else if b then Some NonGbr else other) ≡ option_or (if a then Some Gbr else if b then Some NonGbr else None) other
standard_first true b other = refl
standard_first false true other = refl
standard_first false false other = refl

pub kind_is : (kinds : List (Option Kind)) (declared : List (ℕ × Kind)) (n : ℕ) → Declares kinds declared → n < 256 → kind_of kinds n ≡ kind_with declared n
kind_is kinds declared n known lt = rw (known n lt, none_at n) (standard_first (nat_le 1 n && nat_le n 4) (nat_le 5 n && nat_le n 9) (declared_kind declared n))
