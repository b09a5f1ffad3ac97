-- Text that a terminal shows as it stands, on one line (own choice).
use Rattle.std.specs.Prelude.{ℕ, ◌&&◌, ◌≡◌, Bool, List, nat_le, true}
use Rattle.std.specs.List.{list_all}

-- printable ASCII
abbrev pub is_plain : ℕ → Bool
is_plain b = nat_le 32 b && nat_le b 126

abbrev pub IsPlain : List ℕ → Type 0
IsPlain text = list_all is_plain text ≡ true
