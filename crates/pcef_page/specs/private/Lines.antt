-- Lines that are left to be read: for private clauses.
use Rattle.std.specs.Prelude.{ℕ, ◌≡◌, ◌+◌, ◌<◌, ◌≤◌, ◌^◌, List, [], ◌∷◌, length, Option, Some, None, option_map}
use Rattle.pcef_page.specs.Pairing.{filled_from, split_lines}
use Rattle.pcef_page.specs.declared.pairing.Lines.{Lines}

-- the first line, and what follows the line feed that ends it
abbrev pub IsFirstLine : List ℕ → List ℕ → Option (List ℕ) → Type 0
IsFirstLine octets first None = split_lines octets ≡ first ∷ []
IsFirstLine octets first (Some rest) = (split_lines octets ≡ first ∷ split_lines rest) × (length rest + 1 ≤ length octets)

abbrev pub lines_in : Option (List ℕ) → List (List ℕ)
lines_in None = []
lines_in (Some octets) = split_lines octets

-- how much there is to read
abbrev pub size_in : Option (List ℕ) → ℕ
size_in None = 0
size_in (Some octets) = length octets + 1

-- what the rest is
abbrev pub rest_of : Lines → Option (List ℕ)
rest_of l = option_map (λ r. r.now) l.rest

abbrev pub lines_left : Lines → List (List ℕ)
lines_left l = lines_in (rest_of l)

abbrev pub left : Lines → List (ℕ × List ℕ)
left l = filled_from (l.before + 1) (lines_left l)

abbrev pub size : Lines → ℕ
size l = size_in (rest_of l)

-- the number of each line that is left is at most the greatest number
abbrev pub HasRoom : Lines → Type 0
HasRoom l = l.before + size l < 2 ^ 64
