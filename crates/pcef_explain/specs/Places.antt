-- Where an octet of a file stands (own choice).
use Rattle.std.specs.Prelude.{ℕ, ◌+◌, ◌==◌, Bool, not, List, length, reverse}
use Rattle.std.specs.List.{count_by, take_while}

abbrev pub is_feed : ℕ → Bool
is_feed b = b == 10

-- the line of what stands behind these octets, and its column in octets, both counted from 1
abbrev pub line_behind : List ℕ → ℕ
line_behind front = count_by is_feed front + 1

abbrev pub column_behind : List ℕ → ℕ
column_behind front = length (take_while (λ b. not (is_feed b)) (reverse front)) + 1
