-- Steps, the ports where intervals begin: how many are at or below a port, where those of each high octet stand together.
use Rattle.std.specs.Prelude.{ℕ, ◌+◌, ◌-◌, ◌/◌, ◌≡◌, ◌≤◌, ◌<◌, ◌∷◌, [], List, drop, get_or, length, nat_le, nat_lt, take, if◌then◌else◌}
use Rattle.pcef_index.specs.private.Bounds.{search}

-- the place of the first step of a high octet, or behind the last octet
abbrev pub start : List ℕ → ℕ → ℕ
start starts octet = get_or starts octet 0

-- the steps of each high octet stand behind those of the one before
pub record ArePlaced (starts ports : List ℕ) : Type 0 where
  pub full : length starts ≡ 257
  pub ordered : (h k : ℕ) → h ≤ k → k < 257 → start starts h ≤ start starts k
  pub within : (h : ℕ) → h < 257 → start starts h ≤ length ports

-- how many steps from the first on are at or below a port, up to the first that isn't
abbrev pub count_up : ℕ → List ℕ → ℕ
count_up port [] = 0
count_up port (step ∷ steps) = if nat_le step port then 1 + count_up port steps else 0

-- the same of steps in ascending order: more than sixteen are searched by halves
abbrev pub count_on : ℕ → List ℕ → ℕ
count_on port steps = if nat_lt 16 (length steps) then search (length steps) steps port 0 (length steps) else count_up port steps

-- the steps before a high octet, and those of this octet that are at or below a port
abbrev pub cell_at : List ℕ → List ℕ → ℕ → ℕ → ℕ
cell_at starts ports octet port =
    start starts octet + count_on port (take (start starts (octet + 1) - start starts octet) (drop (start starts octet) ports))

-- how many steps are at or below a port: where there are no starts, counted from the first on
unfoldable pub cell_of : List ℕ → List ℕ → ℕ → ℕ
cell_of starts ports port = if nat_lt (length starts) 257 then count_up port ports else cell_at starts ports (port / 256) port
