-- Names of rules and monitoring keys.
use Rattle.std.specs.Prelude.{◌≤◌, ◌<◌, ℕ, List, length, All}

-- a visible ASCII character: 0x21 to 0x7E (own choice)
abbrev pub IsVisible : ℕ → Type 0
IsVisible b = (33 ≤ b) × (b ≤ 126)

-- 1 to 64 of them (own choice: Charging-Rule-Name and Monitoring-Key are any octets by TS 29.212, clauses 5.3.6 and
-- 5.3.59)
abbrev pub IsName : List ℕ → Type 0
IsName bytes = (0 < length bytes) × (length bytes ≤ 64) × All IsVisible bytes
