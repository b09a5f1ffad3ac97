-- Allocation and retention priorities (TS 23.203, clause 6.1.7.3).
use Rattle.std.specs.Prelude.{ℕ, ◌≤◌, Bool}

-- a priority level, whether it may pre-empt, and whether it may be pre-empted
pub record Priority : Type 0 where
  pub level : ℕ
  pub capability : Bool
  pub vulnerability : Bool

-- levels are 1, the highest, to 15
abbrev pub IsLevel : ℕ → Type 0
IsLevel n = (1 ≤ n) × (n ≤ 15)
