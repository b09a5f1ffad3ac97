-- Tests with two answers.
use Rattle.std.proofs.Common.{◌≡◌, ◌∙◌, Bool, true, false, true≢false, sym}

-- a test has one answer
pub contrary : {A : Type 0} (b : Bool) → b ≡ true → b ≡ false → A
contrary b is isnt = absurd (true≢false (sym is ∙ isnt))
