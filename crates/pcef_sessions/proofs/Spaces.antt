-- The first space of a line.
use Rattle.std.proofs.Common.{◌≡◌, ◌∙◌, ◌==◌, ℕ, zero, suc, ◌+◌, ◌<◌, ◌≤◌, Bool, true, false, List, [], ◌∷◌, length, take, drop, Option, Some, None, refl, sym, ap, arith, add-one}
use Rattle.std.specs.Prelude.{slice_index}
use Rattle.std.proofs.lemmas.Bool.{false_from_ne_true}
use Rattle.memchr.specs.Find.{IsFirstByte, Nowhere, Passes, is_byte}
use Rattle.pcef_sessions.specs.Addressed.{at_space}

-- at a place before which there is none
space_at : (line : List ℕ) (n : ℕ) → n < length line → ((k : ℕ) → k < n → (slice_index line k == 32) ≡ false) → (slice_index line n == 32) ≡ true
    → at_space line ≡ Some (take n line, drop (suc n) line)
space_at [] n lt before here = absurd (omega arith)
space_at (b ∷ line) zero lt before here = rw here refl
space_at (b ∷ line) (suc n) lt before here =
    let first : (b == 32) ≡ false = before 0 (omega arith) in
    let rest = space_at line n (omega arith) (λ k low. before (suc k) (omega arith)) here in
    rw (first, rest) refl

pub found_space : (line : List ℕ) (n : ℕ) → IsFirstByte (is_byte 32) line (Some n) → at_space line ≡ Some (take n line, drop (n + 1) line)
found_space line n found =
    space_at line n found.0.high (λ k lt. false_from_ne_true _ (found.0.before k (omega arith) lt)) found.1
    ∙ ap (λ m. Some (take n line, drop m line)) (sym (add-one n))

-- nowhere
space_none : (line : List ℕ) → ((k : ℕ) → k < length line → (slice_index line k == 32) ≡ false) → at_space line ≡ None
space_none [] none = refl
space_none (b ∷ line) none =
    let first : (b == 32) ≡ false = none 0 (omega arith) in
    let rest = space_none line (λ k lt. none (suc k) (omega arith)) in
    rw (first, rest) refl

pub no_space : (line : List ℕ) → IsFirstByte (is_byte 32) line None → at_space line ≡ None
no_space line none = space_none line (λ k lt. false_from_ne_true _ (none k (omega arith) lt))
