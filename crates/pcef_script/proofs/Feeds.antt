-- Line feeds in bytes: the first one, and the last one.
use Rattle.std.proofs.Common.{◌≡◌, ◌∙◌, ◌==◌, ℕ, zero, suc, ◌≤◌, Bool, false, true, List, [], ◌∷◌, ◌++◌, length, take, Option, Some, None, refl, sym, ap, arith, add-one}
use Rattle.std.specs.Prelude.{◌||◌, is_some}
use Rattle.std.proofs.lemmas.Bool.{eqb-true, false_from_ne_true, false≢true}
use Rattle.std.proofs.lemmas.List.{take-take, take_all}
use Rattle.std.proofs.lemmas.List.Folds.{list_any_at, list_any_more}
use Rattle.memchr.specs.Find.{IsFirstByte, Nowhere, Passes, is_byte}
use Rattle.pcef_script.specs.ScriptLines.{has_feed}

no_feed : (bytes : List ℕ) (n : ℕ) → n ≤ length bytes → Nowhere (Passes (is_byte 10) bytes) 0 n → has_feed (take n bytes) ≡ false
no_feed bytes zero le none = refl
no_feed bytes (suc n) le none =
    let lower = no_feed bytes n (omega arith) (λ k low high. none k low (omega arith)) in
    let here = false_from_ne_true _ (none n (omega arith) (omega arith)) in
    rw (← add-one n, list_any_more (λ b. b == 10) bytes n 0 (omega arith), lower, here) refl

-- of bytes of which those up to `most` were searched
pub before_feed : (bytes near : List ℕ) (most place : ℕ) → near ≡ take most bytes → most ≤ length bytes → length near ≡ most → IsFirstByte (is_byte 10) near (Some place) → has_feed (take place bytes) ≡ false
before_feed bytes near most place is le long found =
    let low : place ≤ most = omega (arith, found.0.high, long) in
    ap has_feed (sym (take-take place most bytes low) ∙ ap (take place) (sym is)) ∙ no_feed near place (omega (arith, found.0.high)) found.0.before

pub without_feed : (bytes near : List ℕ) (most : ℕ) → near ≡ take most bytes → IsFirstByte (is_byte 10) near None → length near ≡ most → has_feed (take (length near) bytes) ≡ false
without_feed bytes near most is found long =
    ap (λ n. has_feed (take n bytes)) long ∙ ap has_feed (sym is ∙ sym (take_all (length near) near (omega arith))) ∙ no_feed near (length near) (omega arith) found

-- a search finds one where there is one
pub feed_found : (bytes : List ℕ) (r : Option ℕ) → IsFirstByte (is_byte 10) bytes r → is_some r ≡ has_feed bytes
feed_found bytes None none = sym (no_feed bytes (length bytes) (omega arith) none) ∙ ap has_feed (take_all (length bytes) bytes (omega arith))
feed_found bytes (Some place) found = sym (list_any_at (λ b. b == 10) bytes place 0 found.0.high found.1)

or_false : (x : Bool) → (x || false) ≡ x
or_false true = refl
or_false false = refl

-- bytes with a line feed, cut at the last one
pub last_feed : (bytes : List ℕ) → has_feed bytes ≡ true → (front : List ℕ) × (rest : List ℕ) × (bytes ≡ front ++ 10 ∷ rest) × (has_feed rest ≡ false)
last_feed [] some = absurd (false≢true some)
last_feed (b ∷ bytes) some = by_test (has_feed bytes) refl (last_feed bytes)
  where
    by_test : (later : Bool) → has_feed bytes ≡ later
        → (has_feed bytes ≡ true → (front : List ℕ) × (rest : List ℕ) × (bytes ≡ front ++ 10 ∷ rest) × (has_feed rest ≡ false))
        → (front : List ℕ) × (rest : List ℕ) × (b ∷ bytes ≡ front ++ 10 ∷ rest) × (has_feed rest ≡ false)
    by_test true is found =
        let h = found is in
        (b ∷ h.0, h.1, ap (λ t. b ∷ t) h.2, h.3)
    by_test false is found =
        let either = rw is at some in
        let here : (b == 10) ≡ true = sym (or_false (b == 10)) ∙ either in
        ([], bytes, ap (λ x. x ∷ bytes) (eqb-true b 10 here), is)
