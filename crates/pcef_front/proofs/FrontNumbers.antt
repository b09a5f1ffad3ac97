-- Octets that are at hand are those of the packet.
use Rattle.std.proofs.Common.{ℕ, zero, suc, ◌≡◌, ◌+◌, ◌<◌, ◌≤◌, ◌∙◌, ◌++◌, List, [], ◌∷◌, length, drop, slice_index, refl, sym, ap, arith}
use Rattle.std.proofs.lemmas.List.{drop-append-le, get_or_append_left, length-drop}
use Rattle.byteorder.specs.Endian.{big_from, big_number}
use Rattle.pcef_packet.specs.HeaderOf.{number}

pub index_front : (front rest : List ℕ) (i : ℕ) → i < length front → slice_index (front ++ rest) i ≡ slice_index front i
index_front front rest i within = get_or_append_left front rest 0 i within

big_front : (i n : ℕ) (front rest : List ℕ) → i + n ≤ length front → big_from i n (front ++ rest) ≡ big_from i n front
big_front i zero front rest within = refl
big_front i (suc n) front rest within = rw (index_front front rest i (omega arith), big_front (suc i) n front rest (omega arith)) refl

pub number_front : (front rest : List ℕ) (place len : ℕ) → place + len ≤ length front → number (front ++ rest) place len ≡ number front place len
number_front front rest place len within =
    let left = length-drop place front in
    ap (big_number len) (drop-append-le place front rest (omega arith)) ∙ big_front 0 len (drop place front) rest (omega arith)

-- ---- two numbers that differ in their last octets
pub at_seam : (xs : List ℕ) (x : ℕ) (more : List ℕ) → slice_index (xs ++ (x ∷ more)) (length xs) ≡ x
at_seam [] x more = refl
at_seam (y ∷ ys) x more = at_seam ys x more

big_apart : (i n : ℕ) (xs ys : List ℕ) → ((j : ℕ) → j < i + n → slice_index xs j ≡ slice_index ys j) → big_from i (suc n) xs ≡ big_from i (suc n) ys → slice_index xs (i + n) ≡ slice_index ys (i + n)
big_apart i zero xs ys same is = let at : i + 0 ≡ i = omega arith in rw at (omega arith)
big_apart i (suc n) xs ys same is =
    let at : i + suc n ≡ suc i + n = omega arith in
    let front : slice_index xs i ≡ slice_index ys i = same i (omega arith) in
    rw at (big_apart (suc i) n xs ys (λ j below. same j (omega arith)) (let left = rw front at is in omega arith))

pub last_apart : (front more : List ℕ) (x y place len : ℕ) → length front ≡ place + len
    → number (front ++ (x ∷ more)) place (suc len) ≡ number (front ++ (y ∷ more)) place (suc len) → x ≡ y
last_apart front more x y place len long is =
    let left : length (drop place front) ≡ len = (let cut = length-drop place front in omega arith) in
    let split : (z : ℕ) → drop place (front ++ (z ∷ more)) ≡ drop place front ++ (z ∷ more) = λ z. drop-append-le place front (z ∷ more) (omega arith) in
    let both : big_from 0 (suc len) (drop place front ++ (x ∷ more)) ≡ big_from 0 (suc len) (drop place front ++ (y ∷ more)) =
    ap (big_number (suc len)) (sym (split x)) ∙ is ∙ ap (big_number (suc len)) (split y) in
    let none : 0 + len ≡ length (drop place front) = omega arith in
    let last = big_apart 0 len (drop place front ++ (x ∷ more)) (drop place front ++ (y ∷ more))
    (λ j below. index_front (drop place front) (x ∷ more) j (omega arith) ∙ sym (index_front (drop place front) (y ∷ more) j (omega arith))) both in
    sym (at_seam (drop place front) x more)
    ∙ ap (slice_index (drop place front ++ (x ∷ more))) (sym none) ∙ last ∙ ap (slice_index (drop place front ++ (y ∷ more))) none
    ∙ at_seam (drop place front) y more
