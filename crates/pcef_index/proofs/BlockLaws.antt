-- Places in the words of blocks.
use Rattle.std.proofs.Common.{◌≡◌, ◌<◌, ◌≤◌, ◌+◌, ◌*◌, ◌++◌, ℕ, suc, List, [], ◌∷◌, length, length-append, get_or, arith, inl, inr}
use Rattle.std.proofs.lemmas.Bool.{cases_lt}
use Rattle.std.proofs.Math.ListN.{get_or-append}
use Rattle.std.proofs.Math.Nat.{mul-le-mul_left, mul-suc}
use Rattle.std.proofs.lemmas.List.{get_or_push}
use Rattle.pcef_index.specs.declared.blocks.BlockWords.{BlockWords}
use Rattle.pcef_index.specs.private.Blocks.{AscendTo, HasWord, HaveWords}

pub place_within : (size blocks block k long : ℕ) → long ≡ size * blocks → block < blocks → k < size → size * block + k < long
place_within size blocks block k long is less small =
    let le : size * suc block ≤ size * blocks = mul-le-mul_left size less in
    let next : size * suc block ≡ size * block + size = mul-suc size block in
    omega (arith, is, le, next, small)

-- each row of a block has a word
pub has_word : (w : BlockWords) (blocks block row : ℕ) → HaveWords blocks w → block < blocks → row < w.rows → HasWord w block row
has_word w blocks block row have less small =
    let within = place_within w.rows blocks block row (length w.places.items) have.long less small in
    let below = have.placed.below (w.rows * block + row) within in
    let some = have.some in
    record { place = within; word = omega (arith, below, some) }

pub none_ascend : (most : ℕ) → AscendTo most []
none_ascend most = record { ordered = λ h k less within. absurd (omega arith); below = λ h within. absurd (omega arith) }

-- what ascends to a number does so to a higher one
pub ascend_above : (places : List ℕ) (most more : ℕ) → AscendTo most places → most ≤ more → AscendTo more places
ascend_above places most more a less = record { ordered = a.ordered; below = λ h within. (let low = a.below h within in omega (arith, low, less)) }

still_below : (places : List ℕ) (more : ℕ) → AscendTo more places → (h : ℕ) → h < length places + 1 → get_or (places ++ more ∷ []) h 0 ≤ more
still_below places more a h within =
    elim (cases_lt h (length places)) [
      | inl before ↦ (let low = a.below h before in rw (get_or-append places (more ∷ []) 0 h before) low)
      | inr last ↦ rw (get_or_push places more 0 h (omega (arith, last, within))) (omega arith)
    ]

-- one more place at the number
pub ascend_more : (places : List ℕ) (more : ℕ) → AscendTo more places → AscendTo more (places ++ more ∷ [])
ascend_more places more a =
    let longer = length-append places (more ∷ []) in
    record {
      ordered = λ h k order within. elim (cases_lt k (length places)) [
        | inl before ↦
            rw (get_or-append places (more ∷ []) 0 h (omega (arith, order, before)), get_or-append places (more ∷ []) 0 k before) (a.ordered h k order before)
        | inr last ↦
            rw (get_or_push places more 0 k (omega (arith, last, within, longer))) (still_below places more a h (omega (arith, order, within, longer)))
      ];
      below = λ h within. still_below places more a h (omega (arith, within, longer));
    }
