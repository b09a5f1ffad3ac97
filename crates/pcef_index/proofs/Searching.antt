-- The first line that fits, from words of bits.
use Rattle.std.proofs.Common.{◌≡◌, ◌<◌, ◌≤◌, ◌+◌, ◌*◌, ◌^◌, ◌∙◌, ℕ, zero, suc, Bool, true, false, Option, Some, None, List, [], ◌∷◌, length, drop, find, refl, sym, ap, arith, inl, inr}
use Rattle.std.specs.Prelude.{slice_get}
use Rattle.std.specs.Int.{bit_at, trailing_zeros, w64}
use Rattle.std.specs.Option.{option_map_or}
use Rattle.std.proofs.lemmas.Bool.{cases_Bool, cases_lt, cond-true, cond-false}
use Rattle.std.proofs.Math.ListN.{drop_of_length-le}
use Rattle.std.proofs.lemmas.Option.{slice_get_past}
use Rattle.std.proofs.lemmas.Nat.Bits.{bit_at-trailing_zeros, bit_at-zero}
use Rattle.pcef_base.proofs.Tests.{contrary}
use Rattle.std.specs.Prelude.{option_and_then}
use Rattle.pcef_index.specs.declared.lines.Line.{Line}
use Rattle.pcef_index.specs.private.Words.{AreSieved, FailTo, IsFirstIn, first_of, fits_at, passes_at, place_at}

-- a line whose bit is not there fails
pub fails_without : (test : ℕ → Bool) (numbers : List ℕ) (from word i : ℕ) → AreSieved test numbers from word → i < 64 → bit_at word i ≡ 0 → passes_at test numbers (from + i) ≡ false
fails_without test numbers from word i sieved small gone =
    elim (cases_Bool (passes_at test numbers (from + i))) [
      | inl fits ↦ absurd (let there = sieved i small fits in omega arith)
      | inr fails ↦ fails
    ]

-- the numbers before that of the lowest bit fail
pub fail_below : (test : ℕ → Bool) (numbers : List ℕ) (from word : ℕ) → 0 < word → word < 2 ^ 64 → AreSieved test numbers from word → FailTo test numbers from (trailing_zeros w64 word)
fail_below test numbers from word positive fits sieved i below =
    let low = bit_at-trailing_zeros w64 word positive fits in
    fails_without test numbers from word i sieved (omega (arith, low.0)) (low.2 i below)

-- where a word has no bit, all numbers fail
pub all_fail : (test : ℕ → Bool) (numbers : List ℕ) (from : ℕ) → AreSieved test numbers from 0 → FailTo test numbers from 64
all_fail test numbers from sieved i small = fails_without test numbers from 0 i sieved small (bit_at-zero i)

-- where the lines from the lowest bit up to one fail, the bits above are enough
pub sieved_above : (test : ℕ → Bool) (numbers : List ℕ) (from word last rest : ℕ) → 0 < word → word < 2 ^ 64 → AreSieved test numbers from word
    → ((t : ℕ) → trailing_zeros w64 word ≤ t → t ≤ last → passes_at test numbers (from + t) ≡ false) → ((i : ℕ) → i < 64 → last < i → bit_at word i ≡ 1 → bit_at rest i ≡ 1)
    → AreSieved test numbers from rest
sieved_above test numbers from word last rest positive fits sieved fail keeps i small passes =
    elim (cases_lt last i) [
      | inl above ↦ keeps i small above (sieved i small passes)
      | inr below ↦ elim (cases_lt i (trailing_zeros w64 word)) [
        | inl less ↦ contrary (passes_at test numbers (from + i)) passes (fail_below test numbers from word positive fits sieved i less)
        | inr more ↦ contrary (passes_at test numbers (from + i)) passes (fail i (omega (arith, more)) (omega (arith, below)))
      ]
    ]

-- a word without its lowest bit, and with no other one, is smaller
pub without_smaller : (word rest : ℕ) → 0 < word → word < 2 ^ 64 → rest ≤ word → bit_at rest (trailing_zeros w64 word) ≡ 0 → rest < word
without_smaller word rest positive fits most gone =
    let low = bit_at-trailing_zeros w64 word positive fits in
    elim (cases_lt rest word) [
      | inl less ↦ less
      | inr more ↦
          (let same : rest ≡ word = omega (arith, most, more) in
          let there : bit_at rest (trailing_zeros w64 word) ≡ 1 = ap (λ (n : ℕ). bit_at n (trailing_zeros w64 word)) same ∙ low.1 in
          absurd (omega (arith, there, gone)))
    ]

one_fails : (test : ℕ → Bool) (numbers : List ℕ) (a : ℕ) → passes_at test numbers a ≡ false → find test (drop (suc a) numbers) ≡ find test (drop a numbers)
one_fails test [] zero fails = refl
one_fails test [] (suc a) fails = refl
one_fails test (l ∷ ls) zero fails = sym (cond-false (test l) (Some l) (find test ls) fails)
one_fails test (l ∷ ls) (suc a) fails = one_fails test ls a fails

-- numbers that fail are skipped
pub passed_over : (test : ℕ → Bool) (numbers : List ℕ) (a n : ℕ) → FailTo test numbers a n → find test (drop (a + n) numbers) ≡ find test (drop a numbers)
passed_over test numbers a zero fail =
    let same : a + 0 ≡ a = omega arith in
    ap (λ (k : ℕ). find test (drop k numbers)) same
passed_over test numbers a (suc n) fail =
    let same : a + suc n ≡ suc (a + n) = omega arith in
    ap (λ (k : ℕ). find test (drop k numbers)) same
    ∙ one_fails test numbers (a + n) (fail n (omega arith))
    ∙ passed_over test numbers a n (λ i below. fail i (omega arith))

found_here : (test : ℕ → Bool) (numbers : List ℕ) (j : ℕ) (l : ℕ) → slice_get numbers j ≡ Some l → test l ≡ true → find test (drop j numbers) ≡ Some l
found_here test [] j l there passes = absurd (cc)
found_here test (x ∷ xs) zero l there passes =
    let same : x ≡ l = cc in
    cond-true (test x) (Some x) (find test xs) (ap test same ∙ passes) ∙ there
found_here test (x ∷ xs) (suc j) l there passes = found_here test xs j l there passes

-- the place of the first line that fits is found
pub found_in : (test : Line → Bool) (lines : List Line) (numbers : List ℕ) (from place : ℕ) → IsFirstIn test lines numbers from (Some place)
    → find (fits_at test lines) (drop from numbers) ≡ find (fits_at test lines) numbers → Some place ≡ first_of test lines numbers
found_in test lines numbers from place (i, fail, (n, there, passes, is)) same =
    let found : find (fits_at test lines) numbers ≡ Some n =
    sym same ∙ sym (passed_over (fits_at test lines) numbers from i fail) ∙ found_here (fits_at test lines) numbers (from + i) n there passes in
    sym (ap (option_and_then (place_at lines)) found ∙ is)

-- a block in which all lines fail is skipped
pub next_block : (test : ℕ → Bool) (numbers : List ℕ) (block : ℕ) → FailTo test numbers (block * 64) 64 → find test (drop (block * 64) numbers) ≡ find test numbers
    → find test (drop ((block + 1) * 64) numbers) ≡ find test numbers
next_block test numbers block fail same =
    let next : (block + 1) * 64 ≡ block * 64 + 64 = omega arith in
    ap (λ (n : ℕ). find test (drop n numbers)) next ∙ passed_over test numbers (block * 64) 64 fail ∙ same

-- and so are all blocks up to one
pub blocks_over : (test : ℕ → Bool) (numbers : List ℕ) (count : ℕ) → ((b : ℕ) → b < count → FailTo test numbers (b * 64) 64) → find test (drop (count * 64) numbers) ≡ find test numbers
blocks_over test numbers zero fail = refl
blocks_over test numbers (suc count) fail =
    let next : suc count * 64 ≡ (count + 1) * 64 = omega arith in
    ap (λ (n : ℕ). find test (drop n numbers)) next
    ∙ next_block test numbers count (fail count (omega arith)) (blocks_over test numbers count (λ b less. fail b (omega (arith, less))))

-- behind the last block no number is left
pub none_left : (test : ℕ → Bool) (numbers : List ℕ) (from : ℕ) → length numbers ≤ from → find test (drop from numbers) ≡ find test numbers → find test numbers ≡ None
none_left test numbers from past same = sym same ∙ ap (find test) (drop_of_length-le numbers past)

-- where all lines from one on fail, and the search is as if it began there, no line is found
pub rest_fails : (test : Line → Bool) (lines : List Line) (numbers : List ℕ) (from : ℕ) → ((j : ℕ) → from ≤ j → passes_at (fits_at test lines) numbers j ≡ false)
    → find (fits_at test lines) (drop from numbers) ≡ find (fits_at test lines) numbers → None ≡ first_of test lines numbers
rest_fails test lines numbers from fail same =
    let all = passed_over (fits_at test lines) numbers from (length numbers) (λ i below. fail (from + i) (omega arith)) in
    sym (ap (option_and_then (place_at lines)) (none_left (fits_at test lines) numbers (from + length numbers) (omega arith) (all ∙ same)))

-- what `get` gives of a line that fails, and past the last line
pub line_fails : (test : ℕ → Bool) (numbers : List ℕ) (j : ℕ) (l : ℕ) → slice_get numbers j ≡ Some l → test l ≡ false → passes_at test numbers j ≡ false
line_fails test numbers j l there fails = ap (λ (o : Option ℕ). option_map_or test o false) there ∙ fails

pub past_fails : (test : ℕ → Bool) (numbers : List ℕ) (j : ℕ) → length numbers ≤ j → passes_at test numbers j ≡ false
past_fails test numbers j past = ap (λ (o : Option ℕ). option_map_or test o false) (slice_get_past numbers j past)

pub weaker_at : {X : Type 0} (strong weak : X → Bool) → ((x : X) → strong x ≡ true → weak x ≡ true) → (o : Option X) → option_map_or strong o false ≡ true → option_map_or weak o false ≡ true
weaker_at strong weak less None passes = absurd (cc)
weaker_at strong weak less (Some x) passes = less x passes

-- a word that has the bits of all lines that pass a test has those of the lines that pass a stronger one
pub sieved_stronger : (strong weak : Line → Bool) (lines : List Line) (numbers : List ℕ) (from word : ℕ) → ((l : Line) → strong l ≡ true → weak l ≡ true)
    → AreSieved (fits_at weak lines) numbers from word → AreSieved (fits_at strong lines) numbers from word
sieved_stronger strong weak lines numbers from word less sieved i small passes =
    sieved i small
    (weaker_at (fits_at strong lines) (fits_at weak lines) (λ n fits. weaker_at strong weak less (slice_get lines n) fits) (slice_get numbers (from + i)) passes)
