-- Lines that a look-up passes over, since their rules don't stand.
use Rattle.std.proofs.Common.{◌≡◌, ◌<◌, ◌≤◌, ◌+◌, ◌++◌, ◌*◌, ◌&&◌, ◌∙◌, ℕ, Bool, true, false, Option, Some, None, List, [], ◌∷◌, get_or, length, length-append, refl, subst, sym, ap, arith, inl, inr}
use Rattle.std.proofs.Math.ListN.{get_or-append}
use Rattle.std.proofs.lemmas.Bool.{and_parts, cases_eq, cases_lt}
use Rattle.std.specs.Global.{Box, Global}
use Rattle.std.specs.Int.{bit_at}
use Rattle.std.specs.Prelude.{is_some, slice_get}
use Rattle.std.specs.declared.vec.Vec.{Vec}
use Rattle.std.proofs.lemmas.List.{get_or_past, get_or_push}
use Rattle.std.specs.Option.{option_and_then, option_map, option_map_or}
use Rattle.pcef_packet.specs.declared.header.Addr.{Addr}
use Rattle.pcef_packet.specs.declared.header.Header.{Header}
use Rattle.pcef_catalog.specs.declared.listing.Offer.{Offer}
use Rattle.pcef_index.specs.declared.by_kind.ByKind.{ByKind}
use Rattle.pcef_index.specs.declared.lines.Line.{Line}
use Rattle.pcef_index.specs.private.AllSieves.{BaseValue}
use Rattle.pcef_index.specs.private.Lines.{line_fits, standing_fits, stands}
use Rattle.pcef_index.specs.private.Runs.{rule_at}
use Rattle.pcef_index.specs.private.Standing.{AreStanding, AreStandingIn, HasStanding}
use Rattle.pcef_index.specs.private.Words.{fits_at, passes_at, place_at}
use Rattle.pcef_index.proofs.Bits.{full_has}
use Rattle.pcef_index.proofs.Searching.{weaker_at}

right_false : (a b : Bool) → b ≡ false → (a && b) ≡ false
right_false true b none = none
right_false false b none = refl

line_fails : (places : List (Option ℕ)) (offers : List Offer) (ue : Addr) (h : Header) (o : Option Line) → ((k : ℕ) → option_map (λ (l : Line). l.place) o ≡ Some k → stands places k ≡ false)
    → option_map_or (standing_fits places offers ue h) o false ≡ false
line_fails places offers ue h None gone = refl
line_fails places offers ue h (Some l) gone = right_false (line_fits offers ue h l) (stands places l.place) (gone l.place refl)

number_fails : (places : List (Option ℕ)) (offers : List Offer) (ue : Addr) (h : Header) (lines : List Line) (o : Option ℕ) → ((k : ℕ) → option_and_then (place_at lines) o ≡ Some k → stands places k ≡ false)
    → option_map_or (fits_at (standing_fits places offers ue h) lines) o false ≡ false
number_fails places offers ue h lines None gone = refl
number_fails places offers ue h lines (Some n) gone = line_fails places offers ue h (slice_get lines n) gone

-- a line whose rule doesn't stand fails
gone_fails : (places : List (Option ℕ)) (offers : List Offer) (ue : Addr) (h : Header) (lines : List Line) (numbers : List ℕ) (j : ℕ)
    → ((k : ℕ) → rule_at lines numbers j ≡ Some k → stands places k ≡ false) → passes_at (fits_at (standing_fits places offers ue h) lines) numbers j ≡ false
gone_fails places offers ue h lines numbers j gone = number_fails places offers ue h lines (slice_get numbers j) gone

-- a rule behind the places doesn't stand
pub behind_fail : (places : List (Option ℕ)) (offers : List Offer) (ue : Addr) (h : Header) (lines : List Line) (numbers : List ℕ) (j : ℕ)
    → ((k : ℕ) → rule_at lines numbers j ≡ Some k → length places ≤ k) → passes_at (fits_at (standing_fits places offers ue h) lines) numbers j ≡ false
behind_fail places offers ue h lines numbers j behind =
    gone_fails places offers ue h lines numbers j (λ k there. ap is_some (get_or_past places k None (behind k there)))

-- ---- Words with the bits of lines whose rules stand

-- where no word is there, all bits are
pub all_stand : (places : List (Option ℕ)) (lines : List Line) (numbers : List ℕ) → AreStanding places lines numbers []
all_stand places lines numbers block i k small there up = full_has i small

-- one more word
pub word_more : (places : List (Option ℕ)) (lines : List Line) (numbers words : List ℕ) (word : ℕ) → AreStanding places lines numbers words
    → HasStanding places lines numbers (length words) word → AreStanding places lines numbers (words ++ word ∷ [])
word_more places lines numbers words word are has block i k small there up =
    let all : ℕ = 18446744073709551615 in
    let longer = length-append words (word ∷ []) in
    elim (cases_lt block (length words)) [
      | inl before ↦ subst (λ (w : ℕ). bit_at w i ≡ 1) (sym (get_or-append words (word ∷ []) all block before)) (are block i k small there up)
      | inr behind ↦ elim (cases_eq block (length words)) [
        | inl same ↦
            subst (λ (w : ℕ). bit_at w i ≡ 1) (sym (get_or_push words word all block (omega (arith, same)))) (has i k small (subst (λ (b : ℕ). rule_at lines numbers (b * 64 + i) ≡ Some k) same there) up)
        | inr other ↦
            subst (λ (w : ℕ). bit_at w i ≡ 1) (sym (get_or_past (words ++ word ∷ []) block all (omega (arith, behind, other, longer)))) (full_has i small)
      ]
    ]

-- where there are no words at all, they are right for all rules
pub all_stand_in : (base : BaseValue) (places : List (Option ℕ)) → AreStandingIn base places None
all_stand_in base places kind s is = all_stand places base.lines s.value.numbers.items

-- a line that fits, and whose rule stands, has its bit in a word of those that stand
place_stands : (places : List (Option ℕ)) (offers : List Offer) (ue : Addr) (h : Header) (o : Option Line) → option_map_or (standing_fits places offers ue h) o false ≡ true
    → (k : ℕ) × (option_map (λ (l : Line). l.place) o ≡ Some k) × (stands places k ≡ true)
place_stands places offers ue h None passes = absurd (cc)
place_stands places offers ue h (Some l) passes = (l.place, refl, (and_parts (line_fits offers ue h l) (stands places l.place) passes).1)

rule_stands : (places : List (Option ℕ)) (offers : List Offer) (ue : Addr) (h : Header) (lines : List Line) (o : Option ℕ) → option_map_or (fits_at (standing_fits places offers ue h) lines) o false ≡ true
    → (k : ℕ) × (option_and_then (place_at lines) o ≡ Some k) × (stands places k ≡ true)
rule_stands places offers ue h lines None passes = absurd (cc)
rule_stands places offers ue h lines (Some n) passes = place_stands places offers ue h (slice_get lines n) passes

pub standing_has : (places : List (Option ℕ)) (offers : List Offer) (ue : Addr) (h : Header) (lines : List Line) (numbers : List ℕ) (block word i : ℕ) → HasStanding places lines numbers block word → i < 64
    → passes_at (fits_at (standing_fits places offers ue h) lines) numbers (block * 64 + i) ≡ true → bit_at word i ≡ 1
standing_has places offers ue h lines numbers block word i has small passes =
    let up = rule_stands places offers ue h lines (slice_get numbers (block * 64 + i)) passes in has i up.0 small up.1 up.2

-- and it fits wherever its rule stands
pub fits_too : (places : List (Option ℕ)) (offers : List Offer) (ue : Addr) (h : Header) (lines : List Line) (numbers : List ℕ) (j : ℕ)
    → passes_at (fits_at (standing_fits places offers ue h) lines) numbers j ≡ true → passes_at (fits_at (line_fits offers ue h) lines) numbers j ≡ true
fits_too places offers ue h lines numbers j passes =
    let weaker : (l : Line) → standing_fits places offers ue h l ≡ true → line_fits offers ue h l ≡ true = λ l fits. (and_parts (line_fits offers ue h l) (stands places l.place) fits).0 in
    weaker_at (fits_at (standing_fits places offers ue h) lines) (fits_at (line_fits offers ue h) lines) (λ n fits. weaker_at (standing_fits places offers ue h) (line_fits offers ue h) weaker (slice_get lines n) fits) (slice_get numbers j) passes
