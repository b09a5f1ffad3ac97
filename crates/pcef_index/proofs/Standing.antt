-- From the first line that fits to the first rule that does, where only some rules stand.
use Rattle.std.proofs.Common.{◌≡◌, ◌<◌, ◌+◌, ◌&&◌, ◌||◌, ◌++◌, ◌∙◌, ℕ, zero, suc, Bool, true, false, Option, Some, None, List, [], ◌∷◌, find, refl, sym, ap, arith, inl, inr}
use Rattle.std.specs.List.{list_any}
use Rattle.std.specs.Option.{option_map}
use Rattle.std.proofs.lemmas.Bool.{cases_Bool, cond-false, cond-true}
use Rattle.pcef_packet.specs.declared.header.Addr.{Addr}
use Rattle.pcef_packet.specs.declared.header.Header.{Header}
use Rattle.pcef_filter.specs.declared.filter.Filter.{Filter}
use Rattle.pcef_filter.specs.Matching.{matches}
use Rattle.pcef_catalog.specs.declared.listing.Offer.{Offer}
use Rattle.pcef_catalog.specs.Shapes.{detected}
use Rattle.pcef_table.specs.declared.entry.Source.{Source}
use Rattle.pcef_table.specs.declared.entry.Source.TheVariants.{Dynamic, Predefined}
use Rattle.pcef_table.specs.Sources.{source_fits}
use Rattle.pcef_index.specs.declared.lines.Line.{Line}
use Rattle.pcef_index.specs.declared.lines.Part.TheVariants as part
use Rattle.pcef_index.specs.private.Bases.{IsFirstOf, fits_at, stands_and_fits}
use Rattle.pcef_index.specs.private.Lines.{filter_lines, lines_from, source_lines, standing_fits, stands}

-- the place of the rule of a line that is found
abbrev pub place_of : Option Line → Option ℕ
place_of o = option_map (λ (l : Line). l.place) o

-- of two alternatives neither holds together with a third
or_and_false : (a b c : Bool) → ((a || b) && c) ≡ false → ((a && c) ≡ false) × ((b && c) ≡ false)
or_and_false true true true fails = absurd (cc)
or_and_false true true false fails = (refl, refl)
or_and_false true false true fails = absurd (cc)
or_and_false true false false fails = (refl, refl)
or_and_false false b c fails = (refl, fails)

-- one of two alternatives that fails leaves the other one
or_and_true : (a b c : Bool) → ((a || b) && c) ≡ true → (a && c) ≡ false → (b && c) ≡ true
or_and_true true true true holds fails = absurd (cc)
or_and_true true true false holds fails = absurd (cc)
or_and_true true false true holds fails = absurd (cc)
or_and_true true false false holds fails = absurd (cc)
or_and_true false b c holds fails = holds

filters_some : (places : List (Option ℕ)) (offers : List Offer) (ue : Addr) (h : Header) (k : ℕ) (fs : List Filter) (rest : List Line) → (list_any (λ f. matches f ue h) fs && stands places k) ≡ true
    → place_of (find (standing_fits places offers ue h) (filter_lines k fs ++ rest)) ≡ Some k
filters_some places offers ue h k [] rest any = absurd (cc)
filters_some places offers ue h k (f ∷ fs) rest any =
    let line : Line = record { place = k; part = part.Filter f } in
    let test = standing_fits places offers ue h in
    elim (cases_Bool (matches f ue h && stands places k)) [
      | inl here ↦ ap place_of (cond-true (matches f ue h && stands places k) (Some line) (find test (filter_lines k fs ++ rest)) here)
      | inr not_here ↦
          ap place_of (cond-false (matches f ue h && stands places k) (Some line) (find test (filter_lines k fs ++ rest)) not_here)
          ∙ filters_some places offers ue h k fs rest (or_and_true (matches f ue h) (list_any (λ f. matches f ue h) fs) (stands places k) any not_here)
    ]

filters_none : (places : List (Option ℕ)) (offers : List Offer) (ue : Addr) (h : Header) (k : ℕ) (fs : List Filter) (rest : List Line) → (list_any (λ f. matches f ue h) fs && stands places k) ≡ false
    → find (standing_fits places offers ue h) (filter_lines k fs ++ rest) ≡ find (standing_fits places offers ue h) rest
filters_none places offers ue h k [] rest none = refl
filters_none places offers ue h k (f ∷ fs) rest none =
    let line : Line = record { place = k; part = part.Filter f } in
    let test = standing_fits places offers ue h in
    let both = or_and_false (matches f ue h) (list_any (λ f. matches f ue h) fs) (stands places k) none in
    cond-false (matches f ue h && stands places k) (Some line) (find test (filter_lines k fs ++ rest)) both.0
    ∙ filters_none places offers ue h k fs rest both.1

source_some : (places : List (Option ℕ)) (offers : List Offer) (ue : Addr) (h : Header) (k : ℕ) (s : Source) (rest : List Line) → (source_fits offers ue h s && stands places k) ≡ true
    → place_of (find (standing_fits places offers ue h) (source_lines k s ++ rest)) ≡ Some k
source_some places offers ue h k (Dynamic rule) rest passes = filters_some places offers ue h k rule.filters rest passes
source_some places offers ue h k (Predefined index) rest passes =
    let line : Line = record { place = k; part = part.Offer index } in
    ap place_of (cond-true (detected offers index h && stands places k) (Some line) (find (standing_fits places offers ue h) rest) passes)

source_none : (places : List (Option ℕ)) (offers : List Offer) (ue : Addr) (h : Header) (k : ℕ) (s : Source) (rest : List Line) → (source_fits offers ue h s && stands places k) ≡ false
    → find (standing_fits places offers ue h) (source_lines k s ++ rest) ≡ find (standing_fits places offers ue h) rest
source_none places offers ue h k (Dynamic rule) rest fails = filters_none places offers ue h k rule.filters rest fails
source_none places offers ue h k (Predefined index) rest fails =
    let line : Line = record { place = k; part = part.Offer index } in
    cond-false (detected offers index h && stands places k) (Some line) (find (standing_fits places offers ue h) rest) fails

-- rule i of some, the first of which has number k, fits and stands
abbrev from_on : List (Option ℕ) → List Offer → Addr → Header → ℕ → List Source → ℕ → Bool
from_on places offers ue h k ss i = fits_at offers ue h ss i && stands places (k + i)

later_fails : (places : List (Option ℕ)) (offers : List Offer) (ue : Addr) (h : Header) (k : ℕ) (s : Source) (ss : List Source) (i : ℕ) → (source_fits offers ue h s && stands places k) ≡ false
    → ((j : ℕ) → from_on places offers ue h (k + 1) ss j ≡ false) → from_on places offers ue h k (s ∷ ss) i ≡ false
later_fails places offers ue h k s ss zero fails later =
    let same : k + 0 ≡ k = omega arith in
    ap (λ (n : ℕ). source_fits offers ue h s && stands places n) same ∙ fails
later_fails places offers ue h k s ss (suc j) fails later =
    let same : k + suc j ≡ k + 1 + j = omega arith in
    ap (λ (n : ℕ). fits_at offers ue h ss j && stands places n) same ∙ later j

-- where no line fits, no rule does
none_stands : (places : List (Option ℕ)) (offers : List Offer) (ue : Addr) (h : Header) (k : ℕ) (ss : List Source) → place_of (find (standing_fits places offers ue h) (lines_from k ss)) ≡ None
    → (i : ℕ) → from_on places offers ue h k ss i ≡ false
none_stands places offers ue h k [] none i = refl
none_stands places offers ue h k (s ∷ ss) none i =
    let rest = lines_from (k + 1) ss in
    elim (cases_Bool (source_fits offers ue h s && stands places k)) [
      | inl passes ↦ absurd (let some = source_some places offers ue h k s rest passes in cc)
      | inr fails ↦ later_fails places offers ue h k s ss i fails (none_stands places offers ue h (k + 1) ss (sym (ap place_of (source_none places offers ue h k s rest fails)) ∙ none))
    ]

before_fails : (places : List (Option ℕ)) (offers : List Offer) (ue : Addr) (h : Header) (k : ℕ) (s : Source) (ss : List Source) (i j : ℕ) → (source_fits offers ue h s && stands places k) ≡ false
    → ((j : ℕ) → j < i → from_on places offers ue h (k + 1) ss j ≡ false) → j < suc i → from_on places offers ue h k (s ∷ ss) j ≡ false
before_fails places offers ue h k s ss i zero fails later below =
    let same : k + 0 ≡ k = omega arith in
    ap (λ (n : ℕ). source_fits offers ue h s && stands places n) same ∙ fails
before_fails places offers ue h k s ss i (suc j) fails later below =
    let same : k + suc j ≡ k + 1 + j = omega arith in
    ap (λ (n : ℕ). fits_at offers ue h ss j && stands places n) same ∙ later j (omega (arith, below))

-- the place of the first line that fits is that of the first rule that does
first_stands : (places : List (Option ℕ)) (offers : List Offer) (ue : Addr) (h : Header) (k n : ℕ) (ss : List Source) → place_of (find (standing_fits places offers ue h) (lines_from k ss)) ≡ Some n
    → (i : ℕ) × (n ≡ k + i) × (from_on places offers ue h k ss i ≡ true) × ((j : ℕ) → j < i → from_on places offers ue h k ss j ≡ false)
first_stands places offers ue h k n [] some = absurd (cc)
first_stands places offers ue h k n (s ∷ ss) some =
    let rest = lines_from (k + 1) ss in
    elim (cases_Bool (source_fits offers ue h s && stands places k)) [
      | inl passes ↦
          (let here = source_some places offers ue h k s rest passes in
          let same : n ≡ k = cc in
          let this : k + 0 ≡ k = omega arith in
          (0, omega (arith, same), ap (λ (m : ℕ). source_fits offers ue h s && stands places m) this ∙ passes, λ j below. absurd (omega arith)))
      | inr fails ↦
          (let later = first_stands places offers ue h (k + 1) n ss (sym (ap place_of (source_none places offers ue h k s rest fails)) ∙ some) in
          let same : k + suc later.0 ≡ k + 1 + later.0 = omega arith in (
            suc later.0,
            omega (arith, later.1),
            ap (λ (m : ℕ). fits_at offers ue h ss later.0 && stands places m) same ∙ later.2,
            λ j below. before_fails places offers ue h k s ss later.0 j fails later.3 below,
          ))
    ]

from_zero : (places : List (Option ℕ)) (offers : List Offer) (ue : Addr) (h : Header) (ss : List Source) (k : ℕ) → from_on places offers ue h 0 ss k ≡ stands_and_fits places offers ue h ss k
from_zero places offers ue h ss k =
    let same : 0 + k ≡ k = omega arith in
    ap (λ (n : ℕ). fits_at offers ue h ss k && stands places n) same

first_from : (places : List (Option ℕ)) (offers : List Offer) (ue : Addr) (h : Header) (ss : List Source) (o : Option ℕ)
    → o ≡ place_of (find (standing_fits places offers ue h) (lines_from 0 ss)) → IsFirstOf (stands_and_fits places offers ue h ss) o
first_from places offers ue h ss None is = λ k. sym (from_zero places offers ue h ss k) ∙ none_stands places offers ue h 0 ss (sym is) k
first_from places offers ue h ss (Some n) is =
    let first = first_stands places offers ue h 0 n ss (sym is) in
    let same : n ≡ first.0 = omega (arith, first.1) in (
      ap (stands_and_fits places offers ue h ss) same ∙ sym (from_zero places offers ue h ss first.0) ∙ first.2,
      λ k below. sym (from_zero places offers ue h ss k) ∙ first.3 k (omega (arith, below, same)),
    )

-- the place of the first line of rules that fits says which rule is the first that does
pub first_rule : (places : List (Option ℕ)) (offers : List Offer) (ue : Addr) (h : Header) (ss : List Source) (lines : List Line) (o : Option ℕ) → lines ≡ lines_from 0 ss
    → o ≡ place_of (find (standing_fits places offers ue h) lines) → IsFirstOf (stands_and_fits places offers ue h ss) o
first_rule places offers ue h ss lines o are is =
    first_from places offers ue h ss o (is ∙ ap (λ (ls : List Line). place_of (find (standing_fits places offers ue h) ls)) are)
