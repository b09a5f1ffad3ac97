-- Lists of active rules: filters, sums, and the changes of one bearer after the other.
use Rattle.std.proofs.Common.{◌≡◌, ◌∙◌, ◌+◌, ◌≤◌, ◌<◌, ◌⊎◌, inl, inr, ℕ, Bool, true, false, cond, List, [], ◌∷◌, ◌++◌, length, map, take, slice_index, slice_index_or, slice_set, refl, sym, ap, subst, add-one, arith}
use Rattle.std.specs.Prelude.{◌==◌, filter, if◌then◌else◌}
use Rattle.std.specs.List.{flat_map}
use Rattle.std.proofs.Math.Seq.{take-suc}
use Rattle.std.proofs.lemmas.Bool.{cases_lt}
use Rattle.std.proofs.lemmas.List.{flat_map_more, get_or-set_other, get_or-set_same}
use Rattle.pcef_page.specs.Guarantees.{RuleFigure}
use Rattle.pcef_page.specs.private.Rules.{rule_of}
use Rattle.pcef_page.specs.declared.rates.Active.{Active}

-- what is kept of a list of rules is what is kept of the rules
chosen_map : (a : Active) (rules : List Active) (kept : List RuleFigure) (b : Bool) → map rule_of rules ≡ kept
    → map rule_of (cond b (a ∷ rules) rules) ≡ cond b (rule_of a ∷ kept) kept
chosen_map a rules kept true is = ap (λ t. rule_of a ∷ t) is
chosen_map a rules kept false is = is

pub map_filtered : (test : RuleFigure → Bool) (rules : List Active) → map rule_of (filter (λ a. test (rule_of a)) rules) ≡ filter test (map rule_of rules)
map_filtered test [] = refl
map_filtered test (a ∷ rules) =
    chosen_map a (filter (λ x. test (rule_of x)) rules) (filter test (map rule_of rules)) (test (rule_of a)) (map_filtered test rules)

-- ---- sums
abbrev pub ups : ℕ → Active → ℕ
ups bearer a = if a.bearer == bearer then a.up else 0

abbrev pub downs : ℕ → Active → ℕ
downs bearer a = if a.bearer == bearer then a.down else 0

-- ---- one bearer after the other
pub pair_is : (x : ℕ × ℕ) (a b : ℕ) → x.0 ≡ a → x.1 ≡ b → x ≡ (a, b)
pair_is (p, q) a b first second = ap (λ n. (n, q)) first ∙ ap (λ n. (a, n)) second

next_pair : (all : List (ℕ × ℕ)) (place k : ℕ) (x : ℕ × ℕ) (due : ℕ → ℕ × ℕ) → place < length all → x ≡ due place
    → ((j : ℕ) → j < place → slice_index_or all j (0, 0) ≡ due j) → (k < place) ⊎ (place ≤ k) → k < place + 1 → slice_index_or (slice_set all place x) k (0, 0) ≡ due k
next_pair all place k x due within is before (inl below) next =
    get_or-set_other all place k x (0, 0) (λ same. let bad : place < place = subst (λ n. n < place) same below in omega (arith, bad)) ∙ before k below
next_pair all place k x due within is before (inr above) next =
    let same : k ≡ place = omega (arith, above, next) in
    rw same (get_or-set_same all place x (0, 0) within ∙ is)

pub more_pairs : (all : List (ℕ × ℕ)) (place : ℕ) (x : ℕ × ℕ) (due : ℕ → ℕ × ℕ) → place < length all → x ≡ due place
    → ((j : ℕ) → j < place → slice_index_or all j (0, 0) ≡ due j) → (k : ℕ) → k < place + 1 → slice_index_or (slice_set all place x) k (0, 0) ≡ due k
more_pairs all place x due within is before k next = next_pair all place k x due within is before (cases_lt k place) next

-- a list that is made up to a place is made up to the next
pub flat_next : {X : Type 0} (f : ℕ → List X) (told before new : List X) (xs : List ℕ) (place : ℕ) → place < length xs
    → told ≡ before ++ flat_map f (take place xs) → new ≡ told ++ f (slice_index xs place) → new ≡ before ++ flat_map f (take (place + 1) xs)
flat_next f told before new xs place within was is =
    is ∙ ap (λ t. t ++ f (slice_index xs place)) was ∙ flat_map_more f before (take place xs) (slice_index xs place)
    ∙ ap (λ t. before ++ flat_map f t) (sym (take-suc xs place 0 within)) ∙ ap (λ n. before ++ flat_map f (take n xs)) (sym (add-one place))
