-- The totals of keys.
use Rattle.std.proofs.Common.{◌≡◌, ◌∙◌, ◌≤◌, ◌<◌, ◌+◌, ℕ, zero, suc, List, [], ◌∷◌, ◌++◌, All, Option, Some, None, length, map, take, get_or, refl, sym, ap, subst, arith}
use Rattle.std.specs.Prelude.{slice_get, slice_index}
use Rattle.std.specs.List.{AllByRecursion}
use Rattle.std.specs.Option.{option_map, option_map_or}
use Rattle.std.proofs.lemmas.List.{length-map, map-append, take_more}
use Rattle.std.proofs.lemmas.List.Elements.{All-cons, All-nil}
use Rattle.std.proofs.lemmas.Option.{slice_get-map}
use Rattle.pcef_usage.specs.declared.usage.KeyState.{KeyState}
use Rattle.pcef_model.specs.Setting.{Setting}
use Rattle.pcef_model.specs.Entries.{Journal}
use Rattle.pcef_model.specs.Journals.{counted, reported, slots, unreported}
use Rattle.pcef_model.specs.Lawful.{Lawful}
use Rattle.pcef_model.proofs.Exactness.{lawful_exact}
use Rattle.pcef_session.specs.Agreement.{KeyAgrees, KeysAgree}
use Rattle.pcef_handover.specs.Counting.{slot_total}
use Rattle.pcef_lock.specs.Gathering.{AreGathered, gathered, key_totals, key_total}
use Rattle.pcef_lock.specs.HandedIn.{HandedIn}
use Rattle.pcef_lock.specs.declared.key_totals.KeyTotal.{KeyTotal}
use Rattle.pcef_lock.proofs.Places.{get_within}

-- ---- one key after the other
agrees_at : (p : Setting) (j : Journal) (states : List KeyState) (n : ℕ) (s : KeyState) → AllByRecursion (KeyAgrees p j) states → slice_get states n ≡ Some s → KeyAgrees p j s
agrees_at p j [] n s all is = absurd cc
agrees_at p j (x ∷ states) zero s all is = let same : x ≡ s = cc in subst (KeyAgrees p j) same all.0
agrees_at p j (x ∷ states) (suc n) s all is = agrees_at p j states n s all.1 is

stands : {X : Type 0} (xs : List X) (n : ℕ) (x : X) → n < length xs → x ≡ get_or xs n x → slice_get xs n ≡ Some x
stands [] n x within is = absurd (omega (arith, within))
stands (y ∷ xs) zero x within is = ap (λ z. Some z) (sym is)
stands (y ∷ xs) (suc n) x within is = stands xs n x (omega (arith, within)) is

key_at : (p : Setting) (j : Journal) (states : List KeyState) (n : ℕ) (s : KeyState) → KeysAgree p j states → slice_get states n ≡ Some s → slice_get (slots p j) n ≡ Some s.key
key_at p j states n s agree is =
    ap (λ keys. slice_get keys n) (sym agree.keys_are) ∙ slice_get-map (λ (x : KeyState). x.key) states n ∙ ap (option_map (λ (x : KeyState). x.key)) is

-- what is kept of a key, and what its book holds, are its total
pub total_here : (p : Setting) (j : Journal) (states : List KeyState) (amounts : List ℕ) (n : ℕ) (s : KeyState) → KeysAgree p j states → length states ≤ 8
    → ((k : ℕ) → k < 8 → slice_index amounts k ≡ slot_total p j k) → n < length states → s ≡ get_or states n s
    → record { key = s.key; counted = slice_index amounts n; reported = s.reported; unreported = s.unreported } ≡ key_total p j s.key
total_here p j states amounts n s agree few books within is =
    let here : slice_get states n ≡ Some s = stands states n s within is in
    let agrees : KeyAgrees p j s = agrees_at p j states n s agree.usage_is here in
    let book : slice_index amounts n ≡ counted p j s.key =
    books n (omega (arith, few, within)) ∙ ap (λ o. option_map_or (counted p j) o 0) (key_at p j states n s agree here) in
    let rest : s.unreported ≡ unreported p j s.key = omega (arith, agrees.reported_is, agrees.counted_is) in
    rw (book, agrees.reported_is, rest) refl

-- the first `n` totals, with the next one
pub totals_more : (p : Setting) (j : Journal) (states : List KeyState) (n : ℕ) (s : KeyState) → n < length states → s ≡ get_or states n s
    → map (λ (x : KeyState). key_total p j x.key) (take (n + 1) states) ≡ map (λ (x : KeyState). key_total p j x.key) (take n states) ++ key_total p j s.key ∷ []
totals_more p j states n s within is =
    let f : KeyState → KeyTotal = λ x. key_total p j x.key in
    ap (map f) (take_more states n s within) ∙ map-append f (take n states) (get_or states n s ∷ []) ∙ ap (λ x. map f (take n states) ++ f x ∷ []) (sym is)

-- all of them
pub totals_whole : (p : Setting) (j : Journal) (states : List KeyState) → KeysAgree p j states → map (λ (x : KeyState). key_total p j x.key) states ≡ key_totals p j
totals_whole p j states agree = from states ∙ ap (map (key_total p j)) agree.keys_are
  where
    from : (xs : List KeyState) → map (λ (x : KeyState). key_total p j x.key) xs ≡ map (key_total p j) (map (λ (x : KeyState). x.key) xs)
    from [] = refl
    from (x ∷ xs) = ap (λ ts. key_total p j x.key ∷ ts) (from xs)

-- ---- all keys
counted_at : (p : Setting) (j : Journal) (n : ℕ) (o : Option (List ℕ)) (k : KeyTotal) → slice_get (slots p j) n ≡ o → option_map (key_total p j) o ≡ Some k → k.counted ≡ slot_total p j n
counted_at p j n None k is total = absurd cc
counted_at p j n (Some key) k is total =
    let same : key_total p j key ≡ k = cc in
    ap (λ (t : KeyTotal). t.counted) (sym same) ∙ sym (ap (λ o. option_map_or (counted p j) o 0) is)

-- what was counted for the key of each slot is what was gathered for it
pub totals_gathered : (p : Setting) (j : Journal) (amounts : List ℕ) (handed : List HandedIn) → length (slots p j) ≤ 8
    → ((n : ℕ) → n < 8 → slice_index amounts n ≡ slot_total p j n) → ((n : ℕ) → n < 8 → slice_index amounts n ≡ gathered n handed) → AreGathered (key_totals p j) handed
totals_gathered p j amounts handed few books shares n k is =
    let there : option_map (key_total p j) (slice_get (slots p j) n) ≡ Some k = sym (slice_get-map (key_total p j) (slots p j) n) ∙ is in
    let within : n < length (key_totals p j) = get_within (key_totals p j) n k is in
    let below : n < 8 = omega (arith, within, few, length-map (slots p j) (key_total p j)) in
    counted_at p j n (slice_get (slots p j) n) k refl there ∙ sym (books n below) ∙ shares n below

sums_of : (p : Setting) (j : Journal) → ((key : List ℕ) → reported j key ≤ counted p j key) → (keys : List (List ℕ)) → All (λ (k : KeyTotal). k.counted ≡ k.reported + k.unreported) (map (key_total p j) keys)
sums_of p j exact [] = All-nil (λ (k : KeyTotal). k.counted ≡ k.reported + k.unreported)
sums_of p j exact (key ∷ keys) =
    All-cons (λ (k : KeyTotal). k.counted ≡ k.reported + k.unreported) (key_total p j key) (map (key_total p j) keys) (omega (arith, exact key)) (sums_of p j exact keys)

-- it is reported or unreported
pub totals_exact : (p : Setting) (j : Journal) → Lawful p j → All (λ (k : KeyTotal). k.counted ≡ k.reported + k.unreported) (key_totals p j)
totals_exact p j lawful = sums_of p j (lawful_exact p j lawful).exact (slots p j)
