-- Lines of packets with their times, one after the other.
use Rattle.std.proofs.Common.{rules, ◌≡◌, ◌∙◌, ℕ, List, [], ◌∷◌, ◌++◌, Option, Some, None, MatchOption, filter, length, append-nil, refl, ap, subst, arith}
use Rattle.std.specs.Prelude.{◌≢◌}
use Rattle.std.specs.List.{zip}
use Rattle.pcef_page.specs.declared.figures.Stamp.{Stamp}
use Rattle.pcef_page.specs.Times.{has_packet, stamp_of_pair}
use Rattle.pcef_page.proofs.Exchanges.{zip_nothing}

zip_append : (takes times later_takes later_times : List (ℕ × List ℕ)) → length takes ≡ length times
    → zip (takes ++ later_takes) (times ++ later_times) ≡ zip takes times ++ zip later_takes later_times
zip_append [] [] later_takes later_times same = refl
zip_append [] (t ∷ times) later_takes later_times same = absurd (omega (arith, same))
zip_append (p ∷ takes) [] later_takes later_times same = absurd (omega (arith, same))
zip_append (p ∷ takes) (t ∷ times) later_takes later_times same =
    ap (λ rest. (p, t) ∷ rest) (zip_append takes times later_takes later_times (omega (arith, same)))

-- behind the packets that have their times, a packet and a time come next
pub pairs_next : (script times taken timed later_takes later_times : List (ℕ × List ℕ)) (p t : ℕ × List ℕ)
    → script ≡ taken ++ p ∷ later_takes → times ≡ timed ++ t ∷ later_times → length taken ≡ length timed
    → zip script times ≡ zip taken timed ++ (p, t) ∷ zip later_takes later_times
pairs_next script times taken timed later_takes later_times p t first second same =
    rw (first, second) (zip_append taken timed (p ∷ later_takes) (t ∷ later_times) same)

-- one of the two has no more
pub no_more_times : (script times taken timed later : List (ℕ × List ℕ))
    → script ≡ taken ++ later → times ≡ timed ++ [] → length taken ≡ length timed → zip script times ≡ zip taken timed
no_more_times script times taken timed later first second same =
    rw (first, second) (zip_append taken timed later [] same ∙ ap (λ rest. zip taken timed ++ rest) (zip_nothing later) ∙ append-nil _)

pub no_more_takes : (script times taken timed later : List (ℕ × List ℕ))
    → script ≡ taken ++ [] → times ≡ timed ++ later → length taken ≡ length timed → zip script times ≡ zip taken timed
no_more_takes script times taken timed later first second same =
    rw (first, second) (zip_append taken timed [] later same ∙ append-nil _)

-- ---- the next packet
abbrev pub Next : List (ℕ × List ℕ) → List (ℕ × List ℕ) → Option ℕ → Type 0
Next old new next = MatchOption next (filter has_packet old ≡ []) (λ number. (line : List ℕ) × (filter has_packet old ≡ (number, line) ∷ filter has_packet new))

pub take_left : (old new : List (ℕ × List ℕ)) (next : Option ℕ) (number : ℕ) → next ≡ Some number → Next old new next
    → (line : List ℕ) × (filter has_packet old ≡ (number, line) ∷ filter has_packet new)
take_left old new next number is left = subst (Next old new) is left

pub none_left : (old new : List (ℕ × List ℕ)) (next : Option ℕ) → next ≡ None → Next old new next → filter has_packet old ≡ []
none_left old new next is left = subst (Next old new) is left

pub has_stamp : (p : (ℕ × List ℕ) × (ℕ × List ℕ)) (stamp : Stamp) → Some stamp ≡ stamp_of_pair p → stamp_of_pair p ≢ None
has_stamp p stamp is none = search rules
