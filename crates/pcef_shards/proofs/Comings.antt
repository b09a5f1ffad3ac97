-- What is still to come of a part.
use Rattle.std.proofs.Common.{◌≡◌, ◌∙◌, ℕ, zero, suc, ◌≤◌, List, [], ◌∷◌, ◌++◌, length, drop, Option, Some, None, refl, sym, ap, subst, append_assoc, append-nil, arith}
use Rattle.std.specs.Prelude.{Vec}
use Rattle.std.specs.declared.alloc.Global.{Global}
use Rattle.std.specs.Io.KnownBytes.{Consumes, IsAtEnd}
use Rattle.pcef_shards.specs.declared.parcel.Parcel.{Parcel}
use Rattle.pcef_shards.specs.Leading.{Follows, FollowsIn, IfKnown, octets_in, octets_if_there, to_come}

-- past the end
pub past : (n : ℕ) (xs : List ℕ) → length xs ≤ n → drop n xs ≡ []
past zero [] le = refl
past zero (x ∷ xs) le = absurd (omega (arith, le))
past (suc n) [] le = refl
past (suc n) (x ∷ xs) le = past n xs (omega (arith, le))

drop_front : (front rest : List ℕ) → drop (length front) (front ++ rest) ≡ rest
drop_front [] rest = refl
drop_front (b ∷ front) rest = drop_front front rest

pub in_append : (xs ys : List Parcel) → octets_in (xs ++ ys) ≡ octets_in xs ++ octets_in ys
in_append [] ys = refl
in_append (x ∷ xs) ys = ap (λ t. octets_if_there x.octets ++ t) (in_append xs ys) ∙ sym (append_assoc (octets_if_there x.octets) (octets_in xs) (octets_in ys))

pub in_more : (xs : List Parcel) (x : Parcel) → octets_in (xs ++ x ∷ []) ≡ octets_in xs ++ octets_if_there x.octets
in_more xs x = in_append xs (x ∷ []) ∙ ap (λ t. octets_in xs ++ t) (append-nil (octets_if_there x.octets))

-- the next octets arrive
pub octets_come : (part : Option (List ℕ)) (front : List ℕ) (octets : Vec ℕ Global) → IfKnown part (λ whole. FollowsIn whole front (Some octets))
    → to_come part (front ++ octets.items) octets.items ≡ to_come part front []
octets_come None front octets h = refl
octets_come (Some whole) front octets h =
    let split : whole ≡ front ++ (octets.items ++ h.0) = h.1 ∙ append_assoc front octets.items h.0 in
    let before : drop (length front) whole ≡ octets.items ++ h.0 = ap (drop (length front)) split ∙ drop_front front (octets.items ++ h.0) in
    let after : drop (length (front ++ octets.items)) whole ≡ h.0 = ap (drop (length (front ++ octets.items))) h.1 ∙ drop_front (front ++ octets.items) h.0 in
    ap (λ t. Some (octets.items ++ t)) after ∙ ap (λ t. Some t) (sym before)

-- all was led
pub end_comes : (part : Option (List ℕ)) (front : List ℕ) → IfKnown part (λ whole. FollowsIn whole front None) → IsAtEnd (to_come part front [])
end_comes None front h = tt
end_comes (Some whole) front h = ap (drop (length front)) (h ∙ sym (append-nil front)) ∙ drop_front front []

-- octets at hand are given
pub given : (part : Option (List ℕ)) (front bytes rest : List ℕ) → Consumes (to_come part front (bytes ++ rest)) (to_come part front rest) bytes
given None front bytes rest = tt
given (Some whole) front bytes rest = append_assoc bytes rest (drop (length front) whole)

-- ---- parcels for a thread
goes_on : (part : ℕ → Option (List ℕ)) (thread : ℕ) (before : List Parcel) (parcel : Parcel) (octets : Option (Vec ℕ Global)) → parcel.thread ≡ thread → parcel.octets ≡ octets → Follows part before parcel
    → IfKnown (part thread) (λ whole. FollowsIn whole (octets_in before) octets)
goes_on part thread before parcel octets own is follows =
    subst (λ n. IfKnown (part n) (λ whole. FollowsIn whole (octets_in before) octets)) own
    (subst (λ o. IfKnown (part parcel.thread) (λ whole. FollowsIn whole (octets_in before) o)) is follows)

pub refilled : (part : ℕ → Option (List ℕ)) (thread : ℕ) (old new : List Parcel) (parcel : Parcel) (octets : Vec ℕ Global) → parcel.thread ≡ thread → Follows part old parcel → new ≡ old ++ parcel ∷ [] → parcel.octets ≡ Some octets
    → to_come (part thread) (octets_in new) octets.items ≡ to_come (part thread) (octets_in old) []
refilled part thread old new parcel octets own follows is some =
    let got : octets_in new ≡ octets_in old ++ octets.items = ap octets_in is ∙ in_more old parcel ∙ ap (λ o. octets_in old ++ octets_if_there o) some in
    ap (λ r. to_come (part thread) r octets.items) got ∙ octets_come (part thread) (octets_in old) octets (goes_on part thread old parcel (Some octets) own some follows)

none_more : (old new : List Parcel) (parcel : Parcel) → new ≡ old ++ parcel ∷ [] → parcel.octets ≡ None → octets_in new ≡ octets_in old
none_more old new parcel is none = ap octets_in is ∙ in_more old parcel ∙ ap (λ o. octets_in old ++ octets_if_there o) none ∙ append-nil (octets_in old)

pub ended_same : (part : Option (List ℕ)) (old new : List Parcel) (parcel : Parcel) (at_hand : List ℕ) → new ≡ old ++ parcel ∷ [] → parcel.octets ≡ None
    → to_come part (octets_in new) at_hand ≡ to_come part (octets_in old) at_hand
ended_same part old new parcel at_hand is none = ap (λ r. to_come part r at_hand) (none_more old new parcel is none)

pub ended : (part : ℕ → Option (List ℕ)) (thread : ℕ) (old new : List Parcel) (parcel : Parcel) (at_hand : List ℕ) → at_hand ≡ [] → parcel.thread ≡ thread → Follows part old parcel → new ≡ old ++ parcel ∷ [] → parcel.octets ≡ None
    → IsAtEnd (to_come (part thread) (octets_in new) at_hand)
ended part thread old new parcel at_hand empty own follows is none =
    subst IsAtEnd (ap (λ t. to_come (part thread) (octets_in old) t) (sym empty) ∙ sym (ended_same (part thread) old new parcel at_hand is none))
    (end_comes (part thread) (octets_in old) (goes_on part thread old parcel None own none follows))
