-- How many octets take the AVPs that were read.
use Rattle.std.proofs.Common.{◌≡◌, ℕ, ◌+◌, ◌-◌, ◌≤◌, Bool, true, false, cond, not, eqb, ltb, List, [], ◌∷◌, length, drop, filter, Option, Some, None, refl, ap, subst, arith}
use Rattle.std.proofs.lemmas.Bool.{ltb-false}
use Rattle.std.proofs.lemmas.List.{length-append, length-drop, length-take}
use Rattle.std.proofs.lemmas.List.Concat.{flat_map-cons}
use Rattle.pcef_diameter.specs.Avps.{Reads, Shown, avp_at, avp_fault, behind_avp, flags_at, has_vendor, header_at, header_len, len_at, padded, reserved_of}
use Rattle.pcef_diameter.specs.Numbers.{word_at}
use Rattle.pcef_diameter.specs.Spellings.{avp_len, avp_octets, avps_octets, vendor_flag}
use Rattle.pcef_diameter.specs.declared.fault.AvpFault.{AvpFault}
use Rattle.pcef_diameter.proofs.Again.{avp_octets_len}

unless : {A : Type 0} (b : Bool) (x : A) (y : Option A) → cond b (Some x) y ≡ None → (b ≡ false) × (y ≡ None)
unless true x y e = absurd (cc e)
unless false x y e = (refl, e)

-- what is known of octets that an AVP stands in front of
record AtFront (octets : List ℕ) : Type 0 where
  len : header_at octets ≤ len_at octets
  enough : padded (len_at octets) ≤ length octets

at_front : (octets : List ℕ) → avp_fault octets ≡ None → AtFront octets
unfolding avp_fault
at_front octets e =
    let a = unless (ltb (length octets) 8) _ _ e in
    let b = unless (not (eqb (reserved_of (flags_at octets)) 0)) _ _ a.1 in
    let c = unless (ltb (length octets) (header_at octets)) _ _ b.1 in
    let d = unless (ltb (len_at octets) (header_at octets)) _ _ c.1 in
    let f = unless (ltb (length octets) (padded (len_at octets))) _ _ d.1 in
    record { len = ltb-false _ _ d.0; enough = ltb-false _ _ f.0 }

flag_is : (has : Bool) (n : ℕ) → vendor_flag (cond has (Some n) None) ≡ has
flag_is true n = refl
flag_is false n = refl

len_most : (octets : List ℕ) → AtFront octets → avp_len (avp_at octets) ≤ len_at octets
unfolding avp_at
len_most octets front =
    let flag = ap header_len (flag_is (has_vendor (flags_at octets)) (word_at octets 8)) in
    omega (arith, flag, front.len, length-take (len_at octets - header_at octets) (drop (header_at octets) octets))

behind_len : (octets : List ℕ) → length (behind_avp octets) ≡ length octets - padded (len_at octets)
unfolding behind_avp
behind_len octets = length-drop (padded (len_at octets)) octets

all_len : (avp : Shown) (avps : List Shown) → length (avps_octets (avp ∷ avps)) ≡ padded (avp_len avp) + length (avps_octets avps)
all_len avp avps =
    omega (arith, ap length (flat_map-cons avp_octets avp avps), length-append (avp_octets avp) (avps_octets avps), avp_octets_len avp)

-- AVPs that were read take no more octets than they were read from.
pub reads_len : (octets : List ℕ) (avps : List Shown) (rest : List ℕ) (fault : Option AvpFault) → Reads octets avps rest fault → length (avps_octets avps) ≤ length octets
reads_len octets [] rest fault r = omega arith
reads_len octets (avp ∷ avps) rest fault r =
    let front = at_front octets r.0 in
    let most : avp_len avp ≤ len_at octets = subst (λ (a : Shown). avp_len a ≤ len_at octets) r.1 (len_most octets front) in
    omega (arith, all_len avp avps, most, front.enough, behind_len octets, reads_len (behind_avp octets) avps rest fault r.2)

-- Each of some AVPs takes no more octets than all,
pub front_len : (avp : Shown) (avps : List Shown) → avp_len avp ≤ length (avps_octets (avp ∷ avps))
front_len avp avps = omega (arith, all_len avp avps)

kept_len : (keeps : Bool) (avp : Shown) (kept all : List Shown) → length (avps_octets kept) ≤ length (avps_octets all) → length (avps_octets (cond keeps (avp ∷ kept) kept)) ≤ length (avps_octets (avp ∷ all))
kept_len true avp kept all fewer = omega (arith, all_len avp kept, all_len avp all, fewer)
kept_len false avp kept all fewer = omega (arith, all_len avp all, fewer)

-- and so do some of them.
pub filter_len : (test : Shown → Bool) (avps : List Shown) → length (avps_octets (filter test avps)) ≤ length (avps_octets avps)
filter_len test [] = omega arith
filter_len test (avp ∷ avps) = kept_len (test avp) avp (filter test avps) avps (filter_len test avps)
