-- What is read is spelled so.
use Rattle.std.proofs.Common.{◌≡◌, ℕ, zero, suc, ◌+◌, ◌-◌, ◌*◌, ◌/◌, ◌%◌, ◌^◌, ◌<◌, ◌≤◌, Bool, true, false, cond, not, eqb, ltb, List, [], ◌∷◌, ◌++◌, length, get_or, take, drop, Option, Some, None, refl, sym, ap, subst, ◌∙◌, append_assoc, append-nil, arith, inl, inr}
use Rattle.std.specs.Prelude.{IfSome}
use Rattle.std.specs.List.{AllByRecursion, flat_map}
use Rattle.std.proofs.lemmas.Bool.{cases_lt, eqb-true, ltb-false}
use Rattle.std.proofs.lemmas.List.{take-append-drop, drop-drop, length-drop, length-take, get_or-drop, get_or-take, get_or_past}
use Rattle.std.proofs.Math.Seq.{take-add}
use Rattle.std.proofs.lemmas.List.Concat.{flat_map-cons}
use Rattle.std.proofs.lemmas.List.Elements.{All-get_or}
use Rattle.std.proofs.lemmas.Nat.{be_bytes_4}
use Rattle.pcef_diameter.specs.Avps.{Reads, Shown, avp_at, avp_fault, behind_avp, flags_at, has_vendor, header_at, header_len, is_mandatory, is_protected, len_at, padded, padding_at, reserved_of, vendor_at}
use Rattle.pcef_diameter.specs.Headers.{HeaderFits, command_flags_at, command_word, header_octets, header_of, reserved_at}
use Rattle.pcef_diameter.specs.Laws.{AreOctets, IsZeroPadded, NoOtherHeader, NothingElse, NothingElseWithZeros}
use Rattle.pcef_diameter.specs.Numbers.{bit, first_octet, octets_of, other_octets, word_at}
use Rattle.pcef_diameter.specs.Spellings.{AvpFits, avp_len, avp_octets, avps_octets, flags_word, octets_read, octets_with, vendor_flag, vendor_word}
use Rattle.pcef_diameter.specs.declared.fault.AvpFault.{AvpFault}
use Rattle.pcef_diameter.specs.declared.header.MessageHeader.{MessageHeader}

-- ---- octets

abbrev AreBelow : List ℕ → Type 0
AreBelow octets = (i : ℕ) → get_or octets i 0 < 256

are_below : (octets : List ℕ) → AreOctets octets → AreBelow octets
are_below octets are i =
    elim (cases_lt i (length octets)) [
      | inl lt ↦ All-get_or (λ o. o < 2 ^ 8) octets i 0 lt are
      | inr le ↦ rw (get_or_past octets i 0 le) (omega arith)
    ]

below-drop : (n : ℕ) (octets : List ℕ) → AreBelow octets → AreBelow (drop n octets)
below-drop n octets below i = rw get_or-drop (below (n + i))

below-take : (n : ℕ) (octets : List ℕ) → AreBelow octets → AreBelow (take n octets)
below-take n octets below i =
    elim (cases_lt i n) [
      | inl lt ↦ rw (get_or-take n octets i 0 lt) (below i)
      | inr le ↦ rw (get_or_past (take n octets) i 0 (omega (arith, le, length-take n octets))) (omega arith)
    ]

below_word : (n : ℕ) (octets : List ℕ) → AreBelow octets → AreBelow (take 4 (drop n octets))
below_word n octets below = below-take 4 (drop n octets) (below-drop n octets below)

word_spelled : (octets : List ℕ) (place : ℕ) → AreBelow octets → place + 4 ≤ length octets → octets_of (word_at octets place) ≡ take 4 (drop place octets)
unfolding octets_of
word_spelled octets place below long =
    be_bytes_4 (take 4 (drop place octets)) (word_at octets place) (omega (arith, long, length-take 4 (drop place octets), length-drop place octets)) (below_word place octets below) refl

word_below : (octets : List ℕ) (place : ℕ) → AreBelow octets → word_at octets place < 2 ^ 32
word_below octets place below =
    let b = below_word place octets below in
    omega (arith, b 0, b 1, b 2, b 3)

-- ---- parts of octets

split_front : (n m : ℕ) (octets : List ℕ) → n ≤ m → take m octets ≡ take n octets ++ take (m - n) (drop n octets)
split_front n m octets le =
    let sum : n + (m - n) ≡ m = omega (arith, le) in
    ap (λ k. take k octets) (sym sum) ∙ take-add n (m - n) octets

split_back : (n m : ℕ) (octets : List ℕ) → n ≤ m → drop n octets ≡ take (m - n) (drop n octets) ++ drop m octets
split_back n m octets le =
    let sum : n + (m - n) ≡ m = omega (arith, le) in
    sym (take-append-drop (m - n) (drop n octets)) ∙ ap (λ x. take (m - n) (drop n octets) ++ x) (drop-drop (m - n) n octets ∙ ap (λ k. drop k octets) sum)

abbrev word_octets : List ℕ → ℕ → List ℕ
word_octets octets place = take 4 (drop place octets)

next_word : (k n : ℕ) (octets : List ℕ) → word_octets octets k ++ take n (drop (k + 4) octets) ≡ take (n + 4) (drop k octets)
next_word k n octets =
    let count : n + 4 - 4 ≡ n = omega arith in
    sym (split_front 4 (n + 4) (drop k octets) (omega arith) ∙ ap (λ m. word_octets octets k ++ take m (drop 4 (drop k octets))) count ∙ ap (λ x. word_octets octets k ++ take n x) (drop-drop 4 k octets))

-- the two parts of a word
join : (word flags len : ℕ) → flags ≡ first_octet word → len ≡ other_octets word → flags * 2 ^ 24 + len ≡ word
join word flags len first others = omega (arith, first, others)

-- ---- flags

bit_is : (n place : ℕ) → n < 2 → bit (eqb n 1) place ≡ n * place
bit_is zero place lt = omega arith
bit_is (suc zero) place lt = omega arith
bit_is (suc (suc n)) place lt = omega (arith, lt)

flags_spelled : (f : ℕ) → f < 256 → reserved_of f ≡ 0 → bit (has_vendor f) 128 + bit (is_mandatory f) 64 + bit (is_protected f) 32 ≡ f
flags_spelled f lt reserved =
    rw (bit_is (f / 128) 128 (omega (arith, lt)), bit_is (f / 64 % 2) 64 (omega arith), bit_is (f / 32 % 2) 32 (omega arith)) (omega (arith, lt, reserved))

-- ---- one AVP

guard : {A : Type 0} (b : Bool) (x : A) (y : Option A) → cond b (Some x) y ≡ None → (b ≡ false) × (y ≡ None)
guard true x y e = absurd (cc e)
guard false x y e = (refl, e)

not_false : (b : Bool) → not b ≡ false → b ≡ true
not_false true e = refl
not_false false e = absurd (cc e)

least_header : (v : Bool) → 8 ≤ header_len v
least_header true = omega arith
least_header false = omega arith

record Whole (octets : List ℕ) : Type 0 where
  reserved : reserved_of (flags_at octets) ≡ 0
  header : header_at octets ≤ length octets
  len : header_at octets ≤ len_at octets
  enough : padded (len_at octets) ≤ length octets
  long : 8 ≤ length octets

whole : (octets : List ℕ) → avp_fault octets ≡ None → Whole octets
unfolding avp_fault
whole octets e =
    let a = guard (ltb (length octets) 8) _ _ e in
    let b = guard (not (eqb (reserved_of (flags_at octets)) 0)) _ _ a.1 in
    let c = guard (ltb (length octets) (header_at octets)) _ _ b.1 in
    let d = guard (ltb (len_at octets) (header_at octets)) _ _ c.1 in
    let f = guard (ltb (length octets) (padded (len_at octets))) _ _ d.1 in
    record { reserved = eqb-true _ _ (not_false _ b.0); header = ltb-false _ _ c.0; len = ltb-false _ _ d.0; enough = ltb-false _ _ f.0; long = ltb-false _ _ a.0 }

-- fewer octets stand behind an AVP than with it
pub behind_shorter : (octets : List ℕ) → avp_fault octets ≡ None → length (behind_avp octets) < length octets
unfolding behind_avp
behind_shorter octets e =
    let w = whole octets e in
    let least : 8 ≤ header_at octets = least_header (has_vendor (flags_at octets)) in
    omega (arith, least, w.len, w.enough, w.long, length-drop (padded (len_at octets)) octets)

vendor_flag_is : (v : Bool) (n : ℕ) → vendor_flag (cond v (Some n) None) ≡ v
vendor_flag_is true n = refl
vendor_flag_is false n = refl

head_spelled : (octets : List ℕ) (v : Bool) → AreBelow octets → 8 ≤ length octets → header_len v ≤ length octets
    → flat_map octets_of (word_at octets 0 ∷ word_at octets 4 ∷ vendor_word (cond v (Some (word_at octets 8)) None)) ≡ take (header_len v) octets
head_spelled octets true below long header =
    rw (word_spelled octets 0 below (omega (arith, long)), word_spelled octets 4 below long, word_spelled octets 8 below header)
    (ap (λ x. word_octets octets 0 ++ (word_octets octets 4 ++ x)) (append-nil (word_octets octets 8)) ∙ ap (λ x. word_octets octets 0 ++ x) (next_word 4 4 octets) ∙ next_word 0 8 octets)
head_spelled octets false below long header =
    rw (word_spelled octets 0 below (omega (arith, long)), word_spelled octets 4 below long)
    (ap (λ x. word_octets octets 0 ++ x) (append-nil (word_octets octets 4)) ∙ next_word 0 4 octets)

-- the fields that a word of flags and a length has
data_len : (octets : List ℕ) → Whole octets → length (take (len_at octets - header_at octets) (drop (header_at octets) octets)) ≡ len_at octets - header_at octets
data_len octets w = omega (arith, w.enough, w.len, length-take (len_at octets - header_at octets) (drop (header_at octets) octets), length-drop (header_at octets) octets)

len_spelled : (octets : List ℕ) → Whole octets → avp_len (avp_at octets) ≡ len_at octets
unfolding avp_at
len_spelled octets w =
    rw (vendor_flag_is (has_vendor (flags_at octets)) (word_at octets 8), data_len octets w) (omega (arith, w.len))

flags_word_spelled : (octets : List ℕ) → AreBelow octets → Whole octets → flags_word (avp_at octets) ≡ word_at octets 4
unfolding flags_word avp_at
flags_word_spelled octets below w =
    let word_lt : word_at octets 4 < 2 ^ 32 = word_below octets 4 below in
    let flags : bit (has_vendor (flags_at octets)) 128 + bit (is_mandatory (flags_at octets)) 64 + bit (is_protected (flags_at octets)) 32 ≡ flags_at octets =
    flags_spelled (flags_at octets) (omega (arith, word_lt)) w.reserved in
    let vendor = vendor_flag_is (has_vendor (flags_at octets)) (word_at octets 8) in
    join (word_at octets 4) _ _
    (ap (λ v. bit v 128 + bit (is_mandatory (flags_at octets)) 64 + bit (is_protected (flags_at octets)) 32) vendor ∙ flags) (len_spelled octets w)

vendor_fits : (v : Bool) (n : ℕ) → n < 2 ^ 32 → IfSome (cond v (Some n) None) (λ n. n < 2 ^ 32)
vendor_fits true n lt = lt
vendor_fits false n lt = tt

avp_fits : (octets : List ℕ) → AreBelow octets → Whole octets → AvpFits (avp_at octets)
unfolding avp_at
avp_fits octets below w = record {
  code = word_below octets 0 below;
  vendor = vendor_fits (has_vendor (flags_at octets)) (word_at octets 8) (word_below octets 8 below);
  len = rw (len_spelled octets w) (omega arith);
}

regrouped : (a b c d : List ℕ) → a ++ (b ++ (c ++ d)) ≡ (a ++ (b ++ c)) ++ d
regrouped a b c d = simp append_assoc refl

avp_spelled : (octets : List ℕ) → AreBelow octets → Whole octets → octets ≡ octets_with (avp_at octets) (padding_at octets) ++ behind_avp octets
unfolding avp_at behind_avp
avp_spelled octets below w =
    let h : ℕ = header_at octets in
    let l : ℕ = len_at octets in
    let own : List ℕ = take (l - h) (drop h octets) in
    let parts : octets ≡ take h octets ++ (own ++ (padding_at octets ++ drop (padded l) octets)) =
    sym (take-append-drop h octets) ∙ ap (λ x. take h octets ++ x) (split_back h l octets w.len ∙ ap (λ x. own ++ x) (split_back l (padded l) octets (omega arith))) in
    let head : flat_map octets_of (word_at octets 0 ∷ flags_word (avp_at octets) ∷ vendor_word (vendor_at octets)) ≡ take h octets =
    ap (λ x. flat_map octets_of (word_at octets 0 ∷ x ∷ vendor_word (vendor_at octets))) (flags_word_spelled octets below w) ∙ head_spelled octets (has_vendor (flags_at octets)) below w.long w.header in
    parts ∙ ap (λ x. x ++ (own ++ (padding_at octets ++ drop (padded l) octets))) (sym head) ∙ regrouped _ own (padding_at octets) (drop (padded l) octets)

-- ---- all AVPs

below_behind : (octets : List ℕ) → AreBelow octets → AreBelow (behind_avp octets)
unfolding behind_avp
below_behind octets below = below-drop (padded (len_at octets)) octets below

all_spelled : (octets : List ℕ) (avps : List Shown) (rest : List ℕ) (fault : Option AvpFault) → AreBelow octets → Reads octets avps rest fault
    → AllByRecursion AvpFits avps × (octets ≡ octets_read octets avps ++ rest)
all_spelled octets [] rest None below r = (tt, r.0 ∙ sym r.1)
all_spelled octets [] rest (Some f) below r = (tt, sym r.2)
all_spelled octets (a ∷ avps) rest fault below r =
    let w = whole octets r.0 in
    let others = all_spelled (behind_avp octets) avps rest fault (below_behind octets below) r.2 in
    let own : octets ≡ octets_with a (padding_at octets) ++ behind_avp octets =
    avp_spelled octets below w ∙ ap (λ x. octets_with x (padding_at octets) ++ behind_avp octets) r.1 in (
      (subst AvpFits r.1 (avp_fits octets below w), others.0),
      own ∙ ap (λ x. octets_with a (padding_at octets) ++ x) others.1 ∙ sym (append_assoc (octets_with a (padding_at octets)) (octets_read (behind_avp octets) avps) rest),
    )

pub avps_spelled : NothingElse
avps_spelled octets avps rest fault are r = all_spelled octets avps rest fault (are_below octets are) r

zeros_read : (octets : List ℕ) (avps : List Shown) → IsZeroPadded octets avps → octets_read octets avps ≡ avps_octets avps
zeros_read octets [] zeros = refl
zeros_read octets (a ∷ avps) zeros =
    ap (λ p. octets_with a p ++ octets_read (behind_avp octets) avps) zeros.0 ∙ ap (λ x. avp_octets a ++ x) (zeros_read (behind_avp octets) avps zeros.1) ∙ sym (flat_map-cons avp_octets a avps)

pub zeros_spelled : NothingElseWithZeros
zeros_spelled octets avps rest fault are r zeros = (avps_spelled octets avps rest fault are r).1 ∙ ap (λ x. x ++ rest) (zeros_read octets avps zeros)

-- ---- the header

abbrev found : List ℕ → MessageHeader
found octets = record {
  version = first_octet (word_at octets 0);
  len = other_octets (word_at octets 0);
  request = eqb (command_flags_at octets / 128) 1;
  proxiable = eqb (command_flags_at octets / 64 % 2) 1;
  error = eqb (command_flags_at octets / 32 % 2) 1;
  retransmitted = eqb (command_flags_at octets / 16 % 2) 1;
  command = other_octets (word_at octets 4);
  application = word_at octets 8;
  hop_by_hop = word_at octets 12;
  end_to_end = word_at octets 16;
}

guard_some : {A : Type 0} (b : Bool) (x y : A) → cond b None (Some x) ≡ Some y → (b ≡ false) × (x ≡ y)
guard_some true x y e = absurd (cc e)
guard_some false x y e = (refl, cc e)

header_found : (octets : List ℕ) (h : MessageHeader) → header_of octets ≡ Some h → (20 ≤ length octets) × (found octets ≡ h)
unfolding header_of
header_found octets h e =
    let g = guard_some (ltb (length octets) 20) (found octets) h e in
    (ltb-false _ _ g.0, g.1)

command_flags_spelled : (f : ℕ) → f < 256 → f % 16 ≡ 0 → bit (eqb (f / 128) 1) 128 + bit (eqb (f / 64 % 2) 1) 64 + bit (eqb (f / 32 % 2) 1) 32 + bit (eqb (f / 16 % 2) 1) 16 ≡ f
command_flags_spelled f lt reserved =
    rw (bit_is (f / 128) 128 (omega (arith, lt)), bit_is (f / 64 % 2) 64 (omega arith), bit_is (f / 32 % 2) 32 (omega arith), bit_is (f / 16 % 2) 16 (omega arith)) (omega (arith, lt, reserved))

command_word_spelled : (octets : List ℕ) → AreBelow octets → reserved_at octets ≡ 0 → command_word (found octets) ≡ word_at octets 4
unfolding command_word
command_word_spelled octets below reserved =
    let lt : word_at octets 4 < 2 ^ 32 = word_below octets 4 below in
    join (word_at octets 4) _ _ (command_flags_spelled (command_flags_at octets) (omega (arith, lt)) reserved) refl

five_spelled : (octets : List ℕ) → AreBelow octets → 20 ≤ length octets
    → flat_map octets_of (word_at octets 0 ∷ word_at octets 4 ∷ word_at octets 8 ∷ word_at octets 12 ∷ word_at octets 16 ∷ []) ≡ take 20 octets
five_spelled octets below long =
    rw (word_spelled octets 0 below (omega (arith, long)), word_spelled octets 4 below (omega (arith, long)), word_spelled octets 8 below (omega (arith, long)), word_spelled octets 12 below (omega (arith, long)), word_spelled octets 16 below long)
    (ap (λ x. word_octets octets 0 ++ (word_octets octets 4 ++ (word_octets octets 8 ++ (word_octets octets 12 ++ x)))) (append-nil (word_octets octets 16))
    ∙ ap (λ x. word_octets octets 0 ++ (word_octets octets 4 ++ (word_octets octets 8 ++ x))) (next_word 12 4 octets)
    ∙ ap (λ x. word_octets octets 0 ++ (word_octets octets 4 ++ x)) (next_word 8 8 octets)
    ∙ ap (λ x. word_octets octets 0 ++ x) (next_word 4 12 octets)
    ∙ next_word 0 16 octets)

found_spelled : (octets : List ℕ) → AreBelow octets → 20 ≤ length octets → reserved_at octets ≡ 0 → HeaderFits (found octets) × (octets ≡ header_octets (found octets) ++ drop 20 octets)
found_spelled octets below long reserved =
    let b = word_below octets 0 below in
    let words : header_octets (found octets) ≡ take 20 octets =
    ap (λ x. flat_map octets_of (x ∷ command_word (found octets) ∷ word_at octets 8 ∷ word_at octets 12 ∷ word_at octets 16 ∷ [])) (join (word_at octets 0) _ _ refl refl)
    ∙ ap (λ x. flat_map octets_of (word_at octets 0 ∷ x ∷ word_at octets 8 ∷ word_at octets 12 ∷ word_at octets 16 ∷ [])) (command_word_spelled octets below reserved)
    ∙ five_spelled octets below long in (
      record {
        version = omega (arith, b);
        len = omega arith;
        command = omega arith;
        application = word_below octets 8 below;
        hop_by_hop = word_below octets 12 below;
        end_to_end = word_below octets 16 below;
      },
      sym (take-append-drop 20 octets) ∙ ap (λ x. x ++ drop 20 octets) (sym words),
    )

pub header_spelled : NoOtherHeader
header_spelled octets h are e reserved =
    let g = header_found octets h e in
    subst (λ (x : MessageHeader). HeaderFits x × (octets ≡ header_octets x ++ drop 20 octets)) g.1 (found_spelled octets (are_below octets are) g.0 reserved)
