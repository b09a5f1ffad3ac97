-- What a stream begins with, as more octets come.
use Rattle.std.proofs.Common.{◌≡◌, ℕ, zero, suc, ◌+◌, ◌*◌, ◌%◌, ◌^◌, ◌≤◌, Bool, true, false, cond, eqb, ltb, not, eq-eqb, List, [], ◌∷◌, ◌++◌, length, take, refl, sym, ap, ◌∙◌, arith, append_assoc, inl, inr, ◌⊎◌, Some, None}
use Rattle.std.proofs.lemmas.Bool.{le-leb, le-ltb, lt-ltb, ltb-false}
use Rattle.std.proofs.lemmas.List.{take-append-le, take-take, length-append, length-take}
use Rattle.std.proofs.lemmas.List.Concat.{flat_map-cons}
use Rattle.pcef_diameter.specs.Headers.{HeaderFits, header_octets, header_of}
use Rattle.pcef_diameter.specs.Numbers.{octets_of}
use Rattle.pcef_diameter.specs.Spellings.{avp_octets, avps_octets}
use Rattle.pcef_diameter.specs.declared.header.MessageHeader.{MessageHeader}
use Rattle.pcef_diameter.proofs.Again.{avp_octets_len, header_again}
use Rattle.pcef_gx_peer.specs.Fronts.{front_of, is_len, len_at, most_octets}
use Rattle.pcef_gx_peer.specs.Laws.{AvpsArePadded, CutIsMore, LostStays, WholeStays, WrittenIsWhole}
use Rattle.pcef_gx_peer.specs.declared.front.Front.{Front}
use Rattle.pcef_gx_peer.specs.declared.front.Front.TheVariants.{Lost, More, Whole}

-- the tests of a front, one after another
abbrev tested : Bool → Bool → Bool → Bool → ℕ → Front
tested other short wrong cut len = cond other Lost (cond short More (cond wrong Lost (cond cut More (Whole len))))

abbrev tests : ℕ → List ℕ → Front
tests version behind =
    tested (not (eqb version 1)) (ltb (length (version ∷ behind)) 4) (not (is_len (len_at (version ∷ behind))))
    (ltb (length (version ∷ behind)) (len_at (version ∷ behind))) (len_at (version ∷ behind))

front_is : (version : ℕ) (behind : List ℕ) → front_of (version ∷ behind) ≡ tests version behind
unfolding front_of
front_is version behind = refl

no_octets : front_of [] ≡ More
unfolding front_of
no_octets = refl

record Passed (other short wrong cut : Bool) (len found : ℕ) : Type 0 where
  first : other ≡ false
  long : short ≡ false
  fits : wrong ≡ false
  room : cut ≡ false
  same : len ≡ found

passed : (other short wrong cut : Bool) (len found : ℕ) → tested other short wrong cut len ≡ Whole found → Passed other short wrong cut len found
passed true short wrong cut len found e = absurd (cc e)
passed false true wrong cut len found e = absurd (cc e)
passed false false true cut len found e = absurd (cc e)
passed false false false true len found e = absurd (cc e)
passed false false false false len found e = record { first = refl; long = refl; fits = refl; room = refl; same = cc e }

passes : (other short wrong cut : Bool) (len found : ℕ) → Passed other short wrong cut len found → tested other short wrong cut len ≡ Whole found
passes other short wrong cut len found p = rw (p.first, p.long, p.fits, p.room) (ap Whole p.same)

lost_by : (other short wrong cut : Bool) (len : ℕ) → tested other short wrong cut len ≡ Lost → (other ≡ true) ⊎ ((other ≡ false) × (short ≡ false) × (wrong ≡ true))
lost_by true short wrong cut len e = inl refl
lost_by false true wrong cut len e = absurd (cc e)
lost_by false false true cut len e = inr (refl, refl, refl)
lost_by false false false true len e = absurd (cc e)
lost_by false false false false len e = absurd (cc e)

more_by : (other short wrong cut : Bool) (len : ℕ) → other ≡ false → (short ≡ false → (wrong ≡ false) × (cut ≡ true)) → tested other short wrong cut len ≡ More
more_by true short wrong cut len first h = absurd (cc first)
more_by false true wrong cut len first h = refl
more_by false false wrong cut len first h = let p = h refl in rw (p.0, p.1) refl

-- what is known of a whole message, and what has to be
abbrev PassedAt : ℕ → List ℕ → ℕ → Type 0
PassedAt version behind len =
    Passed (not (eqb version 1)) (ltb (length (version ∷ behind)) 4) (not (is_len (len_at (version ∷ behind))))
    (ltb (length (version ∷ behind)) (len_at (version ∷ behind))) (len_at (version ∷ behind)) len

found_whole : (version : ℕ) (behind : List ℕ) (len : ℕ) → front_of (version ∷ behind) ≡ Whole len → PassedAt version behind len
found_whole version behind len e = passed _ _ _ _ _ len (sym (front_is version behind) ∙ e)

whole_found : (version : ℕ) (behind : List ℕ) (len : ℕ) → PassedAt version behind len → front_of (version ∷ behind) ≡ Whole len
whole_found version behind len p = front_is version behind ∙ passes _ _ _ _ _ len p

not_none : (len : ℕ) → front_of [] ≡ Whole len → ⊥
not_none len e = let bad : More ≡ Whole len = sym no_octets ∙ e in absurd (cc bad)

not_lost : front_of [] ≡ Lost → ⊥
not_lost e = let bad : More ≡ Lost = sym no_octets ∙ e in absurd (cc bad)

-- the length is that of the first four octets
len_stays : (octets more : List ℕ) → 4 ≤ length octets → len_at (octets ++ more) ≡ len_at octets
len_stays octets more four =
    let front : take 4 (octets ++ more) ≡ take 4 octets = take-append-le 4 octets more four in
    rw front refl

len_of_cut : (octets : List ℕ) (count : ℕ) → 4 ≤ count → len_at (take count octets) ≡ len_at octets
len_of_cut octets count four =
    let front : take 4 (take count octets) ≡ take 4 octets = take-take 4 count octets four in
    rw front refl

pub whole_stays : WholeStays
whole_stays [] more len e = absurd (not_none len e)
whole_stays (version ∷ behind) more len e =
    let p = found_whole version behind len e in
    let four : 4 ≤ length (version ∷ behind) = ltb-false _ _ p.long in
    let room : len_at (version ∷ behind) ≤ length (version ∷ behind) = ltb-false _ _ p.room in
    let same : len_at (version ∷ (behind ++ more)) ≡ len_at (version ∷ behind) = len_stays (version ∷ behind) more four in
    let long : length (version ∷ behind) ≤ length (version ∷ (behind ++ more)) = omega (arith, length-append behind more) in
    whole_found version (behind ++ more) len (record {
      first = p.first;
      long = le-ltb _ _ (omega (arith, four, long));
      fits = ap (λ n. not (is_len n)) same ∙ p.fits;
      room = le-ltb _ _ (omega (arith, same, room, long));
      same = same ∙ p.same;
    })

lost_at_once : (version : ℕ) (behind : List ℕ) → not (eqb version 1) ≡ true → front_of (version ∷ behind) ≡ Lost
unfolding front_of
lost_at_once version behind other = rw other refl

lost_by_len : (version : ℕ) (behind : List ℕ) → not (eqb version 1) ≡ false → ltb (length (version ∷ behind)) 4 ≡ false → not (is_len (len_at (version ∷ behind))) ≡ true → front_of (version ∷ behind) ≡ Lost
unfolding front_of
lost_by_len version behind first long wrong = rw (first, long, wrong) refl

pub lost_stays : LostStays
lost_stays [] more e = absurd (not_lost e)
lost_stays (version ∷ behind) more e =
    elim (lost_by _ _ _ _ _ (sym (front_is version behind) ∙ e)) [
      | inl other ↦ lost_at_once version (behind ++ more) other
      | inr p ↦
          let four : 4 ≤ length (version ∷ behind) = ltb-false _ _ p.1 in
          let same : len_at (version ∷ (behind ++ more)) ≡ len_at (version ∷ behind) = len_stays (version ∷ behind) more four in
          lost_by_len version (behind ++ more) p.0 (le-ltb _ _ (omega (arith, four, length-append behind more))) (ap (λ n. not (is_len n)) same ∙ p.2)
    ]

pub cut_is_more : CutIsMore
cut_is_more [] len count e below = absurd (not_none len e)
cut_is_more (version ∷ behind) len zero e below = no_octets
cut_is_more (version ∷ behind) len (suc count) e below =
    let p = found_whole version behind len e in
    let short : length (version ∷ take count behind) ≤ suc count = omega (arith, length-take count behind) in
    front_is version (take count behind)
    ∙ more_by _ _ _ _ _ p.first (λ long.
    let four : 4 ≤ length (version ∷ take count behind) = ltb-false _ _ long in
    let same : len_at (version ∷ take count behind) ≡ len_at (version ∷ behind) = len_of_cut (version ∷ behind) (suc count) (omega (arith, four, short)) in
    (ap (λ n. not (is_len n)) same ∙ p.fits, lt-ltb _ _ (omega (arith, same, p.same, short, below))))

-- ---- what is written
first_of : List ℕ → ℕ
first_of [] = 0
first_of (octet ∷ octets) = octet

first_written : (h : MessageHeader) (rest : List ℕ) → HeaderFits h → first_of (header_octets h ++ rest) ≡ h.version
unfolding octets_of first_of
first_written h rest fits = omega (arith, fits.len, fits.version)

header_len : (a b c d e : ℕ) → length (octets_of a ++ (octets_of b ++ (octets_of c ++ (octets_of d ++ (octets_of e ++ []))))) ≡ 20
unfolding octets_of
header_len a b c d e = refl

some_header : (short : Bool) (found due : MessageHeader) → cond short None (Some found) ≡ Some due → (short ≡ false) × (found ≡ due)
some_header true found due e = absurd (cc e)
some_header false found due e = (refl, cc e)

len_again : (h : MessageHeader) (octets : List ℕ) → header_of octets ≡ Some h → len_at octets ≡ h.len
unfolding header_of
len_again h octets e = let g = some_header _ _ h e in ap (λ (x : MessageHeader). x.len) g.1

length_is : (len : ℕ) → 20 ≤ len → len % 4 ≡ 0 → len ≤ most_octets → not (is_len len) ≡ false
length_is len least four most =
    let a = le-leb 20 len least in
    let b = eq-eqb (len % 4) 0 four in
    let c = le-leb len most_octets most in
    rw (a, b, c) refl

whole_of : (octets : List ℕ) (len : ℕ) → first_of octets ≡ 1 → 20 ≤ len → len % 4 ≡ 0 → len ≤ most_octets → len ≤ length octets → len_at octets ≡ len → front_of octets ≡ Whole len
unfolding first_of
whole_of [] len first least four most room same = absurd (omega (arith, least, room))
whole_of (version ∷ behind) len first least four most room same =
    whole_found version behind len (record {
      first = ap not (eq-eqb version 1 first);
      long = le-ltb _ _ (omega (arith, least, room));
      fits = ap (λ n. not (is_len n)) same ∙ length_is len least four most;
      room = le-ltb _ _ (omega (arith, same, room));
      same = same;
    })

pub written_is_whole : WrittenIsWhole
written_is_whole h octets behind fits version len four most =
    let all : List ℕ = (header_octets h ++ octets) ++ behind in
    let same : all ≡ header_octets h ++ (octets ++ behind) = append_assoc (header_octets h) octets behind in
    let first : first_of all ≡ 1 = ap first_of same ∙ first_written h (octets ++ behind) fits ∙ version in
    let head : length (header_octets h) ≡ 20 = header_len (h.version * 2 ^ 24 + h.len) _ h.application h.hop_by_hop h.end_to_end in
    whole_of all h.len first (omega (arith, len)) (omega (arith, len, four)) most
    (omega (arith, len, head, length-append (header_octets h ++ octets) behind, length-append (header_octets h) octets))
    (ap len_at same ∙ len_again h (header_octets h ++ (octets ++ behind)) (header_again h (octets ++ behind) fits))

pub avps_are_padded : AvpsArePadded
avps_are_padded [] = refl
avps_are_padded (avp ∷ avps) =
    omega (arith, ap length (flat_map-cons avp_octets avp avps), length-append (avp_octets avp) (avps_octets avps), avp_octets_len avp, avps_are_padded avps)
