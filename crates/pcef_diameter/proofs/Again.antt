-- What was written is read again.
use Rattle.std.proofs.Common.{◌≡◌, ℕ, ◌+◌, ◌-◌, ◌*◌, ◌/◌, ◌%◌, ◌^◌, ◌<◌, ◌≤◌, Bool, true, false, eqb, ltb, List, [], ◌∷◌, ◌++◌, length, take, drop, Option, Some, None, refl, sym, ap, subst, ◌∙◌, append_assoc, arith}
use Rattle.std.specs.Prelude.{IfSome}
use Rattle.std.specs.List.{flat_map}
use Rattle.std.proofs.lemmas.Bool.{le-ltb}
use Rattle.std.proofs.lemmas.List.{take_at, drop_at, length-append, length-replicate}
use Rattle.std.proofs.lemmas.List.Concat.{flat_map-cons}
use Rattle.std.proofs.lemmas.Nat.{from_be_bytes-to_be_bytes_4}
use Rattle.pcef_diameter.specs.Avps.{Reads, Shown, avp_at, avp_fault, behind_avp, flags_at, has_vendor, header_len, is_mandatory, is_protected, len_at, padded, reserved_of, vendor_at}
use Rattle.pcef_diameter.specs.Headers.{command_word, header_octets, header_of}
use Rattle.pcef_diameter.specs.Laws.{AvpsAgain, HeaderAgain}
use Rattle.pcef_diameter.specs.Numbers.{bit, first_octet, octets_of, other_octets, word_at}
use Rattle.pcef_diameter.specs.Spellings.{AvpFits, avp_len, avp_octets, avps_octets, flags_word, vendor_flag, vendor_word, zero_padding}
use Rattle.pcef_diameter.specs.declared.header.MessageHeader.{MessageHeader}

-- the two parts of a word
first_again : (flags len : ℕ) → len < 2 ^ 24 → first_octet (flags * 2 ^ 24 + len) ≡ flags
first_again flags len lt = omega (arith, lt)

others_again : (flags len : ℕ) → len < 2 ^ 24 → other_octets (flags * 2 ^ 24 + len) ≡ len
others_again flags len lt = omega (arith, lt)

-- the words at the front of octets
abbrev words : List ℕ → List ℕ → List ℕ
words ns rest = flat_map octets_of ns ++ rest

at_0 : (a : ℕ) (ns rest : List ℕ) → a < 2 ^ 32 → word_at (words (a ∷ ns) rest) 0 ≡ a
unfolding octets_of
at_0 a ns rest lt = from_be_bytes-to_be_bytes_4 a lt

at_4 : (a b : ℕ) (ns rest : List ℕ) → b < 2 ^ 32 → word_at (words (a ∷ b ∷ ns) rest) 4 ≡ b
unfolding octets_of
at_4 a b ns rest lt = from_be_bytes-to_be_bytes_4 b lt

at_8 : (a b c : ℕ) (ns rest : List ℕ) → c < 2 ^ 32 → word_at (words (a ∷ b ∷ c ∷ ns) rest) 8 ≡ c
unfolding octets_of
at_8 a b c ns rest lt = from_be_bytes-to_be_bytes_4 c lt

at_12 : (a b c d : ℕ) (ns rest : List ℕ) → d < 2 ^ 32 → word_at (words (a ∷ b ∷ c ∷ d ∷ ns) rest) 12 ≡ d
unfolding octets_of
at_12 a b c d ns rest lt = from_be_bytes-to_be_bytes_4 d lt

at_16 : (a b c d e : ℕ) (ns rest : List ℕ) → e < 2 ^ 32 → word_at (words (a ∷ b ∷ c ∷ d ∷ e ∷ ns) rest) 16 ≡ e
unfolding octets_of
at_16 a b c d e ns rest lt = from_be_bytes-to_be_bytes_4 e lt

-- ---- the flags of an AVP

abbrev flags3 : Bool → Bool → Bool → ℕ
flags3 v m p = bit v 128 + bit m 64 + bit p 32

record Flags3 (v m p : Bool) : Type 0 where
  vendor : has_vendor (flags3 v m p) ≡ v
  mandatory : is_mandatory (flags3 v m p) ≡ m
  protected : is_protected (flags3 v m p) ≡ p
  reserved : eqb (reserved_of (flags3 v m p)) 0 ≡ true
  below : flags3 v m p < 256

flags3_again : (v m p : Bool) → Flags3 v m p
flags3_again true true true = record { vendor = refl; mandatory = refl; protected = refl; reserved = refl; below = omega arith }
flags3_again true true false = record { vendor = refl; mandatory = refl; protected = refl; reserved = refl; below = omega arith }
flags3_again true false true = record { vendor = refl; mandatory = refl; protected = refl; reserved = refl; below = omega arith }
flags3_again true false false = record { vendor = refl; mandatory = refl; protected = refl; reserved = refl; below = omega arith }
flags3_again false true true = record { vendor = refl; mandatory = refl; protected = refl; reserved = refl; below = omega arith }
flags3_again false true false = record { vendor = refl; mandatory = refl; protected = refl; reserved = refl; below = omega arith }
flags3_again false false true = record { vendor = refl; mandatory = refl; protected = refl; reserved = refl; below = omega arith }
flags3_again false false false = record { vendor = refl; mandatory = refl; protected = refl; reserved = refl; below = omega arith }

-- ---- one AVP

abbrev head : Shown → List ℕ
head a = flat_map octets_of (a.code ∷ flags_word a ∷ vendor_word a.vendor)

head_len : (code word : ℕ) (v : Option ℕ) → length (flat_map octets_of (code ∷ word ∷ vendor_word v)) ≡ header_len (vendor_flag v)
unfolding octets_of
head_len code word None = refl
head_len code word (Some n) = refl

flags_word_is : (a : Shown) → flags_word a ≡ flags3 (vendor_flag a.vendor) a.mandatory a.protected * 2 ^ 24 + avp_len a
unfolding flags_word
flags_word_is a = refl

padding_len : (a : Shown) → length (zero_padding a) ≡ padded (avp_len a) - avp_len a
unfolding zero_padding
padding_len a = length-replicate (padded (avp_len a) - avp_len a) 0

-- how many octets an AVP takes
pub avp_octets_len : (a : Shown) → length (avp_octets a) ≡ padded (avp_len a)
avp_octets_len a =
    omega (arith, length-append (head a) (a.octets ++ zero_padding a), length-append a.octets (zero_padding a), head_len a.code (flags_word a) a.vendor, padding_len a)

vendor_again : (code word : ℕ) (v : Option ℕ) (rest : List ℕ) → IfSome v (λ n. n < 2 ^ 32) → vendor_flag v ≡ has_vendor (flags_at (words (code ∷ word ∷ vendor_word v) rest)) → vendor_at (words (code ∷ word ∷ vendor_word v) rest) ≡ v
vendor_again code word None rest fits flag = rw (← flag) refl
vendor_again code word (Some n) rest fits flag = rw (← flag) (ap Some (at_8 code word n [] rest fits))

-- what is known of the octets of an AVP
record Written (a : Shown) (octets rest : List ℕ) : Type 0 where
  code : word_at octets 0 ≡ a.code
  vendor : has_vendor (flags_at octets) ≡ vendor_flag a.vendor
  vendor_id : vendor_at octets ≡ a.vendor
  mandatory : is_mandatory (flags_at octets) ≡ a.mandatory
  protected : is_protected (flags_at octets) ≡ a.protected
  reserved : eqb (reserved_of (flags_at octets)) 0 ≡ true
  len : len_at octets ≡ avp_len a
  enough : padded (avp_len a) ≤ length octets
  own : take (length a.octets) (drop (header_len (vendor_flag a.vendor)) octets) ≡ a.octets
  behind : drop (padded (avp_len a)) octets ≡ rest

least_header : (v : Bool) → 8 ≤ header_len v
least_header true = omega arith
least_header false = omega arith

fault_from : (a : Shown) (octets rest : List ℕ) → Written a octets rest → avp_fault octets ≡ None
unfolding avp_fault
fault_from a octets rest w =
    let least : 8 ≤ header_len (vendor_flag a.vendor) = least_header (vendor_flag a.vendor) in
    let long : ltb (length octets) 8 ≡ false = le-ltb _ _ (omega (arith, least, w.enough)) in
    let header : ltb (length octets) (header_len (vendor_flag a.vendor)) ≡ false = le-ltb _ _ (omega (arith, w.enough)) in
    let len : ltb (avp_len a) (header_len (vendor_flag a.vendor)) ≡ false = le-ltb _ _ (omega arith) in
    let whole : ltb (length octets) (padded (avp_len a)) ≡ false = le-ltb _ _ w.enough in
    rw (long, w.reserved, w.vendor, w.len, header, len, whole) refl

avp_from : (a : Shown) (octets rest : List ℕ) → Written a octets rest → avp_at octets ≡ a
unfolding avp_at
avp_from a octets rest w =
    let count : header_len (vendor_flag a.vendor) + length a.octets - header_len (vendor_flag a.vendor) ≡ length a.octets = omega arith in
    rw (w.code, w.vendor_id, w.mandatory, w.protected, w.vendor, w.len, count, w.own) refl

behind_from : (a : Shown) (octets rest : List ℕ) → Written a octets rest → behind_avp octets ≡ rest
unfolding behind_avp
behind_from a octets rest w = rw w.len w.behind

abbrev whole : Shown → List ℕ → List ℕ
whole a rest = words (a.code ∷ flags_word a ∷ vendor_word a.vendor) (a.octets ++ (zero_padding a ++ rest))

behind_whole : (a : Shown) (rest : List ℕ) → drop (padded (avp_len a)) (whole a rest) ≡ rest
behind_whole a rest =
    let len : length ((head a ++ a.octets) ++ zero_padding a) ≡ padded (avp_len a) =
    omega (arith, length-append (head a ++ a.octets) (zero_padding a), length-append (head a) a.octets, head_len a.code (flags_word a) a.vendor, padding_len a) in
    let grouped : whole a rest ≡ ((head a ++ a.octets) ++ zero_padding a) ++ rest = simp append_assoc refl in
    ap (drop (padded (avp_len a))) grouped ∙ drop_at ((head a ++ a.octets) ++ zero_padding a) rest (padded (avp_len a)) len

data_whole : (a : Shown) (rest : List ℕ) → take (length a.octets) (drop (header_len (vendor_flag a.vendor)) (whole a rest)) ≡ a.octets
data_whole a rest =
    ap (take (length a.octets)) (drop_at (head a) (a.octets ++ (zero_padding a ++ rest)) (header_len (vendor_flag a.vendor)) (head_len a.code (flags_word a) a.vendor))
    ∙ take_at a.octets (zero_padding a ++ rest) (length a.octets) refl

written : (a : Shown) (rest : List ℕ) → AvpFits a → Written a (whole a rest) rest
written a rest fits =
    let behind : List ℕ = a.octets ++ (zero_padding a ++ rest) in
    let bits = flags3_again (vendor_flag a.vendor) a.mandatory a.protected in
    let word_lt : flags_word a < 2 ^ 32 = omega (arith, flags_word_is a, bits.below, fits.len) in
    let second : word_at (whole a rest) 4 ≡ flags_word a = at_4 a.code (flags_word a) (vendor_word a.vendor) behind word_lt in
    let flags : flags_at (whole a rest) ≡ flags3 (vendor_flag a.vendor) a.mandatory a.protected = ap first_octet (second ∙ flags_word_is a) ∙ first_again _ _ fits.len in
    let vendor : has_vendor (flags_at (whole a rest)) ≡ vendor_flag a.vendor = ap has_vendor flags ∙ bits.vendor in
    record {
      code = at_0 a.code (flags_word a ∷ vendor_word a.vendor) behind fits.code;
      vendor = vendor;
      vendor_id = vendor_again a.code (flags_word a) a.vendor behind fits.vendor (sym vendor);
      mandatory = ap is_mandatory flags ∙ bits.mandatory;
      protected = ap is_protected flags ∙ bits.protected;
      reserved = ap (λ f. eqb (reserved_of f) 0) flags ∙ bits.reserved;
      len = ap other_octets (second ∙ flags_word_is a) ∙ others_again _ _ fits.len;
      enough = omega (arith, length-append (head a) behind, length-append a.octets (zero_padding a ++ rest), length-append (zero_padding a) rest, head_len a.code (flags_word a) a.vendor, padding_len a);
      own = data_whole a rest;
      behind = behind_whole a rest;
    }

-- ---- all AVPs

cons_whole : (a : Shown) (all : List Shown) → avps_octets (a ∷ all) ≡ whole a (avps_octets all)
cons_whole a all = flat_map-cons avp_octets a all ∙ simp append_assoc refl

pub avps_again : AvpsAgain
avps_again [] fits = (refl, refl)
avps_again (a ∷ all) fits =
    let w = written a (avps_octets all) fits.0 in
    let same = cons_whole a all in (
      ap avp_fault same ∙ fault_from a (whole a (avps_octets all)) (avps_octets all) w,
      ap avp_at same ∙ avp_from a (whole a (avps_octets all)) (avps_octets all) w,
      subst (λ o. Reads o all [] None) (sym (ap behind_avp same ∙ behind_from a (whole a (avps_octets all)) (avps_octets all) w)) (avps_again all fits.1),
    )

-- ---- the header

abbrev flags4 : Bool → Bool → Bool → Bool → ℕ
flags4 r p e t = bit r 128 + bit p 64 + bit e 32 + bit t 16

record Flags4 (r p e t : Bool) : Type 0 where
  request : eqb (flags4 r p e t / 128) 1 ≡ r
  proxiable : eqb (flags4 r p e t / 64 % 2) 1 ≡ p
  error : eqb (flags4 r p e t / 32 % 2) 1 ≡ e
  retransmitted : eqb (flags4 r p e t / 16 % 2) 1 ≡ t
  below : flags4 r p e t < 256

flags4_again : (r p e t : Bool) → Flags4 r p e t
flags4_again true true true true = record { request = refl; proxiable = refl; error = refl; retransmitted = refl; below = omega arith }
flags4_again true true true false = record { request = refl; proxiable = refl; error = refl; retransmitted = refl; below = omega arith }
flags4_again true true false true = record { request = refl; proxiable = refl; error = refl; retransmitted = refl; below = omega arith }
flags4_again true true false false = record { request = refl; proxiable = refl; error = refl; retransmitted = refl; below = omega arith }
flags4_again true false true true = record { request = refl; proxiable = refl; error = refl; retransmitted = refl; below = omega arith }
flags4_again true false true false = record { request = refl; proxiable = refl; error = refl; retransmitted = refl; below = omega arith }
flags4_again true false false true = record { request = refl; proxiable = refl; error = refl; retransmitted = refl; below = omega arith }
flags4_again true false false false = record { request = refl; proxiable = refl; error = refl; retransmitted = refl; below = omega arith }
flags4_again false true true true = record { request = refl; proxiable = refl; error = refl; retransmitted = refl; below = omega arith }
flags4_again false true true false = record { request = refl; proxiable = refl; error = refl; retransmitted = refl; below = omega arith }
flags4_again false true false true = record { request = refl; proxiable = refl; error = refl; retransmitted = refl; below = omega arith }
flags4_again false true false false = record { request = refl; proxiable = refl; error = refl; retransmitted = refl; below = omega arith }
flags4_again false false true true = record { request = refl; proxiable = refl; error = refl; retransmitted = refl; below = omega arith }
flags4_again false false true false = record { request = refl; proxiable = refl; error = refl; retransmitted = refl; below = omega arith }
flags4_again false false false true = record { request = refl; proxiable = refl; error = refl; retransmitted = refl; below = omega arith }
flags4_again false false false false = record { request = refl; proxiable = refl; error = refl; retransmitted = refl; below = omega arith }

command_word_is : (h : MessageHeader) → command_word h ≡ flags4 h.request h.proxiable h.error h.retransmitted * 2 ^ 24 + h.command
unfolding command_word
command_word_is h = refl

long_header : (a b c d e : ℕ) (rest : List ℕ) → ltb (length (words (a ∷ b ∷ c ∷ d ∷ e ∷ []) rest)) 20 ≡ false
unfolding octets_of
long_header a b c d e rest = le-ltb _ _ (omega arith)

-- octets whose words are known
header_from : (h : MessageHeader) (o : List ℕ) → ltb (length o) 20 ≡ false → first_octet (word_at o 0) ≡ h.version → other_octets (word_at o 0) ≡ h.len → first_octet (word_at o 4) ≡ flags4 h.request h.proxiable h.error h.retransmitted
    → other_octets (word_at o 4) ≡ h.command → word_at o 8 ≡ h.application → word_at o 12 ≡ h.hop_by_hop → word_at o 16 ≡ h.end_to_end → header_of o ≡ Some h
unfolding header_of
header_from h o long version len flags command application hop end =
    let bits = flags4_again h.request h.proxiable h.error h.retransmitted in
    rw (long, version, len, flags, command, application, hop, end, bits.request, bits.proxiable, bits.error, bits.retransmitted) refl

pub header_again : HeaderAgain
header_again h rest fits =
    let bits = flags4_again h.request h.proxiable h.error h.retransmitted in
    let a : ℕ = h.version * 2 ^ 24 + h.len in
    let b : ℕ = command_word h in
    let o : List ℕ = header_octets h ++ rest in
    let first : word_at o 0 ≡ a = at_0 a (b ∷ h.application ∷ h.hop_by_hop ∷ h.end_to_end ∷ []) rest (omega (arith, fits.version, fits.len)) in
    let second : word_at o 4 ≡ b = at_4 a b (h.application ∷ h.hop_by_hop ∷ h.end_to_end ∷ []) rest (omega (arith, command_word_is h, bits.below, fits.command)) in
    let flags : first_octet (word_at o 4) ≡ flags4 h.request h.proxiable h.error h.retransmitted = ap first_octet (second ∙ command_word_is h) ∙ first_again _ _ fits.command in
    let command : other_octets (word_at o 4) ≡ h.command = ap other_octets (second ∙ command_word_is h) ∙ others_again _ _ fits.command in
    header_from h o (long_header a b h.application h.hop_by_hop h.end_to_end rest)
    (ap first_octet first ∙ first_again _ _ fits.len) (ap other_octets first ∙ others_again _ _ fits.len) flags command
    (at_8 a b h.application (h.hop_by_hop ∷ h.end_to_end ∷ []) rest fits.application)
    (at_12 a b h.application h.hop_by_hop (h.end_to_end ∷ []) rest fits.hop_by_hop)
    (at_16 a b h.application h.hop_by_hop h.end_to_end [] rest fits.end_to_end)
