-- What is read at the front of some octets is read there too once more follow.
use Rattle.std.proofs.Common.{◌≡◌, ◌≢◌, ◌<◌, ◌≤◌, ◌∙◌, ◌+◌, ◌-◌, ◌++◌, ◌==◌, ◌⊎◌, inl, inr, ℕ, nat_lt, Bool, List, length, take, drop, true, false, Option, Some, None, Result, Ok, Err, refl, sym, ap, arith, if◌then◌else◌, length-append, length-drop, drop-drop}
use Rattle.std.proofs.lemmas.Bool.{cases_lt, le-ltb, lt-ltb, le-leb}
use Rattle.std.proofs.lemmas.List.{drop-append-le, take-append-le}
use Rattle.byteorder.specs.Endian.{big_number, little_number}
use Rattle.byteorder.specs.Numbers.{big_from-append, little_from-append}
use Rattle.pcef_base.specs.Readings.{◌>>=◌, or_fault}
use Rattle.pcef_capture_file.specs.Blocks.{Framed, begins_section, block_front, block_in, block_of, is_block_len, len_of, most_block, order_of, section_order, total_of}
use Rattle.pcef_capture_file.specs.Captured.{Captured, packet_front}
use Rattle.pcef_capture_file.specs.Classic.{most_packet, record_of, recorded_len, stated_in}
use Rattle.pcef_capture_file.specs.Numbers.{number_by}
use Rattle.pcef_capture_file.specs.declared.classic.FileHeader.{FileHeader}
use Rattle.pcef_capture_file.specs.declared.endianness.Endianness.{Endianness}
use Rattle.pcef_capture_file.specs.declared.endianness.Endianness.TheVariants.{Big, Little}
use Rattle.pcef_capture_file.specs.declared.fault.CaptureFault.{CaptureFault}
use Rattle.pcef_capture_file.specs.declared.fault.CaptureFault.TheVariants as fault
use Rattle.pcef_capture_file.specs.declared.link.Link.{Link}
use Rattle.pcef_capture_file.specs.declared.packet.Stated.{Stated}

-- the same was read, and more stands behind it
abbrev pub grown : {A : Type 0} → List ℕ → Result (A × List ℕ) CaptureFault → Result (A × List ℕ) CaptureFault
grown more (Ok found) = Ok (found.0, found.1 ++ more)
grown more (Err fault) = Err fault

-- ---- numbers
pub longer : (o more : List ℕ) (n : ℕ) → n ≤ length o → n ≤ length (o ++ more)
longer o more n le = omega (arith, le, length-append o more)

behind_place : (o : List ℕ) (place len : ℕ) → place + len ≤ length o → len ≤ length (drop place o)
behind_place o place len le = omega (arith, le, length-drop place o)

before_place : (o : List ℕ) (place len : ℕ) → place + len ≤ length o → place ≤ length o
before_place o place len le = omega (arith, le)

pub number_more : (e : Endianness) (o more : List ℕ) (place len : ℕ) → place + len ≤ length o → number_by e (o ++ more) place len ≡ number_by e o place len
number_more Big o more place len le =
    ap (big_number len) (drop-append-le place o more (before_place o place len le)) ∙ big_from-append len (drop place o) more (behind_place o place len le)
number_more Little o more place len le =
    ap (little_number len) (drop-append-le place o more (before_place o place len le)) ∙ little_from-append len (drop place o) more (behind_place o place len le)

-- ---- records
packet_more : (link : Link) (e : Endianness) (n : ℕ) (line : Stated) (o more : List ℕ) → n ≤ length o → packet_front link e n line (o ++ more) ≡ grown more (packet_front link e n line o)
unfolding packet_front
packet_more link e n line o more le =
    rw (le-ltb (length o) n le, le-ltb (length (o ++ more)) n (longer o more n le), take-append-le n o more le, drop-append-le n o more le) refl

packet_whole : (link : Link) (e : Endianness) (n : ℕ) (line : Stated) (o : List ℕ) → n ≤ length o
    → packet_front link e n line o ≡ Ok (record { link = link; endianness = e; original = line.original; time = line.time; octets = take n o }, drop n o)
unfolding packet_front
packet_whole link e n line o le = rw (le-ltb (length o) n le) refl

packet_cut : (link : Link) (e : Endianness) (n : ℕ) (line : Stated) (o : List ℕ) → length o < n → packet_front link e n line o ≡ Err fault.CutPacket
unfolding packet_front
packet_cut link e n line o lt = rw (lt-ltb (length o) n lt) refl

-- a record whose header is at hand
abbrev behind_header : FileHeader → ℕ → Stated → List ℕ → Result (Captured × List ℕ) CaptureFault
behind_header h n line o = if nat_lt most_packet n then Err fault.TooLong else packet_front h.link h.endianness n line o

record_whole : (h : FileHeader) (o : List ℕ) → 16 ≤ length o → record_of h o ≡ behind_header h (recorded_len h.endianness o) (stated_in h o) (drop 16 o)
unfolding record_of
record_whole h o le = rw (le-ltb (length o) 16 le) refl

record_short : (h : FileHeader) (o : List ℕ) → length o < 16 → record_of h o ≡ Err fault.CutRecord
unfolding record_of
record_short h o lt = rw (lt-ltb (length o) 16 lt) refl

recorded_more : (e : Endianness) (o more : List ℕ) → 16 ≤ length o → recorded_len e (o ++ more) ≡ recorded_len e o
unfolding recorded_len
recorded_more e o more le = number_more e o more 8 4 (omega (arith, le))

stated_more : (h : FileHeader) (o more : List ℕ) → 16 ≤ length o → stated_in h (o ++ more) ≡ stated_in h o
unfolding stated_in
stated_more h o more le =
    rw (number_more h.endianness o more 0 4 (omega (arith, le)), number_more h.endianness o more 4 4 (omega (arith, le)), number_more h.endianness o more 12 4 (omega (arith, le))) refl

record_same : (h : FileHeader) (o more : List ℕ) → 16 ≤ length o → record_of h (o ++ more) ≡ behind_header h (recorded_len h.endianness o) (stated_in h o) (drop 16 o ++ more)
record_same h o more le =
    record_whole h (o ++ more) (longer o more 16 le)
    ∙ rw (recorded_more h.endianness o more le, stated_more h o more le, drop-append-le 16 o more le) refl

header_long : (h : FileHeader) (n : ℕ) (line : Stated) (o : List ℕ) → most_packet < n → behind_header h n line o ≡ Err fault.TooLong
header_long h n line o lt = rw (lt-ltb most_packet n lt) refl

header_fits : (h : FileHeader) (n : ℕ) (line : Stated) (o : List ℕ) → n ≤ most_packet → behind_header h n line o ≡ packet_front h.link h.endianness n line o
header_fits h n line o le = rw (le-ltb most_packet n le) refl

-- the octets end within the record, and are never many
abbrev pub CutsRecord : FileHeader → List ℕ → Type 0
CutsRecord h o = (f : CaptureFault) × (record_of h o ≡ Err f) × (f ≢ fault.TooLong) × (length o < most_block)

cuts_packet : (o : List ℕ) (n : ℕ) → length (drop 16 o) < n → n ≤ most_packet → length o < most_block
cuts_packet o n cut le = omega (arith, cut, le, length-drop 16 o)

-- or it is read the same
abbrev pub GrowsRecord : FileHeader → List ℕ → List ℕ → Type 0
GrowsRecord h o more =
    (record_of h (o ++ more) ≡ grown more (record_of h o)) × ((f : CaptureFault) → record_of h o ≡ Err f → f ≡ fault.TooLong)

long_only : (r : Result (Captured × List ℕ) CaptureFault) → r ≡ Err fault.TooLong → (f : CaptureFault) → r ≡ Err f → f ≡ fault.TooLong
long_only r is f e =
    let same : Err f ≡ Err fault.TooLong = sym e ∙ is in
    cc same

none_wrong : (r : Result (Captured × List ℕ) CaptureFault) (found : Captured × List ℕ) → r ≡ Ok found → (f : CaptureFault) → r ≡ Err f → f ≡ fault.TooLong
none_wrong r found is f e =
    let bad : Err f ≡ Ok found = sym e ∙ is in
    absurd (cc bad)

record_at_hand : (h : FileHeader) (o more : List ℕ) → 16 ≤ length o → CutsRecord h o ⊎ GrowsRecord h o more
record_at_hand h o more le =
    let n = recorded_len h.endianness o in
    let line = stated_in h o in
    let rest = drop 16 o in
    let now = record_whole h o le in
    let later = record_same h o more le in
    elim (cases_lt most_packet n) [
      | inl long ↦
          let here = now ∙ header_long h n line rest long in
          inr (later ∙ header_long h n line (rest ++ more) long ∙ sym (ap (grown more) here), long_only (record_of h o) here)
      | inr fits ↦
          elim (cases_lt (length rest) n) [
            | inl cut ↦ inl (fault.CutPacket, now ∙ header_fits h n line rest fits ∙ packet_cut h.link h.endianness n line rest cut, λ e. cc e, cuts_packet o n cut fits)
            | inr whole ↦
                let here = now ∙ header_fits h n line rest fits in
                inr (
                  later ∙ header_fits h n line (rest ++ more) fits ∙ packet_more h.link h.endianness n line rest more whole ∙ sym (ap (grown more) here),
                  none_wrong (record_of h o) _ (here ∙ packet_whole h.link h.endianness n line rest whole),
                )
          ]
    ]

pub record_more : (h : FileHeader) (o more : List ℕ) → CutsRecord h o ⊎ GrowsRecord h o more
record_more h o more =
    elim (cases_lt (length o) 16) [
      | inl short ↦ inl (fault.CutRecord, record_short h o short, λ e. cc e, omega (arith, short))
      | inr whole ↦ record_at_hand h o more whole
    ]

rest_of : (r : Result (Captured × List ℕ) CaptureFault) (found : Captured × List ℕ) (p : Captured) (rest : List ℕ) → r ≡ Ok found → r ≡ Ok (p, rest) → rest ≡ found.1
rest_of r found p rest is e =
    let both : Ok found ≡ Ok (p, rest) = sym is ∙ e in
    let same : found ≡ (p, rest) = cc both in
    sym (ap (λ t. t.1) same)

-- the octets behind a record
pub record_behind : (h : FileHeader) (o rest : List ℕ) (p : Captured) → record_of h o ≡ Ok (p, rest) → (n : ℕ) × (0 < n) × (n ≤ length o) × (rest ≡ drop n o)
record_behind h o rest p is =
    let n = recorded_len h.endianness o in
    let line = stated_in h o in
    let behind = drop 16 o in
    elim (cases_lt (length o) 16) [
      | inl short ↦
          let bad : Err fault.CutRecord ≡ Ok (p, rest) = sym (record_short h o short) ∙ is in
          absurd (cc bad)
      | inr some ↦
          let now = record_whole h o some in
          elim (cases_lt most_packet n) [
            | inl long ↦
                let bad : Err fault.TooLong ≡ Ok (p, rest) = sym (now ∙ header_long h n line behind long) ∙ is in
                absurd (cc bad)
            | inr fits ↦
                elim (cases_lt (length behind) n) [
                  | inl cut ↦
                      let bad : Err fault.CutPacket ≡ Ok (p, rest) = sym (now ∙ header_fits h n line behind fits ∙ packet_cut h.link h.endianness n line behind cut) ∙ is in
                      absurd (cc bad)
                  | inr whole ↦
                      let last : rest ≡ drop n behind = rest_of (record_of h o) (record { link = h.link; endianness = h.endianness; original = line.original; time = line.time; octets = take n behind }, drop n behind) p rest
                      (now ∙ header_fits h n line behind fits ∙ packet_whole h.link h.endianness n line behind whole) is in
                      (16 + n, omega arith, omega (arith, whole, some, length-drop 16 o), last ∙ drop-drop n 16 o)
                ]
          ]
    ]

-- ---- blocks
pub begins_more : (o more : List ℕ) → 4 ≤ length o → begins_section (o ++ more) ≡ begins_section o
unfolding begins_section
begins_more o more le =
    rw (le-leb 4 (length o) le, le-leb 4 (length (o ++ more)) (longer o more 4 le), number_more Big o more 0 4 (omega (arith, le))) refl

pub begins_some : (o : List ℕ) → begins_section o ≡ true → 4 ≤ length o
unfolding begins_section
begins_some o is = grind (arith, is)

section_more : (o more : List ℕ) → 12 ≤ length o → section_order (o ++ more) ≡ section_order o
unfolding section_order
section_more o more le = rw (number_more Big o more 8 4 (omega (arith, le)), number_more Little o more 8 4 (omega (arith, le))) refl

order_more : (e : Endianness) (o more : List ℕ) → 12 ≤ length o → order_of e (o ++ more) ≡ order_of e o
unfolding order_of
order_more e o more le = rw (begins_more o more (omega (arith, le)), section_more o more le) refl

total_more : (e : Endianness) (o more : List ℕ) → 12 ≤ length o → total_of e (o ++ more) ≡ total_of e o
unfolding total_of
total_more e o more le = number_more e o more 4 4 (omega (arith, le))

-- by three tests: of the length, of its limit, and of the length at the other end
abbrev len_by : Bool → Bool → Bool → ℕ → Result ℕ CaptureFault
len_by false long same total = Err fault.BlockLength
len_by true true same total = Err fault.TooLong
len_by true false true total = Ok total
len_by true false false total = Err fault.BlockLength

by_tests : (a b c : Bool) (total : ℕ) →
    (if a then if b then Err fault.TooLong else if false then Err fault.CutBlock else if c then Ok total else Err fault.BlockLength else Err fault.BlockLength) ≡ len_by a b c total
by_tests false b c total = refl
by_tests true true c total = refl
by_tests true false true total = refl
by_tests true false false total = refl

len_whole : (e : Endianness) (o : List ℕ) → total_of e o ≤ length o → len_of e o ≡ len_by (is_block_len (total_of e o)) (nat_lt most_block (total_of e o)) (number_by e o (total_of e o - 4) 4 == total_of e o) (total_of e o)
unfolding len_of
len_whole e o le =
    rw (le-ltb (length o) (total_of e o) le) (by_tests (is_block_len (total_of e o)) (nat_lt most_block (total_of e o)) (number_by e o (total_of e o - 4) 4 == total_of e o) (total_of e o))

end_place : (o : List ℕ) (total : ℕ) → 12 ≤ length o → total ≤ length o → total - 4 + 4 ≤ length o
end_place o total some le = omega (arith, some, le)

len_same : (e : Endianness) (o more : List ℕ) → 12 ≤ length o → total_of e o ≤ length o → len_of e (o ++ more) ≡ len_of e o
len_same e o more some le =
    let total = total_of e o in
    let same = total_more e o more some in
    let fits : total_of e (o ++ more) ≤ length (o ++ more) = rw same (longer o more total le) in
    len_whole e (o ++ more) fits ∙ rw (same, number_more e o more (total - 4) 4 (end_place o total some le)) refl ∙ sym (len_whole e o le)

len_refused : (e : Endianness) (o : List ℕ) → is_block_len (total_of e o) ≡ false → len_of e o ≡ Err fault.BlockLength
unfolding len_of
len_refused e o is = rw is refl

len_long : (e : Endianness) (o : List ℕ) → is_block_len (total_of e o) ≡ true → most_block < total_of e o → len_of e o ≡ Err fault.TooLong
unfolding len_of
len_long e o is lt = rw (is, lt-ltb most_block (total_of e o) lt) refl

len_cut : (e : Endianness) (o : List ℕ) → is_block_len (total_of e o) ≡ true → total_of e o ≤ most_block → length o < total_of e o → len_of e o ≡ Err fault.CutBlock
unfolding len_of
len_cut e o is le lt = rw (is, le-ltb most_block (total_of e o) le, lt-ltb (length o) (total_of e o) lt) refl

-- the octets end within the block, and are never many
abbrev pub CutsBlock : Endianness → List ℕ → Type 0
CutsBlock e o = (block_of e o ≡ Err fault.CutBlock) × (length o < most_block)

-- or the block is read the same
abbrev pub GrowsBlock : Endianness → List ℕ → List ℕ → Type 0
GrowsBlock e o more = (block_of e (o ++ more) ≡ grown more (block_of e o)) × (block_of e o ≢ Err fault.CutBlock)

-- the same of a block whose order is known
abbrev CutsIn : Endianness → List ℕ → Type 0
CutsIn e o = (block_in e o ≡ Err fault.CutBlock) × (length o < most_block)

abbrev GrowsIn : Endianness → List ℕ → List ℕ → Type 0
GrowsIn e o more = (block_in e (o ++ more) ≡ grown more (block_in e o)) × (block_in e o ≢ Err fault.CutBlock)

front_more : (e : Endianness) (o more : List ℕ) (total : ℕ) → 12 ≤ length o → total ≤ length o
    → block_front e (o ++ more) total ≡ ((block_front e o total).0, (block_front e o total).1 ++ more)
unfolding block_front
front_more e o more total some le =
    let body : total - 12 ≤ length (drop 8 o) = omega (arith, le, length-drop 8 o) in
    rw (number_more e o more 0 4 (omega (arith, some)), drop-append-le 8 o more (omega (arith, some)), take-append-le (total - 12) (drop 8 o) more body, drop-append-le total o more le) refl

fronts_more : (e : Endianness) (o more : List ℕ) (a b c : Bool) (total : ℕ) → 12 ≤ length o → total ≤ length o
    → (len_by a b c total >>= (λ n. Ok (block_front e (o ++ more) n))) ≡ grown more (len_by a b c total >>= (λ n. Ok (block_front e o n)))
fronts_more e o more false b c total some le = refl
fronts_more e o more true true c total some le = refl
fronts_more e o more true false true total some le = ap Ok (front_more e o more total some le)
fronts_more e o more true false false total some le = refl

not_cut : (e : Endianness) (o : List ℕ) (a b c : Bool) (total : ℕ) → (len_by a b c total >>= (λ n. Ok (block_front e o n))) ≢ Err fault.CutBlock
not_cut e o false b c total is = cc is
not_cut e o true true c total is = cc is
not_cut e o true false true total is = cc is
not_cut e o true false false total is = cc is

in_whole : (e : Endianness) (o more : List ℕ) → 12 ≤ length o → total_of e o ≤ length o → GrowsIn e o more
unfolding block_in
in_whole e o more some le =
    let total = total_of e o in
    let a = is_block_len total in
    let b = nat_lt most_block total in
    let c = number_by e o (total - 4) 4 == total in
    let here = len_whole e o le in (
      ap (λ r. r >>= (λ n. Ok (block_front e (o ++ more) n))) (len_same e o more some le ∙ here)
          ∙ fronts_more e o more a b c total some le ∙ sym (ap (λ r. grown more (r >>= (λ n. Ok (block_front e o n)))) here),
      λ is. not_cut e o a b c total (sym (ap (λ r. r >>= (λ n. Ok (block_front e o n))) here) ∙ is),
    )

in_fault : (e : Endianness) (o : List ℕ) (f : CaptureFault) → len_of e o ≡ Err f → block_in e o ≡ Err f
unfolding block_in
in_fault e o f is = rw is refl

-- a fault that more octets don't change
in_faults : (e : Endianness) (o more : List ℕ) (f : CaptureFault) → f ≢ fault.CutBlock → len_of e o ≡ Err f → len_of e (o ++ more) ≡ Err f → GrowsIn e o more
in_faults e o more f other now later =
    let here = in_fault e o f now in (
      in_fault e (o ++ more) f later ∙ sym (ap (grown more) here),
      λ is.
          let same : Err f ≡ Err fault.CutBlock = sym here ∙ is in
          other (cc same),
    )

by_test : (b : Bool) → (b ≡ true) ⊎ (b ≡ false)
by_test true = inl refl
by_test false = inr refl

below_most : (n total most : ℕ) → n < total → total ≤ most → n < most
below_most n total most lt le = omega (arith, lt, le)

in_cut : (e : Endianness) (o more : List ℕ) → 12 ≤ length o → length o < total_of e o → CutsIn e o ⊎ GrowsIn e o more
in_cut e o more some cut =
    let total = total_of e o in
    let same = total_more e o more some in
    elim (by_test (is_block_len total)) [
      | inr is ↦ inr (in_faults e o more fault.BlockLength (λ x. cc x) (len_refused e o is) (len_refused e (o ++ more) (ap is_block_len same ∙ is)))
      | inl is ↦
          elim (cases_lt most_block total) [
            | inl long ↦ inr (in_faults e o more fault.TooLong (λ x. cc x) (len_long e o is long) (len_long e (o ++ more) (ap is_block_len same ∙ is) (rw same long)))
            | inr fits ↦ inl (in_fault e o fault.CutBlock (len_cut e o is fits cut), below_most (length o) total most_block cut fits)
          ]
    ]

in_more : (e : Endianness) (o more : List ℕ) → 12 ≤ length o → CutsIn e o ⊎ GrowsIn e o more
in_more e o more some =
    elim (cases_lt (length o) (total_of e o)) [
      | inl cut ↦ in_cut e o more some cut
      | inr whole ↦ inr (in_whole e o more some whole)
    ]

block_short : (e : Endianness) (o : List ℕ) → length o < 12 → block_of e o ≡ Err fault.CutBlock
unfolding block_of
block_short e o lt = rw (lt-ltb (length o) 12 lt) refl

block_whole : (e : Endianness) (o : List ℕ) → 12 ≤ length o → block_of e o ≡ (order_of e o >>= (λ order. block_in order o))
unfolding block_of
block_whole e o le = rw (le-ltb (length o) 12 le) refl

-- by what states the order
abbrev order_by : Endianness → Bool → Option Endianness → Result Endianness CaptureFault
order_by e begins told = if begins then or_fault fault.ByteOrder told else Ok e

order_is : (e : Endianness) (o : List ℕ) → order_of e o ≡ order_by e (begins_section o) (section_order o)
unfolding order_of
order_is e o = refl

by_order : (e : Endianness) (o more : List ℕ) (begins : Bool) (told : Option Endianness) → 12 ≤ length o
    → (((order_by e begins told >>= (λ order. block_in order o)) ≡ Err fault.CutBlock) × (length o < most_block))
    ⊎ (((order_by e begins told >>= (λ order. block_in order (o ++ more))) ≡ grown more (order_by e begins told >>= (λ order. block_in order o)))
    × ((order_by e begins told >>= (λ order. block_in order o)) ≢ Err fault.CutBlock))
by_order e o more false told some = in_more e o more some
by_order e o more true (Some order) some = in_more order o more some
by_order e o more true None some = inr (refl, λ is. cc is)

block_at_hand : (e : Endianness) (o more : List ℕ) → 12 ≤ length o → CutsBlock e o ⊎ GrowsBlock e o more
block_at_hand e o more some =
    let now : block_of e o ≡ (order_by e (begins_section o) (section_order o) >>= (λ order. block_in order o)) =
    block_whole e o some ∙ ap (λ r. r >>= (λ order. block_in order o)) (order_is e o) in
    let later : block_of e (o ++ more) ≡ (order_by e (begins_section o) (section_order o) >>= (λ order. block_in order (o ++ more))) =
    block_whole e (o ++ more) (longer o more 12 some) ∙ ap (λ r. r >>= (λ order. block_in order (o ++ more))) (order_more e o more some ∙ order_is e o) in
    elim (by_order e o more (begins_section o) (section_order o) some) [
      | inl cut ↦ inl (now ∙ cut.0, cut.1)
      | inr grows ↦ inr (later ∙ grows.0 ∙ sym (ap (grown more) now), λ is. grows.1 (sym now ∙ is))
    ]

pub block_more : (e : Endianness) (o more : List ℕ) → CutsBlock e o ⊎ GrowsBlock e o more
block_more e o more =
    elim (cases_lt (length o) 12) [
      | inl short ↦ inl (block_short e o short, omega (arith, short))
      | inr whole ↦ block_at_hand e o more whole
    ]

-- ---- the octets behind a block
len_some : (a b c : Bool) (total n : ℕ) → len_by a b c total ≡ Ok n → (a ≡ true) × (n ≡ total)
len_some true false true total n is = (refl, cc is)
len_some true false false total n is = absurd (cc is)
len_some true true c total n is = absurd (cc is)
len_some false b c total n is = absurd (cc is)

least_of : (total : ℕ) → is_block_len total ≡ true → 12 ≤ total
unfolding is_block_len
least_of total is = grind (arith, is)

len_within : (e : Endianness) (o : List ℕ) (n : ℕ) → len_of e o ≡ Ok n → (12 ≤ n) × (n ≤ length o)
len_within e o n is =
    let total = total_of e o in
    elim (cases_lt (length o) total) [
      | inl cut ↦
          elim (by_test (is_block_len total)) [
            | inr not ↦
                let bad : Err fault.BlockLength ≡ Ok n = sym (len_refused e o not) ∙ is in
                absurd (cc bad)
            | inl length_is ↦
                elim (cases_lt most_block total) [
                  | inl long ↦
                      let bad : Err fault.TooLong ≡ Ok n = sym (len_long e o length_is long) ∙ is in
                      absurd (cc bad)
                  | inr fits ↦
                      let bad : Err fault.CutBlock ≡ Ok n = sym (len_cut e o length_is fits cut) ∙ is in
                      absurd (cc bad)
                ]
          ]
      | inr whole ↦
          let found = len_some (is_block_len total) (nat_lt most_block total) (number_by e o (total - 4) 4 == total) total n (sym (len_whole e o whole) ∙ is) in
          rw found.1 (least_of total found.0, whole)
    ]

front_behind : (e : Endianness) (o rest : List ℕ) (b : Framed) (total : ℕ) → block_front e o total ≡ (b, rest) → rest ≡ drop total o
unfolding block_front
front_behind e o rest b total is = sym (ap (λ t. t.1) is)

lens_behind : (e : Endianness) (o rest : List ℕ) (b : Framed) (r : Result ℕ CaptureFault) → len_of e o ≡ r → (r >>= (λ n. Ok (block_front e o n))) ≡ Ok (b, rest) → (n : ℕ) × (0 < n) × (n ≤ length o) × (rest ≡ drop n o)
lens_behind e o rest b (Err f) len is = absurd (cc is)
lens_behind e o rest b (Ok n) len is =
    let within = len_within e o n len in
    let same : block_front e o n ≡ (b, rest) = cc is in
    (n, omega (arith, within.0), within.1, front_behind e o rest b n same)

in_behind : (e : Endianness) (o rest : List ℕ) (b : Framed) → block_in e o ≡ Ok (b, rest) → (n : ℕ) × (0 < n) × (n ≤ length o) × (rest ≡ drop n o)
unfolding block_in
in_behind e o rest b is = lens_behind e o rest b (len_of e o) refl is

orders_behind : (r : Result Endianness CaptureFault) (o rest : List ℕ) (b : Framed) → (r >>= (λ order. block_in order o)) ≡ Ok (b, rest) → (n : ℕ) × (0 < n) × (n ≤ length o) × (rest ≡ drop n o)
orders_behind (Err f) o rest b is = absurd (cc is)
orders_behind (Ok e) o rest b is = in_behind e o rest b is

pub block_behind : (e : Endianness) (o rest : List ℕ) (b : Framed) → block_of e o ≡ Ok (b, rest) → (n : ℕ) × (0 < n) × (n ≤ length o) × (rest ≡ drop n o)
block_behind e o rest b is =
    elim (cases_lt (length o) 12) [
      | inl short ↦
          let bad : Err fault.CutBlock ≡ Ok (b, rest) = sym (block_short e o short) ∙ is in
          absurd (cc bad)
      | inr whole ↦ orders_behind (order_of e o) o rest b (sym (block_whole e o whole) ∙ is)
    ]
