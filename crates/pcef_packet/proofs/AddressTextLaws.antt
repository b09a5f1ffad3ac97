-- Addresses in text: what is read is what the text writes, and all that it writes.
use Rattle.std.proofs.Common.{ℕ, zero, suc, ◌≡◌, ◌+◌, ◌-◌, ◌*◌, ◌^◌, ◌<◌, ◌≤◌, ◌∙◌, ◌++◌, ◌==◌, ◌&&◌, Bool, true, false, List, [], ◌∷◌, length, take, drop, slice_index, Option, Some, None, refl, sym, ap, subst, arith, inl, inr, append_assoc}
use Rattle.std.specs.Prelude.{IfSome, nat_le, nat_lt}
use Rattle.std.proofs.lemmas.Bool.{and_parts, cases_Bool, eqb-true}
use Rattle.std.proofs.lemmas.Bool.Decides.{nat_tests}
use Rattle.std.proofs.lemmas.List.{append-nil, length-append}
use Rattle.std.proofs.lemmas.Option.{cond_some}
use Rattle.std.proofs.Math.Seq.{drop-append-add, take-append_seam}
use Rattle.pcef_packet.specs.declared.header.Addr.{Addr}
use Rattle.pcef_packet.specs.declared.header.Addr.TheVariants.{V4, V6}
use Rattle.pcef_packet.specs.Joined.{◌>>=◌, number_behind}
use Rattle.pcef_packet.specs.ColonHex.{IsColonHex, IsShortened, IsWhole, WritesGroups, WritesSide, colon, digit_of, digits_from, group_of, number_of_groups}
use Rattle.pcef_packet.proofs.Cuts.{cut_joined, cut_none, cut_some, has, then_found}
use Rattle.pcef_packet.proofs.DottedLaws.{dotted_again, dotted_found, dotted_no_colon}
use Rattle.pcef_packet.specs.AddressTexts.{WritesAddress, cut_at, dotted_of, address_of, begins_gap, colon_hex_in, gap_place, groups_in, groups_within, has_colon, if_eight, if_fewer, last_or_more, shortened_in, side_in, whole_in}

is_colon : ℕ → Bool
is_colon o = o == colon

-- ---- digits are no colons
digit_no_colon : (o d : ℕ) → digit_of o ≡ Some d → (o == 58) ≡ false
unfolding digit_of
digit_no_colon o d h =
    elim (cases_Bool (o == 58)) [
      | inl same ↦ absurd (let is = eqb-true o 58 same in let clash = rw is at h in cc)
      | inr other ↦ other
    ]

-- the first of some digits, and the others
digits_first : (n o g : ℕ) (os : List ℕ) → digits_from n (o ∷ os) ≡ Some g → ((o == 58) ≡ false) × (m : ℕ) × (digits_from m os ≡ Some g)
digits_first n o g os h =
    let first = then_found (digit_of o) (λ d. digits_from (n * 16 + d) os) g h in
    (digit_no_colon o first.0 first.1, n * 16 + first.0, first.2)

-- digits stand before the first two colons
digits_gap : (n g : ℕ) (xs more : List ℕ) → digits_from n xs ≡ Some g → gap_place (xs ++ more) ≡ length xs + gap_place more
digits_gap n g [] more h = omega arith
digits_gap n g (o ∷ os) more h =
    let first = digits_first n o g os h in
    let rest = digits_gap first.1 g os more first.2 in
    rw (first.0, rest) (omega arith)

group_digits : (text : List ℕ) (g : ℕ) → group_of text ≡ Some g → (0 < length text) × (digits_from 0 text ≡ Some g)
unfolding group_of
group_digits text g h =
    elim (cases_Bool (nat_lt 0 (length text) && nat_le (length text) 4)) [
      | inl fits ↦ (let both = and_parts (nat_lt 0 (length text)) (nat_le (length text) 4) fits in (less (length text) both.0, rw fits at h))
      | inr none ↦ absurd (let clash = rw none at h in cc)
    ]
  where
    less : (n : ℕ) → nat_lt 0 n ≡ true → 0 < n
    less n h = grind (arith, nat_tests)

-- ---- cuts
digits_clear : (n g : ℕ) (xs : List ℕ) → digits_from n xs ≡ Some g → has colon xs ≡ false
digits_clear n g [] h = refl
digits_clear n g (o ∷ os) h =
    let first = digits_first n o g os h in
    rw first.0 (digits_clear first.1 g os first.2)

group_clear : (text : List ℕ) (g : ℕ) → group_of text ≡ Some g → has colon text ≡ false
group_clear text g h = let digits = group_digits text g h in digits_clear 0 g text digits.1

-- ---- groups
-- groups that are written are read
groups_again : (n number count : ℕ) (text : List ℕ) (gs : List ℕ) → WritesGroups text gs → length gs ≤ n → groups_within n number count text ≡ Some (number_behind 65536 number gs, count + length gs)
unfolding groups_within
groups_again n number count text [] h few = absurd h
groups_again zero number count text (g ∷ gs) h few = absurd (omega arith)
groups_again (suc n) number count text (g ∷ []) h few = rw (cut_none colon text (group_clear text g h), h) refl
groups_again (suc n) number count text (g ∷ k ∷ gs) h few =
    let cut : cut_at colon text ≡ Some (h.0, h.1) = ap (cut_at colon) h.2 ∙ cut_some colon h.0 h.1 (group_clear h.0 g h.3) in
    let rest = groups_again n (number * 65536 + g) (count + 1) h.1 (k ∷ gs) h.4 (omega arith) in
    let count_same : count + 1 + length (k ∷ gs) ≡ count + length (g ∷ k ∷ gs) = omega arith in
    rw (cut, h.3) (rest ∙ ap (λ (m : ℕ). Some (number_behind 65536 number (g ∷ k ∷ gs), m)) count_same)

record AreRead (number count : ℕ) (text : List ℕ) (p : ℕ × ℕ) : Type 0 where
  groups : List ℕ
  written : WritesGroups text groups
  value : p.0 ≡ number_behind 65536 number groups
  long : p.1 ≡ count + length groups

one_more : (text front rest : List ℕ) (g : ℕ) (gs : List ℕ) → text ≡ front ++ (colon ∷ rest) → group_of front ≡ Some g → WritesGroups rest gs → WritesGroups text (g ∷ gs)
one_more text front rest g [] order first more = absurd more
one_more text front rest g (k ∷ gs) order first more = (front, rest, order, first, more)

-- groups that are read are written
groups_found : (n number count : ℕ) (text : List ℕ) (p : ℕ × ℕ) → groups_within n number count text ≡ Some p → AreRead number count text p
unfolding groups_within
groups_found zero number count text p h = absurd (cc)
groups_found (suc n) number count text p h = go (cut_at colon text) refl h (λ m c rest. groups_found n m c rest p)
  where
    go : (o : Option (List ℕ × List ℕ)) → cut_at colon text ≡ o
        → last_or_more (λ g. Some (number * 65536 + g, count + 1)) (λ g rest. groups_within n (number * 65536 + g) (count + 1) rest) text o ≡ Some p
        → ((m c : ℕ) (rest : List ℕ) → groups_within n m c rest ≡ Some p → AreRead m c rest p) → AreRead number count text p
    go None cut h more =
        let last = then_found (group_of text) (λ g. Some (number * 65536 + g, count + 1)) p h in
        let same : (number * 65536 + last.0, count + 1) ≡ p = (let it = last.2 in cc) in
        record { groups = last.0 ∷ []; written = last.1; value = ap (λ (q : ℕ × ℕ). q.0) (sym same); long = ap (λ (q : ℕ × ℕ). q.1) (sym same) }
    go (Some (front, rest)) cut h more =
        let first = then_found (group_of front) (λ g. groups_within n (number * 65536 + g) (count + 1) rest) p h in
        let behind = more (number * 65536 + first.0) (count + 1) rest first.2 in
        record {
          groups = first.0 ∷ behind.groups;
          written = one_more text front rest first.0 behind.groups (cut_joined colon text front rest cut) first.1 behind.written;
          value = behind.value;
          long = (let long = behind.long in omega arith);
        }

-- ---- the first two colons
-- what groups begin with is no colon
first_no_colon : (text : List ℕ) (g : ℕ) (gs more : List ℕ) → WritesGroups text (g ∷ gs) → (slice_index (text ++ more) 0 == 58) ≡ false
first_no_colon text g gs more h = go text gs h
  where
    of_group : (xs rest : List ℕ) → group_of xs ≡ Some g → (slice_index (xs ++ rest) 0 == 58) ≡ false
    of_group xs rest h = let digits = group_digits xs g h in of_digits xs rest digits.0 digits.1
      where
        of_digits : (xs rest : List ℕ) → 0 < length xs → digits_from 0 xs ≡ Some g → (slice_index (xs ++ rest) 0 == 58) ≡ false
        of_digits [] rest some h = absurd (omega arith)
        of_digits (o ∷ os) rest some h = let first = digits_first 0 o g os h in first.0

    go : (text gs : List ℕ) → WritesGroups text (g ∷ gs) → (slice_index (text ++ more) 0 == 58) ≡ false
    go text [] h = of_group text more h
    go text (k ∷ gs) h =
        ap (λ (t : List ℕ). slice_index (t ++ more) 0 == 58) h.2
        ∙ ap (λ (t : List ℕ). slice_index t 0 == 58) (append_assoc h.0 (58 ∷ h.1) more)
        ∙ of_group h.0 ((58 ∷ h.1) ++ more) h.3

-- a colon before what is none begins no gap
one_colon : (xs : List ℕ) → (slice_index xs 0 == 58) ≡ false → gap_place (58 ∷ xs) ≡ suc (gap_place xs)
one_colon xs other = rw other refl

groups_gap : (text : List ℕ) (gs more : List ℕ) → WritesGroups text gs → gap_place (text ++ more) ≡ length text + gap_place more
groups_gap text [] more h = absurd h
groups_gap text (g ∷ []) more h = let digits = group_digits text g h in digits_gap 0 g text more digits.1
groups_gap text (g ∷ k ∷ gs) more h =
    let digits = group_digits h.0 g h.3 in
    let apart : text ++ more ≡ h.0 ++ (58 ∷ (h.1 ++ more)) = ap (λ (t : List ℕ). t ++ more) h.2 ∙ append_assoc h.0 (58 ∷ h.1) more in
    let front = digits_gap 0 g h.0 (58 ∷ (h.1 ++ more)) digits.1 in
    let colon_passed = one_colon (h.1 ++ more) (first_no_colon h.1 k gs more h.4) in
    let rest = groups_gap h.1 (k ∷ gs) more h.4 in
    let long : length text ≡ length h.0 + suc (length h.1) = ap length h.2 ∙ length-append h.0 (58 ∷ h.1) in
    ap gap_place apart ∙ front ∙ omega (arith, colon_passed, rest, long)

side_gap : (text : List ℕ) (gs more : List ℕ) → WritesSide text gs → gap_place (text ++ more) ≡ length text + gap_place more
side_gap text [] more h = rw h (omega arith)
side_gap text (g ∷ gs) more h = groups_gap text (g ∷ gs) more h

-- the text is what stands before the first two colons, these, and what stands behind them
gap_parts : (text : List ℕ) → gap_place text < length text → text ≡ take (gap_place text) text ++ (58 ∷ 58 ∷ drop (gap_place text + 2) text)
gap_parts [] h = absurd (omega arith)
gap_parts (o ∷ []) h =
    elim (cases_Bool (begins_gap (o ∷ []))) [
      | inl gap ↦ absurd (let both = and_parts (o == 58) (0 == 58) gap in let clash : false ≡ true = both.1 in cc)
      | inr none ↦ absurd (let at : gap_place (o ∷ []) ≡ 1 = rw none refl in omega (arith, at, h))
    ]
gap_parts (o ∷ p ∷ os) h =
    elim (cases_Bool (begins_gap (o ∷ p ∷ os))) [
      | inl gap ↦
          (let both = and_parts (o == 58) (p == 58) gap in
          let at : gap_place (o ∷ p ∷ os) ≡ 0 = rw gap refl in
          let two : 0 + 2 ≡ suc (suc 0) = refl in
          rw (at, eqb-true o 58 both.0, eqb-true p 58 both.1) refl)
      | inr none ↦
          (let at : gap_place (o ∷ p ∷ os) ≡ suc (gap_place (p ∷ os)) = rw none refl in
          let rest = gap_parts (p ∷ os) (omega (arith, at, h)) in
          let two : suc (gap_place (p ∷ os)) + 2 ≡ suc (gap_place (p ∷ os) + 2) = omega arith in
          rw (at, two) (ap (λ (l : List ℕ). o ∷ l) rest))
    ]

-- ---- one side
side_filled : (o : ℕ) (os : List ℕ) → side_in (o ∷ os) ≡ groups_in (o ∷ os)
unfolding side_in
side_filled o os =
    elim (cases_Bool (length (o ∷ os) == 0)) [
      | inl none ↦ absurd (let zero_long = eqb-true (length (o ∷ os)) 0 none in omega (arith, zero_long))
      | inr some ↦ rw some refl
    ]

side_again : (text gs : List ℕ) → WritesSide text gs → length gs ≤ 8 → side_in text ≡ Some (number_of_groups gs, length gs)
unfolding side_in
side_again text [] h few = rw h refl
side_again [] (g ∷ []) h few = absurd (let digits = group_digits [] g h in omega (arith, digits.0))
side_again [] (g ∷ k ∷ gs) h few = absurd (let long : length {A = ℕ} [] ≡ length (h.0 ++ (58 ∷ h.1)) = ap (λ (l : List ℕ). length l) h.2 in let sum = length-append h.0 (58 ∷ h.1) in omega (arith, long, sum))
side_again (o ∷ os) (g ∷ gs) h few = side_filled o os ∙ groups_again 8 0 0 (o ∷ os) (g ∷ gs) h few ∙ (let same : 0 + length (g ∷ gs) ≡ length (g ∷ gs) = omega arith in ap (λ (m : ℕ). Some (number_behind 65536 0 (g ∷ gs), m)) same)

record IsSideRead (text : List ℕ) (p : ℕ × ℕ) : Type 0 where
  groups : List ℕ
  written : WritesSide text groups
  value : p.0 ≡ number_of_groups groups
  long : p.1 ≡ length groups

side_written : (text gs : List ℕ) → WritesGroups text gs → WritesSide text gs
side_written text [] h = absurd h
side_written text (g ∷ gs) h = h

side_found : (text : List ℕ) (p : ℕ × ℕ) → side_in text ≡ Some p → IsSideRead text p
unfolding side_in
side_found [] p h =
    let same : (0, 0) ≡ p = cc in
    record { groups = []; written = refl; value = ap (λ (q : ℕ × ℕ). q.0) (sym same); long = ap (λ (q : ℕ × ℕ). q.1) (sym same) }
side_found (o ∷ os) p h =
    let read = groups_found 8 0 0 (o ∷ os) p (sym (side_filled o os) ∙ h) in
    record { groups = read.groups; written = side_written (o ∷ os) read.groups read.written; value = read.value; long = (let long = read.long in omega arith) }

-- ---- whole and shortened texts
le_test : (m n : ℕ) → m ≤ n → nat_le m n ≡ true
le_test m n h = grind (arith, nat_tests)

test_le : (m n : ℕ) → nat_le m n ≡ true → m ≤ n
test_le m n h = grind (arith, nat_tests)

lt_test : (m n : ℕ) → m < n → nat_lt m n ≡ true
lt_test m n h = grind (arith, nat_tests)

test_lt : (m n : ℕ) → nat_lt m n ≡ true → m < n
test_lt m n h = grind (arith, nat_tests)

ge_test : (m n : ℕ) → n ≤ m → nat_lt m n ≡ false
ge_test m n h = grind (arith, nat_tests)

whole_again : (text : List ℕ) (number : ℕ) → IsWhole text number → colon_hex_in text ≡ Some number
unfolding colon_hex_in whole_in
whole_again text number is =
    let none : gap_place text ≡ length text = ap gap_place (sym (append-nil text)) ∙ groups_gap text is.groups [] is.written ∙ omega arith in
    let read = groups_again 8 0 0 text is.groups is.written (omega (arith, is.eight)) in
    let count : 0 + length is.groups ≡ 8 = omega (arith, is.eight) in
    rw (none, ge_test (length text) (length text) (omega arith), read, count) (ap Some (sym is.value))

shortened_again : (text : List ℕ) (number : ℕ) → IsShortened text number → colon_hex_in text ≡ Some number
unfolding colon_hex_in shortened_in
shortened_again text number is =
    let at : gap_place text ≡ length is.before = ap gap_place is.order ∙ side_gap is.before is.high (58 ∷ 58 ∷ is.behind) is.high_written ∙ omega arith in
    let long : length text ≡ length is.before + suc (suc (length is.behind)) = ap length is.order ∙ length-append is.before (58 ∷ 58 ∷ is.behind) in
    let test : nat_lt (length is.before) (length text) ≡ true = lt_test (length is.before) (length text) (omega (arith, long)) in
    let front : take (length is.before) text ≡ is.before = ap (take (length is.before)) is.order ∙ take-append_seam is.before (58 ∷ 58 ∷ is.behind) in
    let last : drop (length is.before + 2) text ≡ is.behind = ap (drop (length is.before + 2)) is.order ∙ drop-append-add is.before (58 ∷ 58 ∷ is.behind) 2 in
    let fewer = is.fewer in
    let high = side_again is.before is.high is.high_written (omega arith) in
    let low = side_again is.behind is.low is.low_written (omega arith) in
    rw (at, test, front, last, high, low, le_test (length is.high + length is.low) 7 fewer) (ap Some (sym is.value))

filled : (high low highs : ℕ) (hs ls : List ℕ) → high ≡ number_of_groups hs → highs ≡ length hs → low ≡ number_of_groups ls
    → high * 65536 ^ (8 - highs) + low ≡ number_of_groups hs * 65536 ^ (8 - length hs) + number_of_groups ls
filled high low highs hs ls h n l = rw (h, n, l) refl

shortened_found : (text before behind : List ℕ) (number : ℕ) → text ≡ before ++ (58 ∷ 58 ∷ behind) → shortened_in before behind ≡ Some number → IsShortened text number
unfolding shortened_in
shortened_found text before behind number order h =
    let high = then_found (side_in before) (λ high. side_in behind >>= λ low. if_fewer high low) number h in
    let low = then_found (side_in behind) (λ low. if_fewer high.0 low) number high.2 in
    let parted = cond_some (nat_le (high.0.1 + low.0.1) 7) (high.0.0 * 65536 ^ (8 - high.0.1) + low.0.0) number low.2 in
    let h_read = side_found before high.0 high.1 in
    let l_read = side_found behind low.0 low.1 in
    let few = test_le (high.0.1 + low.0.1) 7 parted.0 in
    record {
      before = before;
      behind = behind;
      high = h_read.groups;
      low = l_read.groups;
      order = order;
      high_written = h_read.written;
      low_written = l_read.written;
      fewer = omega (arith, few, h_read.long, l_read.long);
      value = sym parted.1 ∙ filled high.0.0 low.0.0 high.0.1 h_read.groups l_read.groups h_read.value h_read.long l_read.value;
    }

whole_found : (text : List ℕ) (number : ℕ) → whole_in text ≡ Some number → IsWhole text number
unfolding whole_in
whole_found text number h =
    let groups = then_found (groups_in text) if_eight number h in
    let parted = cond_some (groups.0.1 == 8) groups.0.0 number groups.2 in
    let read = groups_found 8 0 0 text groups.0 groups.1 in
    let count = eqb-true groups.0.1 8 parted.0 in
    record { groups = read.groups; written = read.written; eight = (let long = read.long in omega (arith, long, count)); value = sym parted.1 ∙ read.value }

colon_hex_again : (text : List ℕ) (number : ℕ) → IsColonHex text number → colon_hex_in text ≡ Some number
colon_hex_again text number (inl whole) = whole_again text number whole
colon_hex_again text number (inr shortened) = shortened_again text number shortened

colon_hex_found : (text : List ℕ) (number : ℕ) → colon_hex_in text ≡ Some number → IsColonHex text number
unfolding colon_hex_in
colon_hex_found text number h =
    elim (cases_Bool (nat_lt (gap_place text) (length text))) [
      | inl gap ↦ inr (shortened_found text (take (gap_place text) text) (drop (gap_place text + 2) text) number (gap_parts text (test_lt (gap_place text) (length text) gap)) (rw gap at h))
      | inr none ↦ inl (whole_found text number (rw none at h))
    ]

-- ---- either version
colon_there : (xs ys : List ℕ) → has_colon (xs ++ (58 ∷ ys)) ≡ true
colon_there [] ys = refl
colon_there (x ∷ xs) ys = elim (cases_Bool (x == 58)) [ inl here ↦ rw here refl | inr not_here ↦ rw not_here (colon_there xs ys) ]

groups_colon : (text gs : List ℕ) → WritesGroups text gs → 2 ≤ length gs → has_colon text ≡ true
groups_colon text [] h few = absurd h
groups_colon text (g ∷ []) h few = absurd (omega arith)
groups_colon text (g ∷ k ∷ gs) h few = ap has_colon h.2 ∙ colon_there h.0 h.1

six_colon : (text : List ℕ) (number : ℕ) → IsColonHex text number → has_colon text ≡ true
six_colon text number (inl whole) = groups_colon text whole.groups whole.written (omega (arith, whole.eight))
six_colon text number (inr shortened) = ap has_colon shortened.order ∙ colon_there shortened.before (58 ∷ shortened.behind)

pub address_again : (text : List ℕ) (addr : Addr) → WritesAddress text addr → address_of text ≡ Some addr
unfolding address_of
address_again text (V4 number) h = rw (dotted_no_colon text number h, dotted_again text number h) refl
address_again text (V6 number) h = rw (six_colon text number h, colon_hex_again text number h) refl

pub address_found : (text : List ℕ) (addr : Addr) → address_of text ≡ Some addr → WritesAddress text addr
unfolding address_of
address_found text addr h =
    elim (cases_Bool (has_colon text)) [
      | inl six ↦
          (let number = then_found (colon_hex_in text) (λ n. Some (V6 n)) addr (rw six at h) in
          let same : V6 number.0 ≡ addr = (let it = number.2 in cc) in
          subst (λ (a : Addr). WritesAddress text a) same (colon_hex_found text number.0 number.1))
      | inr four ↦
          (let number = then_found (dotted_of text) (λ n. Some (V4 n)) addr (rw four at h) in
          let same : V4 number.0 ≡ addr = (let it = number.2 in cc) in
          subst (λ (a : Addr). WritesAddress text a) same (dotted_found text number.0 number.1))
    ]

-- what a reader with such answers answers
pub answer_found : (text : List ℕ) (r : Option Addr) → r ≡ address_of text → IfSome r (λ addr. WritesAddress text addr)
answer_found text None is = tt
answer_found text (Some addr) is = address_found text addr (sym is)
