-- Chains of extension headers, and the function that follows them.
use Rattle.std.proofs.Common.{ℕ, zero, suc, ◌≡◌, ◌+◌, ◌*◌, ◌/◌, ◌<◌, ◌≤◌, ◌∙◌, ◌++◌, ◌==◌, ◌&&◌, ◌||◌, Bool, true, false, List, [], ◌∷◌, length, take, drop, slice_index, Option, Some, None, refl, sym, ap, subst, arith, inl, inr, append_assoc}
use Rattle.std.specs.Prelude.{nat_lt, not, if◌then◌else◌}
use Rattle.std.proofs.lemmas.Bool.{cases_Bool}
use Rattle.std.proofs.lemmas.Bool.Decides.{nat_tests}
use Rattle.std.proofs.lemmas.List.{append-nil, drop-append-le, get_or_append_left, length-append, length-drop, length-take-le, take-append-drop}
use Rattle.std.proofs.Math.Seq.{drop-append_seam}
use Rattle.byteorder.specs.Endian.{big_number}
use Rattle.pcef_packet.specs.ExtensionHeaders.{Carried, Extension, IsCarried, IsChain, IsCut, IsWhole, extension_len, is_extension, is_fragment, is_later, joined, next_of}
use Rattle.pcef_packet.specs.Carrying.{carried_in, carried_of, carried_within, past}
use Rattle.pcef_packet.proofs.CarryingLaws.{least_len, past_shorter, past_whole}

-- ---- what a header's own octets say is said by them and whatever follows
index_front : (xs ys : List ℕ) (i : ℕ) → i < length xs → slice_index (xs ++ ys) i ≡ slice_index xs i
index_front xs ys i within = get_or_append_left xs ys 0 i within

len_front : (kind : ℕ) (xs ys : List ℕ) → 8 ≤ length xs → extension_len kind (xs ++ ys) ≡ extension_len kind xs
unfolding extension_len
len_front kind xs ys long = ap (λ (n : ℕ). if is_fragment kind then 8 else 8 + 8 * n) (index_front xs ys 1 (omega arith))

number_front : (xs ys : List ℕ) → 8 ≤ length xs → big_number 2 (drop 2 (xs ++ ys)) ≡ big_number 2 (drop 2 xs)
number_front xs ys long =
    let left = length-drop 2 xs in
    ap (big_number 2) (drop-append-le 2 xs ys (omega arith))
    ∙ rw (index_front (drop 2 xs) ys 0 (omega arith), index_front (drop 2 xs) ys 1 (omega arith)) refl

later_front : (kind : ℕ) (xs ys : List ℕ) → 8 ≤ length xs → is_later kind (xs ++ ys) ≡ is_later kind xs
unfolding is_later
later_front kind xs ys long = ap (λ (n : ℕ). is_fragment kind && not ((n / 8) == 0)) (number_front xs ys long)

-- a whole header is passed
pub whole_passed : (h : Extension) (rest : List ℕ) → IsWhole h → past h.kind (h.octets ++ rest) ≡ Some (next_of h.octets, rest, is_later h.kind h.octets)
unfolding past
whole_passed h rest whole =
    let least = least_len h.kind h.octets in
    let long : 8 ≤ length h.octets = omega (arith, whole.long) in
    let len : extension_len h.kind (h.octets ++ rest) ≡ length h.octets = len_front h.kind h.octets rest long ∙ sym whole.long in
    let sum = length-append h.octets rest in
    let fits : nat_lt (length (h.octets ++ rest)) (length h.octets) ≡ false = grind arith in
    let behind : drop (length h.octets) (h.octets ++ rest) ≡ rest = drop-append_seam h.octets rest in
    rw (len, fits, behind, later_front h.kind h.octets rest long, index_front h.octets rest 0 (omega arith)) refl

-- ---- a chain is followed to its end
-- nothing follows a later fragment's header
later_ends : (kind last : ℕ) (hs : List Extension) (last_later : Bool) → IsChain kind true hs last last_later → (hs ≡ []) × (kind ≡ last) × (true ≡ last_later)
later_ends kind last [] last_later chain = (refl, chain.0, chain.1)
later_ends kind last (h ∷ hs) last_later chain = absurd (let clash = chain.0 in cc)

follow_end : (n kind : ℕ) (octets : List ℕ) → length octets < n → is_extension kind ≡ false → carried_within n kind octets ≡ Some (carried_of kind octets true)
unfolding carried_within
follow_end zero kind octets h ends = absurd (omega arith)
follow_end (suc n) kind octets h ends = rw ends refl

follow_later : (n kind next : ℕ) (octets left : List ℕ) → length octets < n → is_extension kind ≡ true → past kind octets ≡ Some (next, left, true) → carried_within n kind octets ≡ Some (carried_of next left false)
unfolding carried_within
follow_later zero kind next octets left h extends on = absurd (omega arith)
follow_later (suc n) kind next octets left h extends on = rw (extends, on) refl

follow_on : (n kind next : ℕ) (octets left : List ℕ) → length octets < suc n → is_extension kind ≡ true → past kind octets ≡ Some (next, left, false) → carried_within (suc n) kind octets ≡ carried_within n next left
unfolding carried_within
follow_on n kind next octets left h extends on = rw (extends, on) refl

follow_cut : (n kind : ℕ) (octets : List ℕ) → length octets < n → is_extension kind ≡ true → past kind octets ≡ None → carried_within n kind octets ≡ None
unfolding carried_within
follow_cut zero kind octets h extends cut = absurd (omega arith)
follow_cut (suc n) kind octets h extends cut = rw (extends, cut) refl

short_cut : (kind : ℕ) (octets : List ℕ) → length octets < extension_len kind octets → past kind octets ≡ None
unfolding past
short_cut kind octets short =
    let test : nat_lt (length octets) (extension_len kind octets) ≡ true = grind (arith, nat_tests) in
    rw test refl

-- what the first header of a chain says to the walk
first_passed : (kind : ℕ) (h : Extension) (hs : List Extension) (rest : List ℕ) → h.kind ≡ kind → IsWhole h → past kind (joined (h ∷ hs) ++ rest) ≡ Some (next_of h.octets, joined hs ++ rest, is_later h.kind h.octets)
first_passed kind h hs rest same whole =
    let apart : joined (h ∷ hs) ++ rest ≡ h.octets ++ (joined hs ++ rest) = append_assoc h.octets (joined hs) rest in
    ap (past kind) apart ∙ ap (λ (k : ℕ). past k (h.octets ++ (joined hs ++ rest))) (sym same) ∙ whole_passed h (joined hs ++ rest) whole

followed : (n kind last : ℕ) (hs : List Extension) (rest : List ℕ) (last_later : Bool) → length (joined hs ++ rest) < n → IsChain kind false hs last last_later
    → (last_later || not (is_extension last)) ≡ true → carried_within n kind (joined hs ++ rest) ≡ Some (carried_of last rest (not last_later))
followed n kind last [] rest true h chain ended = absurd (let clash = chain.1 in cc)
followed n kind last [] rest false h chain ended =
    elim (cases_Bool (is_extension last)) [
      | inl more ↦ absurd (let clash = rw more at ended in cc)
      | inr ends ↦
          ap (λ (k : ℕ). carried_within n k rest) chain.0 ∙ follow_end n last rest h ends
    ]
followed zero kind last (h ∷ hs) rest last_later room chain ended = absurd (omega arith)
followed (suc n) kind last (h ∷ hs) rest last_later room chain ended =
    let whole = chain.2 in
    let extends : is_extension kind ≡ true = ap is_extension (sym chain.1) ∙ whole.extends in
    let on = first_passed kind h hs rest chain.1 chain.2 in
    elim (cases_Bool (is_later h.kind h.octets)) [
      | inl later ↦
          (let end = later_ends (next_of h.octets) last hs last_later (subst (λ (b : Bool). IsChain (next_of h.octets) b hs last last_later) later chain.3) in
          let to : past kind (joined (h ∷ hs) ++ rest) ≡ Some (last, rest, true) = on ∙ rw (later, end.0, end.1) refl in
          follow_later (suc n) kind last (joined (h ∷ hs) ++ rest) rest room extends to ∙ ap (λ (b : Bool). Some (carried_of last rest (not b))) end.2)
      | inr first ↦
          (let to : past kind (joined (h ∷ hs) ++ rest) ≡ Some (next_of h.octets, joined hs ++ rest, false) = on ∙ rw first refl in
          let shorter = past_shorter kind (joined (h ∷ hs) ++ rest) (next_of h.octets, joined hs ++ rest, false) to in
          follow_on n kind (next_of h.octets) (joined (h ∷ hs) ++ rest) (joined hs ++ rest) room extends to
          ∙ followed n (next_of h.octets) last hs rest last_later (omega arith) (subst (λ (b : Bool). IsChain (next_of h.octets) b hs last last_later) first chain.3) ended)
    ]

-- what is carried is found
pub carried_found : (kind : ℕ) (octets : List ℕ) (c : Carried) → IsCarried kind octets c → carried_in kind octets ≡ Some c
carried_found kind octets c is =
    let found = followed (length (joined is.headers ++ c.payload) + 1) kind c.proto is.headers c.payload is.later (omega arith) is.chain is.ended in
    ap (carried_in kind) is.parts ∙ found ∙ ap (λ (b : Bool). Some (carried_of c.proto c.payload b)) (sym is.begins_is)

cut_within : (n kind last : ℕ) (hs : List Extension) (rest : List ℕ) → length (joined hs ++ rest) < n → IsChain kind false hs last false
    → is_extension last ≡ true → length rest < extension_len last rest → carried_within n kind (joined hs ++ rest) ≡ None
cut_within n kind last [] rest h chain extends short =
    ap (λ (k : ℕ). carried_within n k rest) chain.0 ∙ follow_cut n last rest h extends (short_cut last rest short)
cut_within zero kind last (h ∷ hs) rest room chain extends short = absurd (omega arith)
cut_within (suc n) kind last (h ∷ hs) rest room chain extends short =
    let whole = chain.2 in
    let more : is_extension kind ≡ true = ap is_extension (sym chain.1) ∙ whole.extends in
    let on = first_passed kind h hs rest chain.1 chain.2 in
    elim (cases_Bool (is_later h.kind h.octets)) [
      | inl later ↦
          (let end = later_ends (next_of h.octets) last hs false (subst (λ (b : Bool). IsChain (next_of h.octets) b hs last false) later chain.3) in
          absurd (let clash = end.2 in cc))
      | inr first ↦
          (let to : past kind (joined (h ∷ hs) ++ rest) ≡ Some (next_of h.octets, joined hs ++ rest, false) = on ∙ rw first refl in
          let shorter = past_shorter kind (joined (h ∷ hs) ++ rest) (next_of h.octets, joined hs ++ rest, false) to in
          follow_on n kind (next_of h.octets) (joined (h ∷ hs) ++ rest) (joined hs ++ rest) room more to
          ∙ cut_within n (next_of h.octets) last hs rest (omega arith) (subst (λ (b : Bool). IsChain (next_of h.octets) b hs last false) first chain.3) extends short)
    ]

-- where the octets end within a header, nothing is found
pub cut_found : (kind : ℕ) (octets : List ℕ) → IsCut kind octets → carried_in kind octets ≡ None
cut_found kind octets is =
    ap (carried_in kind) is.parts ∙ cut_within (length (joined is.headers ++ is.rest) + 1) kind is.last is.headers is.rest (omega arith) is.chain is.extends is.short

-- ---- what the walk finds is a chain
-- the header in front, where it is whole
abbrev front : ℕ → List ℕ → Extension
front kind octets = record { kind = kind; octets = take (extension_len kind octets) octets }

record IsFront (kind : ℕ) (octets : List ℕ) (next : ℕ) (left : List ℕ) (later : Bool) : Type 0 where
  whole : IsWhole (front kind octets)
  parts : octets ≡ (front kind octets).octets ++ left
  next_is : next_of (front kind octets).octets ≡ next
  later_is : is_later kind (front kind octets).octets ≡ later

front_whole : (kind : ℕ) (octets : List ℕ) (next : ℕ) (left : List ℕ) (later : Bool) → is_extension kind ≡ true → past kind octets ≡ Some (next, left, later) → IsFront kind octets next left later
front_whole kind octets next left later extends on =
    let len = extension_len kind octets in
    let least = least_len kind octets in
    let is = past_whole kind octets (next, left, later) on in
    let next_same : next ≡ next_of octets = ap (λ (p : ℕ × List ℕ × Bool). p.0) is.1 in
    let left_same : left ≡ drop len octets = ap (λ (p : ℕ × List ℕ × Bool). p.1) is.1 in
    let later_same : later ≡ is_later kind octets = ap (λ (p : ℕ × List ℕ × Bool). p.2) is.1 in
    let both : take len octets ++ drop len octets ≡ octets = take-append-drop len octets in
    let count : length (take len octets) ≡ len = length-take-le len octets is.0 in
    let long : 8 ≤ length (take len octets) = omega (arith, count) in
    record {
      whole = record { extends = extends; long = count ∙ ap (extension_len kind) (sym both) ∙ len_front kind (take len octets) (drop len octets) long };
      parts = sym both ∙ ap (λ (l : List ℕ). take len octets ++ l) (sym left_same);
      next_is = sym (index_front (take len octets) (drop len octets) 0 (omega arith)) ∙ ap next_of both ∙ sym next_same;
      later_is = sym (later_front kind (take len octets) (drop len octets) long) ∙ ap (is_later kind) both ∙ sym later_same;
    }

-- a chain behind a header is one with it
behind_front : (kind : ℕ) (octets : List ℕ) (next : ℕ) (left : List ℕ) (c : Carried) → IsFront kind octets next left false → IsCarried next left c → IsCarried kind octets c
behind_front kind octets next left c f is = record {
  headers = front kind octets ∷ is.headers;
  later = is.later;
  parts = f.parts ∙ ap (λ (l : List ℕ). (front kind octets).octets ++ l) is.parts ∙ sym (append_assoc (front kind octets).octets (joined is.headers) c.payload);
  chain = (refl, refl, f.whole, rw (f.next_is, f.later_is) is.chain);
  ended = is.ended;
  begins_is = is.begins_is;
}

behind_cut : (kind : ℕ) (octets : List ℕ) (next : ℕ) (left : List ℕ) → IsFront kind octets next left false → IsCut next left → IsCut kind octets
behind_cut kind octets next left f is = record {
  headers = front kind octets ∷ is.headers;
  last = is.last;
  rest = is.rest;
  parts = f.parts ∙ ap (λ (l : List ℕ). (front kind octets).octets ++ l) is.parts ∙ sym (append_assoc (front kind octets).octets (joined is.headers) is.rest);
  chain = (refl, refl, f.whole, rw (f.next_is, f.later_is) is.chain);
  extends = is.extends;
  short = is.short;
}

later_carried : (kind : ℕ) (octets : List ℕ) (next : ℕ) (left : List ℕ) → IsFront kind octets next left true → IsCarried kind octets (carried_of next left false)
later_carried kind octets next left f = record {
  headers = front kind octets ∷ [];
  later = true;
  parts = f.parts ∙ ap (λ (l : List ℕ). l ++ left) (sym (append-nil (front kind octets).octets));
  chain = (refl, refl, f.whole, (f.next_is, f.later_is));
  ended = refl;
  begins_is = refl;
}

at_once : (kind : ℕ) (octets : List ℕ) → is_extension kind ≡ false → IsCarried kind octets (carried_of kind octets true)
at_once kind octets ends = record {
  headers = [];
  later = false;
  parts = refl;
  chain = (refl, refl);
  ended = rw ends refl;
  begins_is = refl;
}

cut_at_once : (kind : ℕ) (octets : List ℕ) → is_extension kind ≡ true → past kind octets ≡ None → IsCut kind octets
unfolding past
cut_at_once kind octets extends cut =
    elim (cases_Bool (nat_lt (length octets) (extension_len kind octets))) [
      | inl short ↦ record {
        headers = [];
        last = kind;
        rest = octets;
        parts = refl;
        chain = (refl, refl);
        extends = extends;
        short = grind (arith, nat_tests);
      }
      | inr long ↦ absurd (let clash = rw long at cut in cc)
    ]

-- what the walk answers, as chains
abbrev pub Found : ℕ → List ℕ → Option Carried → Type 0
Found kind octets None = IsCut kind octets
Found kind octets (Some c) = IsCarried kind octets c

found_within : (n kind : ℕ) (octets : List ℕ) → length octets < n → Found kind octets (carried_within n kind octets)
found_within zero kind octets room = absurd (omega arith)
found_within (suc n) kind octets room =
    elim (cases_Bool (is_extension kind)) [
      | inl extends ↦ go (past kind octets) refl extends (λ next left. found_within n next left)
      | inr ends ↦ subst (Found kind octets) (sym (follow_end (suc n) kind octets room ends)) (at_once kind octets ends)
    ]
  where
    go : (o : Option (ℕ × List ℕ × Bool)) → past kind octets ≡ o → is_extension kind ≡ true
        → ((next : ℕ) (left : List ℕ) → length left < n → Found next left (carried_within n next left)) → Found kind octets (carried_within (suc n) kind octets)
    go None is extends more = subst (Found kind octets) (sym (follow_cut (suc n) kind octets room extends is)) (cut_at_once kind octets extends is)
    go (Some (next, left, true)) is extends more =
        subst (Found kind octets) (sym (follow_later (suc n) kind next octets left room extends is)) (later_carried kind octets next left (front_whole kind octets next left true extends is))
    go (Some (next, left, false)) is extends more =
        let shorter = past_shorter kind octets (next, left, false) is in
        subst (Found kind octets) (sym (follow_on n kind next octets left room extends is))
        (pass (carried_within n next left) (more next left (omega arith)))
      where
        pass : (o : Option Carried) → Found next left o → Found kind octets o
        pass None cut = behind_cut kind octets next left (front_whole kind octets next left false extends is) cut
        pass (Some c) found = behind_front kind octets next left c (front_whole kind octets next left false extends is) found

pub found : (kind : ℕ) (octets : List ℕ) → Found kind octets (carried_in kind octets)
found kind octets = found_within (length octets + 1) kind octets (omega arith)
