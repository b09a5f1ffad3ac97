-- A port list read range by range, as the loop of the reader does.
use Rattle.std.proofs.Common.{ℕ, ◌≡◌, ◌+◌, ◌<◌, ◌≤◌, List, [], ◌∷◌, ◌++◌, length, Option, Some, None, refl, sym, ap, ◌∙◌, arith, append_assoc, length-append}
use Rattle.std.proofs.lemmas.List.{append-nil}
use Rattle.std.proofs.lemmas.Bool.Decides.{nat_tests}
use denote.Ref.{Bor}
use Rattle.arrayvec.specs.ArrayVec.{ArrayVec}
use Rattle.pcef_filter.specs.Tokens.{Token}
use Rattle.pcef_filter.specs.Pieces.{pieces, comma}
use Rattle.pcef_filter.specs.ReadingClasses.{range_in, ranges_in, ports_in, pieces_left}
use Rattle.std.specs.Prelude.{nat_le}
use Rattle.std.proofs.Common.{true, false, Bool}
use Rattle.std.specs.Prelude.{◌==◌}
use Rattle.pcef_filter.specs.declared.filter.PortRange.{PortRange}

-- ---- room for eight ranges
too_many : (n : ℕ) → 8 < n → nat_le n 8 ≡ false
too_many n h = grind (arith, nat_tests)

pub enough : (n : ℕ) → n ≤ 8 → nat_le n 8 ≡ true
enough n h = grind (arith, nat_tests)

-- ---- ranges so far
-- a list of ranges behind another that was read before it, if it is one
abbrev pub behind : List PortRange → Option (List PortRange) → Option (List PortRange)
behind front None = None
behind front (Some items) = Some (front ++ items)

-- the measure: what is left gets shorter
abbrev pub left_len : Option (Bor (List ℕ)) → ℕ
left_len None = 0
left_len (Some r) = length r.now + 1

pub behind_more : (front : List PortRange) (t : Token) (ts : List Token) (i : PortRange) → range_in t ≡ Some i
    → behind front (ranges_in (t ∷ ts)) ≡ behind (front ++ (i ∷ [])) (ranges_in ts)
unfolding ranges_in
behind_more front t ts i is = go (ranges_in ts) refl
  where
    go : (o : Option (List PortRange)) → ranges_in ts ≡ o → behind front (ranges_in (t ∷ ts)) ≡ behind (front ++ (i ∷ [])) (ranges_in ts)
    go None rest = rw (is, rest) refl
    go (Some xs) rest = rw (is, rest) (ap (λ (l : List PortRange). Some l) (sym (append_assoc front (i ∷ []) xs)))

-- The loop's invariant: the token's ranges are those that were read, and then those that are left.
abbrev pub Reads : Token → List PortRange → Option (Bor (List ℕ)) → Type 0
Reads token front left = ranges_in (pieces comma token) ≡ behind front (ranges_in (pieces_left comma left))

-- what the invariant says once the next piece is cut off
cut_off : (token piece : Token) (front : List PortRange) (left rest : Option (Bor (List ℕ))) (text : Bor (List ℕ)) → Reads token front left → left ≡ Some text
    → pieces comma text.now ≡ piece ∷ pieces_left comma rest → ranges_in (pieces comma token) ≡ behind front (ranges_in (piece ∷ pieces_left comma rest))
cut_off token piece front left rest text read is cut =
    read ∙ ap (λ (o : Option (Bor (List ℕ))). behind front (ranges_in (pieces_left comma o))) is ∙ ap (λ (l : List Token). behind front (ranges_in l)) cut

pub ports_bad : (token piece : Token) (front : List PortRange) (left rest : Option (Bor (List ℕ))) (text : Bor (List ℕ)) → Reads token front left → left ≡ Some text
    → pieces comma text.now ≡ piece ∷ pieces_left comma rest → None ≡ range_in piece → None ≡ ports_in token
unfolding ports_in ranges_in
ports_bad token piece front left rest text read is cut bad =
    let opened : ranges_in (pieces comma token) ≡ None = cut_off token piece front left rest text read is cut ∙ rw (← bad) refl in
    rw opened refl

pub ports_more : (token piece : Token) (front : List PortRange) (left rest : Option (Bor (List ℕ))) (text : Bor (List ℕ)) (i : PortRange) → Reads token front left → left ≡ Some text
    → pieces comma text.now ≡ piece ∷ pieces_left comma rest → Some i ≡ range_in piece → Reads token (front ++ (i ∷ [])) rest
ports_more token piece front left rest text i read is cut item =
    cut_off token piece front left rest text read is cut ∙ behind_more front piece (pieces_left comma rest) i (sym item)

pub ports_full : (token piece : Token) (front : List PortRange) (left rest : Option (Bor (List ℕ))) (text : Bor (List ℕ)) (i : PortRange) → Reads token front left → left ≡ Some text
    → pieces comma text.now ≡ piece ∷ pieces_left comma rest → Some i ≡ range_in piece → 8 ≤ length front → None ≡ ports_in token
unfolding ports_in
ports_full token piece front left rest text i read is cut item full = go (ranges_in (pieces_left comma rest)) refl
  where
    more : ranges_in (pieces comma token) ≡ behind (front ++ (i ∷ [])) (ranges_in (pieces_left comma rest))
    more = ports_more token piece front left rest text i read is cut item

    go : (o : Option (List PortRange)) → ranges_in (pieces_left comma rest) ≡ o → None ≡ ports_in token
    go None after = let opened : ranges_in (pieces comma token) ≡ None = more ∙ ap (behind (front ++ (i ∷ []))) after in rw opened refl
    go (Some xs) after =
        let opened : ranges_in (pieces comma token) ≡ Some ((front ++ (i ∷ [])) ++ xs) = more ∙ ap (behind (front ++ (i ∷ []))) after in
        let long : 8 < length ((front ++ (i ∷ [])) ++ xs) = simp length-append (omega arith) in
        let test : nat_le (length ((front ++ (i ∷ [])) ++ xs)) 8 ≡ false = too_many (length ((front ++ (i ∷ [])) ++ xs)) long in
        rw (opened, test) refl

pub ports_done : (token : Token) (a : ArrayVec PortRange) (left : Option (Bor (List ℕ))) → Reads token a.items left → left ≡ None → length a.items ≤ 8 → Some a ≡ ports_in token
unfolding ports_in ranges_in
ports_done token a left read is room =
    let opened : ranges_in (pieces comma token) ≡ Some a.items =
    read ∙ ap (λ (o : Option (Bor (List ℕ))). behind a.items (ranges_in (pieces_left comma o))) is ∙ ap (λ (l : List PortRange). Some l) (append-nil a.items) in
    let test : nat_le (length a.items) 8 ≡ true = enough (length a.items) room in
    rw (opened, test) refl

pub is_eight : (n : ℕ) (b : Bool) → b ≡ (n == 8) → b ≡ true → 8 ≤ n
is_eight n b h on = let test : (n == 8) ≡ true = sym h ∙ on in grind (arith, nat_tests)

pub next_items : (token : Token) (items front : List PortRange) (i : PortRange) (left : Option (Bor (List ℕ))) → items ≡ front ++ (i ∷ []) → Reads token (front ++ (i ∷ [])) left → Reads token items left
next_items token items front i left same read = rw same read

pub room_more : (items front : List PortRange) (i : PortRange) (b : Bool) → items ≡ front ++ (i ∷ []) → b ≡ (length front == 8) → b ≡ false → length front ≤ 8 → length items ≤ 8
room_more items front i b same h off room =
    let test : (length front == 8) ≡ false = sym h ∙ off in
    let below : length front < 8 = not_eight (length front) test room in
    rw same (simp length-append (omega arith))
  where
    not_eight : (n : ℕ) → (n == 8) ≡ false → n ≤ 8 → n < 8
    not_eight n test room = grind (arith, nat_tests)
