-- Where rules of a base stand among others, one rule after the other.
use Rattle.std.proofs.Common.{◌≡◌, ◌≢◌, ◌<◌, ◌≤◌, ◌+◌, ◌++◌, ◌⊎◌, ◌∙◌, ℕ, zero, suc, Option, Some, None, List, [], ◌∷◌, get_or, length, length-append, map, refl, replicate, subst, sym, ap, arith, inl, inr, slice_set}
use Rattle.std.specs.Prelude.{IfSome, slice_get}
use Rattle.std.specs.Arc.{arc_value}
use Rattle.std.proofs.Math.ListN.{get_or-append}
use Rattle.std.proofs.lemmas.Bool.{cases_eq, cases_lt}
use Rattle.std.proofs.lemmas.List.{get_or_push, get_or-set_other, get_or-set_same, length-set}
use Rattle.std.proofs.lemmas.Option.{slice_get_within}
use Rattle.pcef_table.specs.declared.entry.Source.{Source}
use Rattle.pcef_index.specs.declared.based.Based.{Based}
use Rattle.pcef_index.specs.declared.based.Newer.{Newer}
use Rattle.pcef_index.specs.declared.part.Part.{Part}
use Rattle.pcef_index.specs.private.Bases.{AreBelow, AreCopies, Ascend, Has, HasPlace, IsPart, IsRest}
use Rattle.pcef_index.specs.private.Indexes.{HasPlaceIn, IsBased, IsNewer}

-- where rule b of a base stands
abbrev pub at : List (Option ℕ) → ℕ → Option ℕ
at places b = get_or places b None

-- the first n of some rules stand, by those of a base up to a number, or are left
pub record PlacedTo (n next : ℕ) (base sources : List Source) (places : List (Option ℕ)) (left : List ℕ) : Type 0 where
  pub long : length places ≡ length base
  pub within : (b k : ℕ) → at places b ≡ Some k → k < n
  pub same : (b k : ℕ) → at places b ≡ Some k → slice_get base b ≡ slice_get sources k
  pub ordered : (b c j k : ℕ) → b < c → at places b ≡ Some j → at places c ≡ Some k → j < k
  pub below : (b k : ℕ) → at places b ≡ Some k → b < next
  pub rest : Ascend n left
  pub all : (k : ℕ) → k < n → Has left k ⊎ ((b : ℕ) × (at places b ≡ Some k))

-- what was None everywhere
pub record AreNone (places : List (Option ℕ)) : Type 0 where
  pub none : (b : ℕ) → at places b ≡ None

none_at : (n b : ℕ) → at (replicate n None) b ≡ None
none_at zero b = refl
none_at (suc n) zero = refl
none_at (suc n) (suc b) = none_at n b

pub placed_none : (base sources : List Source) (places : List (Option ℕ)) → length places ≡ length base → AreNone places → PlacedTo 0 0 base sources places []
placed_none base sources places long none = record {
  long = long;
  within = λ b k there. absurd (let n = none.none b in cc);
  same = λ b k there. absurd (let n = none.none b in cc);
  ordered = λ b c j k less there then. absurd (let n = none.none b in cc);
  below = λ b k there. absurd (let n = none.none b in cc);
  rest = record { few = omega arith; within = λ i small. absurd (omega arith); ordered = λ i j less small. absurd (omega arith) };
  all = λ k small. absurd (omega arith);
}

ascend_more : (n : ℕ) (ks : List ℕ) → Ascend n ks → Ascend (n + 1) ks
ascend_more n ks a = record {
  few = (let f = a.few in omega arith);
  within = λ i small. (let w = a.within i small in omega arith);
  ordered = a.ordered;
}

ascend_push : (n : ℕ) (ks : List ℕ) → Ascend n ks → Ascend (n + 1) (ks ++ n ∷ [])
ascend_push n ks a =
    let longer = length-append ks (n ∷ []) in
    let here : (j : ℕ) → length ks ≤ j → j < length ks + 1 → get_or (ks ++ n ∷ []) j 0 ≡ n = λ j low high. get_or_push ks n 0 j (omega (arith, low, high)) in
    record {
      few = (let f = a.few in omega arith);
      within = λ i small. elim (cases_lt i (length ks)) [
        | inl before ↦ (let e = get_or-append ks (n ∷ []) 0 i before in let w = a.within i before in omega arith)
        | inr last ↦ (let e = here i (omega (arith, last)) (omega (arith, small)) in omega arith)
      ];
      ordered = λ i j less small. elim (cases_lt j (length ks)) [
        | inl before ↦
            (let e = get_or-append ks (n ∷ []) 0 i (omega (arith, less, before)) in
            let f = get_or-append ks (n ∷ []) 0 j before in
            let o = a.ordered i j less before in omega arith)
        | inr last ↦
            (let i-before : i < length ks = omega (arith, less, small, longer) in
            let e = get_or-append ks (n ∷ []) 0 i i-before in
            let f = here j (omega (arith, last)) (omega (arith, small)) in
            let w = a.within i i-before in omega arith)
      ];
    }

has_more : (ks : List ℕ) (n k : ℕ) → Has ks k → Has (ks ++ n ∷ []) k
has_more ks n k has =
    (has.0, (let longer = length-append ks (n ∷ []) in omega (arith, has.1)), get_or-append ks (n ∷ []) 0 has.0 has.1 ∙ has.2)

has_last : (ks : List ℕ) (n : ℕ) → Has (ks ++ n ∷ []) n
has_last ks n =
    (length ks, (let longer = length-append ks (n ∷ []) in omega arith), get_or_push ks n 0 (length ks) (omega arith))

-- the next rule is none of the base's
pub placed_rest : (n next : ℕ) (base sources : List Source) (places : List (Option ℕ)) (rest : List ℕ) → PlacedTo n next base sources places rest
    → PlacedTo (n + 1) next base sources places (rest ++ n ∷ [])
placed_rest n next base sources places rest p = record {
  long = p.long;
  within = λ b k there. (let w = p.within b k there in omega arith);
  same = p.same;
  ordered = p.ordered;
  below = p.below;
  rest = ascend_push n rest p.rest;
  all = λ k small. elim (cases_lt k n) [
    | inl before ↦ elim (p.all k before) [
      | inl has ↦ inl (has_more rest n k has)
      | inr stands ↦ inr stands
    ]
    | inr last ↦ inl (subst (Has (rest ++ n ∷ [])) (let e : n ≡ k = omega (arith, last, small) in e) (has_last rest n))
  ];
}

-- what stands after one more was placed: this one, or what stood before
at_set : (places : List (Option ℕ)) (b n c k : ℕ) → b < length places → at (slice_set places b (Some n)) c ≡ Some k → ((c ≡ b) × (n ≡ k)) ⊎ ((c ≢ b) × (at places c ≡ Some k))
at_set places b n c k small there =
    elim (cases_eq c b) [
      | inl same ↦
          (let here = get_or-set_same places b (Some n) None small in
          let e = ap (λ (x : ℕ). at (slice_set places b (Some n)) x) same in
          inl (same, (let f : Some n ≡ Some k = sym here ∙ sym e ∙ there in cc)))
      | inr other ↦ inr (other, sym (get_or-set_other places b c (Some n) None other) ∙ there)
    ]

-- the next rule is one of the base's, behind those before
pub placed_here : (n next b : ℕ) (base sources : List Source) (places : List (Option ℕ)) (rest : List ℕ) (s : Source) → PlacedTo n next base sources places rest
    → next ≤ b → slice_get base b ≡ Some s → slice_get sources n ≡ Some s → PlacedTo (n + 1) (b + 1) base sources (slice_set places b (Some n)) rest
placed_here n next b base sources places rest s p later there is =
    let inside = slice_get_within base b s there in
    let small : b < length places = (let l = p.long in omega arith) in
    let empty : (k : ℕ) → at places b ≡ Some k → ⊥ = λ k stands. (let low = p.below b k stands in omega arith) in
    record {
      long = length-set places b (Some n) ∙ p.long;
      within = λ c k stands. elim (at_set places b n c k small stands) [
        | inl this ↦ (let e = this.1 in omega arith)
        | inr old ↦ (let w = p.within c k old.1 in omega arith)
      ];
      same = λ c k stands. elim (at_set places b n c k small stands) [
        | inl this ↦ ap (slice_get base) this.0 ∙ there ∙ sym is ∙ ap (slice_get sources) this.1
        | inr old ↦ p.same c k old.1
      ];
      ordered = λ c d j k less first second. elim (at_set places b n c j small first) [
        | inl this ↦ elim (at_set places b n d k small second) [
          | inl that ↦ absurd (let e = this.0 in let f = that.0 in omega arith)
          | inr old ↦ absurd (let low = p.below d k old.1 in let e = this.0 in omega arith)
        ]
        | inr old ↦ elim (at_set places b n d k small second) [
          | inl that ↦ (let w = p.within c j old.1 in let e = that.1 in omega arith)
          | inr older ↦ p.ordered c d j k less old.1 older.1
        ]
      ];
      below = λ c k stands. elim (at_set places b n c k small stands) [
        | inl this ↦ (let e = this.0 in omega arith)
        | inr old ↦ (let low = p.below c k old.1 in omega arith)
      ];
      rest = ascend_more n rest p.rest;
      all = λ k below. elim (cases_lt k n) [
        | inl before ↦ elim (p.all k before) [
          | inl has ↦ inl has
          | inr stood ↦ inr (stood.0, get_or-set_other places b stood.0 (Some n) None (λ same. empty k (ap (at places) (sym same) ∙ stood.1)) ∙ stood.1)
        ]
        | inr last ↦
            (let e : n ≡ k = omega (arith, last, below) in
            inr (b, get_or-set_same places b (Some n) None small ∙ ap (λ (x : ℕ). Some x) e))
      ];
    }

-- what was None everywhere is so
pub nones : (n : ℕ) → AreNone (replicate n None)
nones n = record { none = none_at n }

-- which rules are left, and where the others stand, once all were looked for
pub parted : (sources : List Source) (p : Part) (next : ℕ) (left : List ℕ) → PlacedTo (length sources) next (arc_value p.base).sources sources p.places.items left → IsPart sources p
parted sources p next left placed = record { within = placed.within; same = placed.same; ordered = placed.ordered }

pub left_over : (sources : List Source) (p : Part) (next : ℕ) (left : List ℕ) → PlacedTo (length sources) next (arc_value p.base).sources sources p.places.items left → IsRest sources p left
left_over sources p next left placed = record { places = placed.rest; all = placed.all }

-- ---- Rules with a base of their own

at_some : (ks : List ℕ) (b k : ℕ) → at (map (λ n. Some n) ks) b ≡ Some k → (b < length ks) × (get_or ks b 0 ≡ k)
at_some [] b k there = absurd (cc)
at_some (x ∷ ks) zero k there = (omega arith, (cc))
at_some (x ∷ ks) (suc b) k there = (let later = at_some ks b k there in (omega (arith, later.0), later.1))

some_at : (ks : List ℕ) (b : ℕ) → b < length ks → at (map (λ n. Some n) ks) b ≡ Some (get_or ks b 0)
some_at [] b small = absurd (omega arith)
some_at (x ∷ ks) zero small = refl
some_at (x ∷ ks) (suc b) small = some_at ks b (omega (arith, small))

-- rules that were copied from their places stand there
pub copied : (sources copies : List Source) (ks : List ℕ) (p : Part) → (arc_value p.base).sources ≡ copies → p.places.items ≡ map (λ n. Some n) ks → AreCopies sources ks copies → Ascend (length sources) ks
    → IsPart sources p
copied sources copies ks p base places are a =
    let here : (b k : ℕ) → at p.places.items b ≡ Some k → (b < length ks) × (get_or ks b 0 ≡ k) = λ b k there. at_some ks b k (ap (λ (ps : List (Option ℕ)). at ps b) (sym places) ∙ there) in
    record {
      within = λ b k there. (let h = here b k there in let w = a.within b h.0 in let e = h.1 in omega arith);
      same = λ b k there. (let h = here b k there in ap (λ (ss : List Source). slice_get ss b) base ∙ are.same b h.0 ∙ ap (slice_get sources) h.1);
      ordered = λ b c j k less first second. (let h = here b j first in let i = here c k second in let o = a.ordered b c less i.0 in let e = h.1 in let f = i.1 in omega arith);
    }

-- and each of these places is one of theirs
pub all_copied : (ks : List ℕ) (p : Part) → p.places.items ≡ map (λ n. Some n) ks → (k : ℕ) → Has ks k → HasPlace p k
all_copied ks p places k has =
    (has.0, ap (λ (ps : List (Option ℕ)). at ps has.0) places ∙ some_at ks has.0 has.1 ∙ ap (λ (n : ℕ). Some n) has.2)

-- each number below one is among them
pub has_below : (n : ℕ) (ks : List ℕ) (k : ℕ) → AreBelow n ks → k < n → Has ks k
has_below n ks k are small = (k, (let l = are.long in omega (arith, small)), are.each k small)

-- ---- One part, or two

pub one_part : (sources : List Source) (b : Based) → b.newer ≡ None → IsPart sources b.older → ((k : ℕ) → k < length sources → HasPlace b.older k) → IsBased sources b
one_part sources b none older all = record {
  older = older;
  newer = subst (λ (o : Option Newer). IfSome o (IsNewer sources b.older)) (sym none) tt;
  all = λ k small. inl (all k small);
}

pub none_left : (sources : List Source) (p : Part) (left : List ℕ) → length left ≡ 0 → IsRest sources p left → (k : ℕ) → k < length sources → HasPlace p k
none_left sources p left empty rest k small =
    elim (rest.all k small) [
      | inl has ↦ absurd (let within = has.1 in omega arith)
      | inr stands ↦ stands
    ]

pub two_parts : (sources : List Source) (b : Based) (newer : Newer) (left : List ℕ) → b.newer ≡ Some newer → IsPart sources b.older → IsRest sources b.older left → IsNewer sources b.older newer
    → ((k : ℕ) → Has left k → HasPlace newer.part k) → IsBased sources b
two_parts sources b newer left some older rest is all = record {
  older = older;
  newer = subst (λ (o : Option Newer). IfSome o (IsNewer sources b.older)) (sym some) is;
  all = λ k small. elim (rest.all k small) [
    | inl has ↦ inr (subst (λ (o : Option Newer). HasPlaceIn o k) (sym some) (all k has))
    | inr stands ↦ inl stands
  ];
}
