-- From the first rule of each part to the first of all.
use Rattle.std.proofs.Common.{◌≡◌, ◌<◌, ◌≤◌, ◌&&◌, ◌⊎◌, ◌∙◌, ℕ, Bool, true, false, Option, Some, None, List, length, refl, subst, sym, ap, arith, inl, inr}
use Rattle.std.specs.Prelude.{get_or, is_some, nat_lt, slice_get}
use Rattle.std.specs.Arc.{arc_value}
use Rattle.std.specs.Option.{option_and_then, option_map_or}
use Rattle.std.proofs.lemmas.Bool.{and_parts, cases_Bool, cases_lt, ltb-false, ltb-true}
use Rattle.std.proofs.lemmas.Option.{slice_get_past}
use Rattle.pcef_packet.specs.declared.header.Addr.{Addr}
use Rattle.pcef_packet.specs.declared.header.Header.{Header}
use Rattle.pcef_catalog.specs.declared.listing.Offer.{Offer}
use Rattle.pcef_table.specs.declared.entry.Source.{Source}
use Rattle.pcef_table.specs.Sources.{source_fits}
use Rattle.pcef_base.proofs.Tests.{contrary}
use Rattle.pcef_index.specs.declared.based.Based.{Based}
use Rattle.pcef_index.specs.declared.based.Newer.{Newer}
use Rattle.pcef_index.specs.declared.part.Part.{Part}
use Rattle.pcef_index.specs.private.Bases.{HasPlace, IsFirstOf, IsFirstPlaced, IsFirstWithin, IsPart, Reaches, fits_at, place_in, stands_and_fits}
use Rattle.pcef_index.specs.private.Firsts.{least}
use Rattle.pcef_index.specs.private.Indexes.{HasPlaceIn, IsBased}

left_false : (a b : Bool) → (a && b) ≡ false → b ≡ true → a ≡ false
left_false true b fails holds = absurd (cc)
left_false false b fails holds = refl

-- equal rules fit the same packets
same_fits : (offers : List Offer) (ue : Addr) (h : Header) (base sources : List Source) (b k : ℕ) → slice_get base b ≡ slice_get sources k → fits_at offers ue h base b ≡ fits_at offers ue h sources k
same_fits offers ue h base sources b k same = ap (λ (o : Option Source). option_map_or (source_fits offers ue h) o false) same

-- a rule of the base that doesn't fit, or doesn't stand, isn't at a place
unplaced : (offers : List Offer) (ue : Addr) (h : Header) (sources : List Source) (p : Part) (b k : ℕ) → IsPart sources p → place_in p b ≡ Some k
    → stands_and_fits p.places.items offers ue h (arc_value p.base).sources b ≡ false → fits_at offers ue h sources k ≡ false
unplaced offers ue h sources p b k is there fails =
    sym (same_fits offers ue h (arc_value p.base).sources sources b k (is.same b k there))
    ∙ left_false (fits_at offers ue h (arc_value p.base).sources b) (is_some (place_in p b)) fails (ap is_some there)

placed_at : (offers : List Offer) (ue : Addr) (h : Header) (sources : List Source) (p : Part) (b : ℕ) (o : Option ℕ) → IsPart sources p → place_in p b ≡ o
    → (fits_at offers ue h (arc_value p.base).sources b && is_some o) ≡ true → ((c : ℕ) → c < b → stands_and_fits p.places.items offers ue h (arc_value p.base).sources c ≡ false)
    → IsFirstPlaced offers ue h sources p o
placed_at offers ue h sources p b None is there passes before = absurd (let both = and_parts (fits_at offers ue h (arc_value p.base).sources b) false passes in cc)
placed_at offers ue h sources p b (Some place) is there passes before =
    let both = and_parts (fits_at offers ue h (arc_value p.base).sources b) true passes in (
      sym (same_fits offers ue h (arc_value p.base).sources sources b place (is.same b place there)) ∙ both.0,
      λ k has fits. elim (cases_lt has.0 b) [
        | inl less ↦ contrary (fits_at offers ue h sources k) fits (unplaced offers ue h sources p has.0 k is has.1 (before has.0 less))
        | inr more ↦ elim (cases_lt b has.0) [
          | inl later ↦ (let o = is.ordered b has.0 place k later there has.1 in omega arith)
          | inr less ↦
              (let same : has.0 ≡ b = omega (arith, less, more) in
              let one : Some k ≡ Some place = sym has.1 ∙ ap (place_in p) same ∙ there in
              let e : k ≡ place = cc in omega (arith, e))
        ]
      ],
    )

-- where the first rule of a base that fits and stands is at a place, no rule of the part fits at one before
pub part_first : (offers : List Offer) (ue : Addr) (h : Header) (sources : List Source) (p : Part) (o : Option ℕ) → IsPart sources p
    → IsFirstOf (stands_and_fits p.places.items offers ue h (arc_value p.base).sources) o → IsFirstPlaced offers ue h sources p (option_and_then (place_in p) o)
part_first offers ue h sources p None is first = λ k has. unplaced offers ue h sources p has.0 k is has.1 (first has.0)
part_first offers ue h sources p (Some b) is first = placed_at offers ue h sources p b (place_in p b) is refl first.0 first.1

weaken : (reach : ℕ) (offers : List Offer) (ue : Addr) (h : Header) (sources : List Source) (p : Part) (o : Option ℕ) → IsFirstPlaced offers ue h sources p o → IsFirstWithin reach offers ue h sources p o
weaken reach offers ue h sources p None first = λ b k below there. first k (b, there)
weaken reach offers ue h sources p (Some place) first = first

-- the same where only so many first rules of the base are looked at
pub part_within : (reach : ℕ) (few : List (Option ℕ)) (offers : List Offer) (ue : Addr) (h : Header) (sources : List Source) (p : Part) (o : Option ℕ) → IsPart sources p
    → ((b : ℕ) → b < reach → get_or few b None ≡ place_in p b) → ((b : ℕ) → reach ≤ b → get_or few b None ≡ None) → IsFirstOf (stands_and_fits few offers ue h (arc_value p.base).sources) o
    → IsFirstWithin reach offers ue h sources p (option_and_then (place_in p) o)
part_within reach few offers ue h sources p None is same past first = λ b k below there.
    unplaced offers ue h sources p b k is there (ap (λ (o : Option ℕ). fits_at offers ue h (arc_value p.base).sources b && is_some o) (sym (same b below)) ∙ first b)
part_within reach few offers ue h sources p (Some n) is same past first =
    let fits : (b : ℕ) → Bool = λ b. fits_at offers ue h (arc_value p.base).sources b in
    let both = and_parts (fits n) (is_some (get_or few n None)) first.0 in
    elim (cases_lt n reach) [
      | inl below ↦
          weaken reach offers ue h sources p (place_in p n)
          (placed_at offers ue h sources p n (place_in p n) is refl (ap (λ (o : Option ℕ). fits n && is_some o) (sym (same n below)) ∙ first.0)
          (λ c less. ap (λ (o : Option ℕ). fits c && is_some o) (sym (same c (omega (arith, below, less)))) ∙ first.1 c less))
      | inr behind ↦ absurd (let none = ap is_some (past n (omega (arith, behind))) in let some = both.1 in cc)
    ]

-- a place is the least of those that pass among n, or none of these passes
abbrev IsLeast : (ℕ → Bool) → ℕ → Option ℕ → Type 0
IsLeast passes n None = (k : ℕ) → k < n → passes k ≡ false
IsLeast passes n (Some place) = (passes place ≡ true) × ((k : ℕ) → k < n → passes k ≡ true → place ≤ k)

past_fails : (offers : List Offer) (ue : Addr) (h : Header) (sources : List Source) (k : ℕ) → length sources ≤ k → fits_at offers ue h sources k ≡ false
past_fails offers ue h sources k past = ap (λ (o : Option Source). option_map_or (source_fits offers ue h) o false) (slice_get_past sources k past)

least_first : (offers : List Offer) (ue : Addr) (h : Header) (sources : List Source) (o : Option ℕ) → IsLeast (fits_at offers ue h sources) (length sources) o → IsFirstOf (fits_at offers ue h sources) o
least_first offers ue h sources None is = λ k.
    elim (cases_lt k (length sources)) [
      | inl small ↦ is k small
      | inr past ↦ past_fails offers ue h sources k (omega (arith, past))
    ]
least_first offers ue h sources (Some place) is = (
  is.0,
  λ k below. elim (cases_Bool (fits_at offers ue h sources k)) [
    | inl fits ↦ elim (cases_lt k (length sources)) [
      | inl small ↦ absurd (let e = is.1 k small fits in omega (arith, e, below))
      | inr past ↦ contrary (fits_at offers ue h sources k) fits (past_fails offers ue h sources k (omega (arith, past)))
    ]
    | inr fails ↦ fails
  ],
)

one_part : (offers : List Offer) (ue : Addr) (h : Header) (sources : List Source) (p : Part) (o : Option ℕ) → ((k : ℕ) → k < length sources → HasPlace p k) → IsFirstPlaced offers ue h sources p o
    → IsLeast (fits_at offers ue h sources) (length sources) o
one_part offers ue h sources p None all first = λ k small. first k (all k small)
one_part offers ue h sources p (Some place) all first = (first.0, λ k small fits. first.1 k (all k small) fits)

two_parts : (offers : List Offer) (ue : Addr) (h : Header) (sources : List Source) (p q : Part) (a b : Option ℕ) → ((k : ℕ) → k < length sources → HasPlace p k ⊎ HasPlace q k)
    → IsFirstPlaced offers ue h sources p a → IsFirstPlaced offers ue h sources q b → IsLeast (fits_at offers ue h sources) (length sources) (least a b)
two_parts offers ue h sources p q None None all first second = λ k small. elim (all k small) [
  | inl has ↦ first k has
  | inr has ↦ second k has
]
two_parts offers ue h sources p q None (Some b) all first second = (
  second.0,
  λ k small fits. elim (all k small) [
    | inl has ↦ contrary (fits_at offers ue h sources k) fits (first k has)
    | inr has ↦ second.1 k has fits
  ],
)
two_parts offers ue h sources p q (Some a) None all first second = (
  first.0,
  λ k small fits. elim (all k small) [
    | inl has ↦ first.1 k has fits
    | inr has ↦ contrary (fits_at offers ue h sources k) fits (second k has)
  ],
)
two_parts offers ue h sources p q (Some a) (Some b) all first second =
    elim (cases_Bool (nat_lt b a)) [
      | inl less ↦ rw less (
        second.0,
        λ k small fits. elim (all k small) [
          | inl has ↦ (let e = first.1 k has fits in let f = ltb-true b a less in omega arith)
          | inr has ↦ second.1 k has fits
        ],
      )
      | inr more ↦ rw more (
        first.0,
        λ k small fits. elim (all k small) [
          | inl has ↦ first.1 k has fits
          | inr has ↦ (let e = second.1 k has fits in let f = ltb-false b a more in omega arith)
        ],
      )
    ]

-- where the rules of a part that stand before a place are looked at, and another part has the first at this one
bounded_parts : (reach : ℕ) (offers : List Offer) (ue : Addr) (h : Header) (sources : List Source) (p q : Part) (a : Option ℕ) (place : ℕ) → ((k : ℕ) → k < length sources → HasPlace p k ⊎ HasPlace q k)
    → Reaches p reach place → IsFirstWithin reach offers ue h sources p a → IsFirstPlaced offers ue h sources q (Some place) → IsLeast (fits_at offers ue h sources) (length sources) (least a (Some place))
bounded_parts reach offers ue h sources p q None place all reaches first second = (
  second.0,
  λ k small fits. elim (all k small) [
    | inl has ↦ elim (cases_lt has.0 reach) [
      | inl below ↦ contrary (fits_at offers ue h sources k) fits (first has.0 k below has.1)
      | inr behind ↦ reaches has.0 k (omega (arith, behind)) has.1
    ]
    | inr has ↦ second.1 k has fits
  ],
)
bounded_parts reach offers ue h sources p q (Some a) place all reaches first second = two_parts offers ue h sources p q (Some a) (Some place) all first second

only_older : (b : Based) (k : ℕ) → b.newer ≡ None → HasPlace b.older k ⊎ HasPlaceIn b.newer k → HasPlace b.older k
only_older b k none (inl has) = has
only_older b k none (inr has) = absurd (subst (λ (o : Option Newer). HasPlaceIn o k) none has)

either_part : (b : Based) (newer : Newer) (k : ℕ) → b.newer ≡ Some newer → HasPlace b.older k ⊎ HasPlaceIn b.newer k → HasPlace b.older k ⊎ HasPlace newer.part k
either_part b newer k some (inl has) = inl has
either_part b newer k some (inr has) = inr (subst (λ (o : Option Newer). HasPlaceIn o k) some has)

-- the first place of all is that of the one part, or the lesser of those of the two
pub first_of_one : (offers : List Offer) (ue : Addr) (h : Header) (sources : List Source) (b : Based) (o : Option ℕ) → IsBased sources b → b.newer ≡ None → IsFirstPlaced offers ue h sources b.older o
    → IsFirstOf (fits_at offers ue h sources) o
first_of_one offers ue h sources b o is none first =
    least_first offers ue h sources o
    (one_part offers ue h sources b.older o (λ k small. only_older b k none (is.all k small)) first)

pub first_of_two : (offers : List Offer) (ue : Addr) (h : Header) (sources : List Source) (b : Based) (newer : Newer) (x y : Option ℕ) → IsBased sources b → b.newer ≡ Some newer
    → IsFirstPlaced offers ue h sources b.older x → IsFirstPlaced offers ue h sources newer.part y → IsFirstOf (fits_at offers ue h sources) (least x y)
first_of_two offers ue h sources b newer x y is some first second =
    least_first offers ue h sources (least x y)
    (two_parts offers ue h sources b.older newer.part x y (λ k small. either_part b newer k some (is.all k small)) first second)

-- where no newer rule fits
pub first_of_older : (offers : List Offer) (ue : Addr) (h : Header) (sources : List Source) (b : Based) (newer : Newer) (x : Option ℕ) → IsBased sources b → b.newer ≡ Some newer
    → IsFirstPlaced offers ue h sources b.older x → IsFirstPlaced offers ue h sources newer.part None → IsFirstOf (fits_at offers ue h sources) x
first_of_older offers ue h sources b newer None is some first second = first_of_two offers ue h sources b newer None None is some first second
first_of_older offers ue h sources b newer (Some a) is some first second = first_of_two offers ue h sources b newer (Some a) None is some first second

pub first_of_bounded : (reach : ℕ) (offers : List Offer) (ue : Addr) (h : Header) (sources : List Source) (b : Based) (newer : Newer) (x : Option ℕ) (place : ℕ) → IsBased sources b → b.newer ≡ Some newer
    → Reaches b.older reach place → IsFirstWithin reach offers ue h sources b.older x → IsFirstPlaced offers ue h sources newer.part (Some place)
    → IsFirstOf (fits_at offers ue h sources) (least x (Some place))
first_of_bounded reach offers ue h sources b newer x place is some reaches first second =
    least_first offers ue h sources (least x (Some place))
    (bounded_parts reach offers ue h sources b.older newer.part x place (λ k small. either_part b newer k some (is.all k small)) reaches first second)
