-- Two tables that show one generation have rules of the same names in the same order.
use Rattle.std.proofs.Common.{◌≡◌, ◌∙◌, ℕ, true, List, [], ◌∷◌, refl, sym, ap, arith, inl, inr, map, AllPairs, Contains}
use Rattle.std.proofs.lemmas.List.Elements.{All-contains}
use Rattle.pcef_rule.specs.Precedence.{Rank, goes_before}
use Rattle.pcef_catalog.specs.declared.listing.Offer.{Offer}
use Rattle.pcef_base.proofs.Foremost.{ordered_head, ordered_tail}
use Rattle.pcef_base.proofs.Tests.{contrary}
use Rattle.pcef_table.specs.declared.entry.TableEntry.{TableEntry}
use Rattle.pcef_table.specs.Sources.{name_of, source_rank}
use Rattle.pcef_table.specs.Tables.{GoesBefore, TableValue}
use Rattle.pcef_table.proofs.Ordered.{apart}
use Rattle.pcef_model.specs.Setting.{Setting}
use Rattle.pcef_model.specs.Entries.{Journal}
use Rattle.pcef_model.proofs.Members.{first_there, later_there, there_cases}
use Rattle.pcef_session.specs.Shown.{Shows}
use Rattle.pcef_session.proofs.ShownChanges.{rank_name}
use Rattle.pcef_session.proofs.ShownVerdicts.{rule_is}

abbrev rank : List Offer → TableEntry → Rank
rank offers e = source_rank offers e.source

-- some entry has this rank
abbrev Has : List Offer → List TableEntry → Rank → Type 0
Has offers entries r = (e : TableEntry) × Contains entries e × (rank offers e ≡ r)

never_both : (a b : Rank) → goes_before a b ≡ true → goes_before b a ≡ true → ⊥
never_both a b before behind = contrary (goes_before b a) behind (apart a b before)

before_later : (offers : List Offer) (x : TableEntry) (xs : List TableEntry) (e : TableEntry) → AllPairs (GoesBefore offers) (x ∷ xs) → Contains xs e →
    goes_before (rank offers x) (rank offers e) ≡ true
before_later offers x xs e ordered there = All-contains (GoesBefore offers x) xs e (ordered_head (GoesBefore offers) x xs ordered) there

-- the first of both have one rank
heads_are : (offers : List Offer) (x y : TableEntry) (xs ys : List TableEntry) → AllPairs (GoesBefore offers) (x ∷ xs) → AllPairs (GoesBefore offers) (y ∷ ys) →
    Has offers (y ∷ ys) (rank offers x) → Has offers (x ∷ xs) (rank offers y) → rank offers x ≡ rank offers y
heads_are offers x y xs ys x_first y_first there here =
    elim (there_cases y ys there.0 there.1) [
      | inl same ↦ sym (ap (rank offers) same ∙ there.2)
      | inr later ↦ elim (there_cases x xs here.0 here.1) [
        | inl same ↦ ap (rank offers) same ∙ here.2
        | inr after ↦ absurd (never_both (rank offers y) (rank offers x)
            (ap (goes_before (rank offers y)) (sym there.2) ∙ before_later offers y ys there.0 y_first later)
            (ap (goes_before (rank offers x)) (sym here.2) ∙ before_later offers x xs here.0 x_first after))
      ]
    ]

-- what comes behind the first of one comes behind the first of the other
behind_first : (offers : List Offer) (x y : TableEntry) (ys : List TableEntry) (r : Rank) → goes_before (rank offers x) r ≡ true → rank offers x ≡ rank offers y →
    Has offers (y ∷ ys) r → Has offers ys r
behind_first offers x y ys r before heads (e, there, is) =
    elim (there_cases y ys e there) [
      | inl same ↦ absurd (
          let alike : rank offers x ≡ r = heads ∙ ap (rank offers) same ∙ is in
          let loop : goes_before (rank offers x) (rank offers x) ≡ true = ap (goes_before (rank offers x)) alike ∙ before in
          never_both (rank offers x) (rank offers x) loop loop)
      | inr later ↦ (e, later, is)
    ]

named_alike : (offers : List Offer) (x y : TableEntry) → rank offers x ≡ rank offers y → name_of offers x.source ≡ name_of offers y.source
named_alike offers x y is = sym (rank_name offers x) ∙ ap (λ r. r.name) is ∙ rank_name offers y

one_order : {Z : Type 0} (g : List ℕ → Z) (offers : List Offer) (xs ys : List TableEntry) → AllPairs (GoesBefore offers) xs → AllPairs (GoesBefore offers) ys →
    ((e : TableEntry) → Contains xs e → Has offers ys (rank offers e)) → ((e : TableEntry) → Contains ys e → Has offers xs (rank offers e)) →
    map (λ e. g (name_of offers e.source)) xs ≡ map (λ e. g (name_of offers e.source)) ys
one_order g offers [] [] x_first y_first there here = refl
one_order g offers [] (y ∷ ys) x_first y_first there here = let r = here y (first_there y ys) in absurd (omega (arith, r.1.1))
one_order g offers (x ∷ xs) [] x_first y_first there here = let r = there x (first_there x xs) in absurd (omega (arith, r.1.1))
one_order g offers (x ∷ xs) (y ∷ ys) x_first y_first there here =
    let heads = heads_are offers x y xs ys x_first y_first (there x (first_there x xs)) (here y (first_there y ys)) in
    let others = one_order g offers xs ys (ordered_tail (GoesBefore offers) x xs x_first) (ordered_tail (GoesBefore offers) y ys y_first)
    (λ e later. behind_first offers x y ys (rank offers e) (before_later offers x xs e x_first later) heads (there e (later_there x xs e later)))
    (λ e later. behind_first offers y x xs (rank offers e) (before_later offers y ys e y_first later) (sym heads) (here e (later_there y ys e later))) in
    ap (λ name. g name ∷ map (λ e. g (name_of offers e.source)) xs) (named_alike offers x y heads) ∙ ap (λ zs. g (name_of offers y.source) ∷ zs) others

-- the rules that one table shows have entries in each other one
shown_in : (p : Setting) (j : Journal) (n : ℕ) (t u : TableValue) → Shows p j n t → Shows p j n u → (e : TableEntry) → Contains t.entries e → Has p.catalog u.entries (rank p.catalog e)
shown_in p j n t u shows other e there =
    let r = shows.only e there in
    let f = other.each r.0 r.1 in
    (f.0, f.1, (rule_is p.catalog f.0.source r.0 f.2.rule_is).rank_is ∙ sym (rule_is p.catalog e.source r.0 r.2.rule_is).rank_is)

pub one_list : {Z : Type 0} (g : List ℕ → Z) (p : Setting) (j : Journal) (n : ℕ) (t u : TableValue) → Shows p j n t → Shows p j n u →
    map (λ e. g (name_of p.catalog e.source)) t.entries ≡ map (λ e. g (name_of p.catalog e.source)) u.entries
one_list g p j n t u shows other =
    one_order g p.catalog t.entries u.entries shows.ordered.ordered other.ordered.ordered (shown_in p j n t u shows other) (shown_in p j n u t other shows)
