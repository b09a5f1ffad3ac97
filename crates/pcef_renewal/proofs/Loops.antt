-- What one more turn of a loop does.
use Rattle.std.proofs.Common.{◌≡◌, ◌∙◌, ◌≤◌, ◌<◌, ◌+◌, ◌==◌, ℕ, zero, suc, Bool, true, false, List, [], ◌∷◌, ◌++◌, add-one, drop, filter, get_or, length, map, nat_lt, take, refl, sym, ap, ap₂, arith}
use Rattle.std.specs.Prelude.{if◌then◌else◌, slice_get}
use Rattle.std.proofs.lemmas.List.{length-take, append-nil, append_assoc, map-append}
use Rattle.std.proofs.Math.ListN.{drop_of_length-le, length-map}
use Rattle.pcef_bearer.specs.declared.bearers.Bound.{Bound}
use Rattle.pcef_rule.specs.declared.quantity.BearerId.{BearerId}
use Rattle.pcef_model.specs.declared.command.Command.{Command}
use Rattle.pcef_table.specs.declared.entry.Source.{Source}
use Rattle.pcef_base.proofs.Keeping.{filter_length}
use Rattle.pcef_model.specs.Bearers.{default_id, other_ids}
use Rattle.pcef_renewal.specs.declared.places.BearerNumbers.{BearerNumbers}
use Rattle.pcef_renewal.specs.Renewal.{placed, placed_from}
use Rattle.pcef_renewal.specs.private.Again.{again_on, again_on_each, kept_again, kept_if_some, numbers, paired}

-- what is there and what is to come are all, turn by turn
pub turn : {X : Type 0} (before after new now_ahead ahead all : List X) → after ≡ before ++ new → now_ahead ≡ new ++ ahead → before ++ now_ahead ≡ all → after ++ ahead ≡ all
turn before after new now_ahead ahead all grown splits whole =
    ap (λ xs. xs ++ ahead) grown ∙ append_assoc before new ahead ∙ sym (ap (λ xs. before ++ xs) splits) ∙ whole

drop-nil : {X : Type 0} (n : ℕ) → drop {A = X} n [] ≡ []
drop-nil zero = refl
drop-nil (suc n) = refl

-- ---- rules
ahead_is : (ns : List BearerId) (i : ℕ) → i < length ns → drop i (numbers ns) ≡ (get_or ns i (record { 0 = 0 })).0 ∷ drop (suc i) (numbers ns)
ahead_is [] i below = absurd (omega arith)
ahead_is (n ∷ ns) zero below = refl
ahead_is (n ∷ ns) (suc i) below = ahead_is ns i (omega (arith, below))

none_again : (id : ℕ) (bound : List Bound) → again_on id bound [] ≡ []
none_again id [] = refl
none_again id (b ∷ bound) = refl

again_suc : (id : ℕ) (bound : List Bound) (kept : List (List ℕ × Source)) (i : ℕ) (b : Bound) → i < length bound → b ≡ get_or bound i b →
    again_on id (drop i bound) (drop i kept) ≡ (if b.bearer.0 == id then kept_if_some (slice_get kept i) else []) ++ again_on id (drop (suc i) bound) (drop (suc i) kept)
again_suc id [] kept i b below is = absurd (omega arith)
again_suc id (x ∷ bound) [] zero b below is = from (b.bearer.0 == id)
  where
    from : (t : Bool) → [] ≡ (if t then [] else []) ++ again_on id bound []
    from true = sym (none_again id bound)
    from false = sym (none_again id bound)
again_suc id (x ∷ bound) (e ∷ kept) zero b below is = from (x.bearer.0 == id) (b.bearer.0 == id) (ap (λ (y : Bound). y.bearer.0 == id) (sym is))
  where
    from : (t u : Bool) → t ≡ u → (if t then kept_again e ∷ again_on id bound kept else again_on id bound kept) ≡ (if u then kept_again e ∷ [] else []) ++ again_on id bound kept
    from true true same = refl
    from false false same = refl
    from true false same = absurd cc
    from false true same = absurd cc
again_suc id (x ∷ bound) [] (suc i) b below is = from (b.bearer.0 == id)
  where
    from : (t : Bool) → again_on id (drop i bound) [] ≡ (if t then [] else []) ++ again_on id (drop (suc i) bound) []
    from true = none_again id (drop i bound) ∙ sym (none_again id (drop (suc i) bound))
    from false = none_again id (drop i bound) ∙ sym (none_again id (drop (suc i) bound))
again_suc id (x ∷ bound) (e ∷ kept) (suc i) b below is = again_suc id bound kept i b (omega (arith, below)) is

again_next : (id : ℕ) (bound : List Bound) (kept : List (List ℕ × Source)) (i : ℕ) (b : Bound) → i < length bound → b ≡ get_or bound i b →
    again_on id (drop i bound) (drop i kept) ≡ (if b.bearer.0 == id then kept_if_some (slice_get kept i) else []) ++ again_on id (drop (i + 1) bound) (drop (i + 1) kept)
again_next id bound kept i b below is = rw (add-one) (again_suc id bound kept i b below is)

module _ (id : ℕ) (bound : List Bound) (kept : List (List ℕ × Source)) (i : ℕ) (b : Bound) (before after all : List Command)
    (below : i < length bound) (is : b ≡ get_or bound i b) (whole : before ++ again_on id (drop i bound) (drop i kept) ≡ all) where
  pub rule_taken : (b.bearer.0 == id) ≡ true → after ≡ before ++ kept_if_some (slice_get kept i) → after ++ again_on id (drop (i + 1) bound) (drop (i + 1) kept) ≡ all
  rule_taken hit grown =
      turn before after (kept_if_some (slice_get kept i)) (again_on id (drop i bound) (drop i kept)) (again_on id (drop (i + 1) bound) (drop (i + 1) kept)) all grown
      (again_next id bound kept i b below is ∙ rw hit refl) whole

  pub rule_passed : (b.bearer.0 == id) ≡ false → after ≡ before → after ++ again_on id (drop (i + 1) bound) (drop (i + 1) kept) ≡ all
  rule_passed miss same =
      turn before after [] (again_on id (drop i bound) (drop i kept)) (again_on id (drop (i + 1) bound) (drop (i + 1) kept)) all (same ∙ sym (append-nil before))
      (again_next id bound kept i b below is ∙ rw miss refl) whole

-- ---- bearer by bearer
each_next : (ns : List BearerId) (bound : List Bound) (kept : List (List ℕ × Source)) (i : ℕ) → i < length ns →
    again_on_each (drop i (numbers ns)) bound kept ≡ again_on (get_or ns i (record { 0 = 0 })).0 bound kept ++ again_on_each (drop (i + 1) (numbers ns)) bound kept
each_next ns bound kept i below =
    ap (λ ids. again_on_each ids bound kept) (ahead_is ns i below)
    ∙ ap (λ m. again_on (get_or ns i (record { 0 = 0 })).0 bound kept ++ again_on_each (drop m (numbers ns)) bound kept) (sym (add-one i))

pub bearer_taken : (ns : List BearerId) (bound : List Bound) (kept : List (List ℕ × Source)) (i : ℕ) (before after all : List Command) → i < length ns →
    before ++ again_on_each (drop i (numbers ns)) bound kept ≡ all → after ≡ before ++ again_on (get_or ns i (record { 0 = 0 })).0 bound kept →
    after ++ again_on_each (drop (i + 1) (numbers ns)) bound kept ≡ all
bearer_taken ns bound kept i before after all below whole grown =
    turn before after (again_on (get_or ns i (record { 0 = 0 })).0 bound kept) (again_on_each (drop i (numbers ns)) bound kept) (again_on_each (drop (i + 1) (numbers ns)) bound kept) all grown
    (each_next ns bound kept i below) whole

-- ---- places
ahead_at : (ns : List BearerId) (i : ℕ) (n : BearerId) → i < length ns → n ≡ get_or ns i n → drop i (numbers ns) ≡ n.0 ∷ drop (suc i) (numbers ns)
ahead_at [] i n below is = absurd (omega arith)
ahead_at (m ∷ ns) zero n below is = ap (λ (x : BearerId). x.0 ∷ numbers ns) (sym is)
ahead_at (m ∷ ns) (suc i) n below is = ahead_at ns i n (omega (arith, below)) is

module _ (is_used : ℕ → Bool) (ns bs : List BearerId) (i m : ℕ) (before after : List BearerId) (all : List ℕ) (below : i < length ns)
    (whole : numbers before ++ placed is_used (drop i (numbers ns)) (drop m (numbers bs)) ≡ all) where
  abbrev here : ℕ
  here = (get_or ns i (record { 0 = 0 })).0

  ahead : drop i (numbers ns) ≡ here ∷ drop (i + 1) (numbers ns)
  ahead = ahead_is ns i below ∙ ap (λ k. here ∷ drop k (numbers ns)) (sym (add-one i))

  grown_by : (id : BearerId) → after ≡ before ++ id ∷ [] → numbers after ≡ numbers before ++ id.0 ∷ []
  grown_by id grown = ap numbers grown ∙ map-append (λ (x : BearerId). x.0) before (id ∷ [])

  pub place_kept : is_used here ≡ true → after ≡ before ++ (get_or ns i (record { 0 = 0 })) ∷ [] →
      numbers after ++ placed is_used (drop (i + 1) (numbers ns)) (drop m (numbers bs)) ≡ all
  place_kept used grown =
      turn (numbers before) (numbers after) (here ∷ []) (placed is_used (drop i (numbers ns)) (drop m (numbers bs))) (placed is_used (drop (i + 1) (numbers ns)) (drop m (numbers bs))) all
      (grown_by (get_or ns i (record { 0 = 0 })) grown) (ap (λ xs. placed is_used xs (drop m (numbers bs))) ahead ∙ rw used refl) whole

  pub place_filled : (other : BearerId) → is_used here ≡ false → m < length bs → other ≡ get_or bs m other → after ≡ before ++ other ∷ [] →
      numbers after ++ placed is_used (drop (i + 1) (numbers ns)) (drop (m + 1) (numbers bs)) ≡ all
  place_filled other free within is grown =
      let next : drop m (numbers bs) ≡ other.0 ∷ drop (m + 1) (numbers bs) = ahead_at bs m other within is ∙ ap (λ k. other.0 ∷ drop k (numbers bs)) (sym (add-one m)) in
      turn (numbers before) (numbers after) (other.0 ∷ []) (placed is_used (drop i (numbers ns)) (drop m (numbers bs))) (placed is_used (drop (i + 1) (numbers ns)) (drop (m + 1) (numbers bs))) all
      (grown_by other grown) (ap (λ xs. placed is_used xs (drop m (numbers bs))) ahead ∙ rw (free, next) refl) whole

  pub place_empty : is_used here ≡ false → length bs ≤ m → after ≡ before →
      numbers after ++ placed is_used (drop (i + 1) (numbers ns)) (drop m (numbers bs)) ≡ all
  place_empty free past same =
      let none : drop m (numbers bs) ≡ [] = drop_of_length-le (numbers bs) (omega (arith, past, length-map bs (λ (x : BearerId). x.0))) in
      turn (numbers before) (numbers after) [] (placed is_used (drop i (numbers ns)) (drop m (numbers bs))) (placed is_used (drop (i + 1) (numbers ns)) (drop m (numbers bs))) all
      (ap numbers same ∙ sym (append-nil (numbers before))) (ap (λ xs. placed is_used xs (drop m (numbers bs))) ahead ∙ rw (free, none) refl) whole

abbrev others : List BearerId
others =
    record { 0 = 6 } ∷ record { 0 = 7 } ∷ record { 0 = 8 } ∷ record { 0 = 9 } ∷ record { 0 = 10 } ∷ record { 0 = 11 } ∷ record { 0 = 12 } ∷ record { 0 = 13 } ∷ record { 0 = 14 }
    ∷ record { 0 = 15 } ∷ []

used_length : (test : ℕ → Bool) (used : List BearerId) → numbers used ≡ filter test other_ids → length (filter test other_ids) ≡ length used
used_length test used is = sym (ap length is) ∙ length-map used (λ (x : BearerId). x.0)

pub few_used : (test : ℕ → Bool) (used : List BearerId) (n : ℕ) → numbers used ≡ filter test other_ids → n ≡ length used → n ≤ 10
few_used test used n is count = let few = filter_length test other_ids in omega (arith, few, count, used_length test used is)

pub within_others : (n : ℕ) → n ≤ 10 → n ≡ length (take n others)
within_others n few = let size = length-take n others in omega (arith, few, size)

pub order_is : (test : ℕ → Bool) (used beyond : List BearerId) (n : ℕ) → numbers used ≡ filter test other_ids →
    numbers beyond ≡ filter (λ id. nat_lt (default_id + length used) id) (numbers used) → n ≡ length used →
    placed test (numbers (take n others)) (numbers beyond) ≡ placed_from test (filter test other_ids)
order_is test used beyond n is rest count =
    let size : n ≡ length (filter test other_ids) = count ∙ sym (used_length test used is) in
    let front : numbers (take n others) ≡ take (length (filter test other_ids)) other_ids = map-take (λ (x : BearerId). x.0) others n ∙ ap (λ k. take k other_ids) size in
    let back : numbers beyond ≡ filter (λ id. nat_lt (default_id + length (filter test other_ids)) id) (filter test other_ids) =
    rest ∙ ap (λ (k : ℕ). filter (λ id. nat_lt (default_id + k) id) (numbers used)) (sym (used_length test used is))
    ∙ ap (filter (λ id. nat_lt (default_id + length (filter test other_ids)) id)) is in
    ap (λ ns. placed test ns (numbers beyond)) front ∙ ap (placed test (take (length (filter test other_ids)) other_ids)) back
  where
    map-take : (f : BearerId → ℕ) (xs : List BearerId) (n : ℕ) → map f (take n xs) ≡ take n (map f xs)
    map-take f [] zero = refl
    map-take f [] (suc n) = refl
    map-take f (x ∷ xs) zero = refl
    map-take f (x ∷ xs) (suc n) = ap (λ ys. f x ∷ ys) (map-take f xs n)

-- ---- both numbers of bearers
none_paired : (ids : List ℕ) → paired ids [] ≡ []
none_paired [] = refl
none_paired (id ∷ ids) = refl

module _ (ns : List BearerId) (i : ℕ) (before after : List BearerNumbers) (all : List BearerNumbers) (below : i < length ns)
    (whole : before ++ paired (drop i (numbers ns)) (drop i other_ids) ≡ all) where
  next_is : drop i (numbers ns) ≡ (get_or ns i (record { 0 = 0 })).0 ∷ drop (i + 1) (numbers ns)
  next_is = ahead_is ns i below ∙ ap (λ k. (get_or ns i (record { 0 = 0 })).0 ∷ drop k (numbers ns)) (sym (add-one i))

  pub pair_taken : (new : BearerId) → i < 10 → new ≡ get_or others i new → after ≡ before ++ record { old = get_or ns i (record { 0 = 0 }); new = new } ∷ [] →
      after ++ paired (drop (i + 1) (numbers ns)) (drop (i + 1) other_ids) ≡ all
  pair_taken new within is grown =
      let next : drop i other_ids ≡ new.0 ∷ drop (i + 1) other_ids = ahead_at others i new within is ∙ ap (λ k. new.0 ∷ drop k other_ids) (sym (add-one i)) in
      turn before after (record { old = get_or ns i (record { 0 = 0 }); new = new } ∷ []) (paired (drop i (numbers ns)) (drop i other_ids))
      (paired (drop (i + 1) (numbers ns)) (drop (i + 1) other_ids)) all grown (ap₂ paired next_is next) whole

  pub pair_past : 10 ≤ i → after ≡ before → after ++ paired (drop (i + 1) (numbers ns)) (drop (i + 1) other_ids) ≡ all
  pair_past past same =
      let none : drop i other_ids ≡ [] = drop_of_length-le other_ids past in
      let none_more : drop (i + 1) other_ids ≡ [] = drop_of_length-le other_ids (omega (arith, past)) in
      turn before after [] (paired (drop i (numbers ns)) (drop i other_ids)) (paired (drop (i + 1) (numbers ns)) (drop (i + 1) other_ids)) all (same ∙ sym (append-nil before))
      (ap (paired (drop i (numbers ns))) none ∙ none_paired (drop i (numbers ns))
      ∙ sym (ap (paired (drop (i + 1) (numbers ns))) none_more ∙ none_paired (drop (i + 1) (numbers ns)))) whole
