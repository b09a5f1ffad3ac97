-- The binding that a generation stands for, and what commands make of it.
use Rattle.std.proofs.Common.{◌≡◌, ◌∙◌, ◌≤◌, ℕ, ◌==◌, Bool, true, false, ◌&&◌, ◌||◌, not, List, [], ◌∷◌, map, filter, find, length, unwrap_or, Option, Some, None, Contains, is_none, refl, sym, ap, subst, inl, inr, rules}
use Rattle.std.specs.List.{list_any}
use Rattle.std.proofs.lemmas.Bool.{cases_Bool, or_from, or_right}
use Rattle.std.proofs.lemmas.List.{length-map}
use Rattle.std.proofs.lemmas.List.Folds.{list_any_none}
use Rattle.pcef_rule.specs.declared.quantity.Qos.{Qos}
use Rattle.pcef_rule.specs.declared.rule.Properties.{Properties}
use Rattle.pcef_catalog.proofs.Alternatives.{list_any_map}
use Rattle.pcef_base.proofs.Foremost.{found_is_foremost, none_passes}
use Rattle.pcef_model.specs.declared.command.Command.{Command}
use Rattle.pcef_model.specs.Setting.{Setting, same_qos}
use Rattle.pcef_model.specs.ActiveRules.{Active, is_named, put, without}
use Rattle.pcef_model.specs.Generations.{Generation, free_id, has_bearer, id_after, kept, next, rules_after, stays}
use Rattle.pcef_model.proofs.Sameness.{same_qos_is, same_qos_self}
use Rattle.pcef_bearer.specs.declared.bearers.Bound.{Bound}
use Rattle.pcef_bearer.specs.Bindings.{bound_at, is_bound_as as bound_named, bound_down, bound_up}
use Rattle.pcef_bearer.specs.BindingSteps.{IsBinding, id_excluding, id_or_new, with_rules, finds_no_id as bound_finds_none, with_bound as bound_put, binding_refusals as bound_refusals, without_bound as bound_without}
use Rattle.pcef_model.specs.Bearers.{other_ids, sum_up, sum_down, default_id, has_pair, least_free as free}
use Rattle.pcef_model.specs.Refusals.{bindings, finds_no_bearer, first_of, total_down, total_up}
use Rattle.pcef_bearer.specs.Standing.{binding_of, bound_of}
use Rattle.pcef_model.specs.Changes.{MakesActive}
use Rattle.pcef_model.proofs.BearerIds.{IsBound, id_default, id_kept, id_new}
use Rattle.pcef_model.proofs.Names.{put_filter}
use Rattle.pcef_base.proofs.Found.{any_from}
use Rattle.pcef_model.proofs.Members.{filter_from, first_there, later_there, map_from}
use Rattle.pcef_model.specs.Commands.{activated, takes_away}
use Rattle.pcef_model.proofs.RulesAfter.{rules_left}

-- one rule as it is bound, and the ids of rules' pairs
abbrev pub bound_by : Generation → Active → Bound
bound_by g r = bound_at r.properties.name r.properties.qos r.properties.rates (g.id_of r.properties.qos)

-- ---- lists
-- a filter of what was mapped
pub filter_map_of : {X Y : Type 0} (t : Y → Bool) (f : X → Y) (xs : List X) → filter t (map f xs) ≡ map f (filter (λ x. t (f x)) xs)
filter_map_of t f [] = refl
filter_map_of t f (x ∷ xs) =
    elim (cases_Bool (t (f x))) [
      | inl is ↦ rw is (ap (λ rest. f x ∷ rest) (filter_map_of t f xs))
      | inr isnt ↦ rw isnt (filter_map_of t f xs)
    ]

-- where all pass, all stay
filter_all : {X : Type 0} (t : X → Bool) (xs : List X) → ((x : X) → Contains xs x → t x ≡ true) → filter t xs ≡ xs
filter_all t [] all = refl
filter_all t (x ∷ xs) all =
    let passes : t x ≡ true = all x (first_there x xs) in
    rw passes (ap (λ rest. x ∷ rest) (filter_all t xs (λ y there. all y (later_there x xs y there))))

-- two tests that agree find the same
find_agree : {X : Type 0} (t s : X → Bool) → ((x : X) → t x ≡ s x) → (xs : List X) → find t xs ≡ find s xs
find_agree t s agree [] = refl
find_agree t s agree (x ∷ xs) =
    elim (cases_Bool (s x)) [
      | inl is ↦ let same : t x ≡ true = agree x ∙ is in rw (same, is) refl
      | inr isnt ↦ let same : t x ≡ false = agree x ∙ isnt in rw (same, isnt) (find_agree t s agree xs)
    ]

two_parts : {X : Type 0} (x y : X) (xs ys : List X) → x ≡ y → xs ≡ ys → (x ∷ xs) ≡ (y ∷ ys)
two_parts x y xs ys first rest = cc

-- ---- rules by name
-- a name is bound where it is active
pub named_bound : (name : List ℕ) (g : Generation) (rules : List Active) →
    list_any (bound_named name) (bound_of g rules) ≡ list_any (is_named name) rules
named_bound name g rules = list_any_map (bound_named name) (bound_by g) rules

-- as many rules are bound as there are
pub length_bound : (g : Generation) (rules : List Active) → length (bound_of g rules) ≡ length rules
length_bound g rules = length-map rules (bound_by g)

-- the rules without a name are bound without it
pub without_bound : (name : List ℕ) (g : Generation) (rules : List Active) →
    bound_without name (bound_of g rules) ≡ bound_of g (without name rules)
without_bound name g rules = filter_map_of (λ b. not (bound_named name b)) (bound_by g) rules

-- the sums of rates are those of the rules
pub total_up_bound : (g : Generation) (rules : List Active) → bound_up (bound_of g rules) ≡ total_up rules
unfolding sum_up
total_up_bound g [] = refl
total_up_bound g (r ∷ rules) = rw (total_up_bound g rules) refl

pub total_down_bound : (g : Generation) (rules : List Active) → bound_down (bound_of g rules) ≡ total_down rules
unfolding sum_down
total_down_bound g [] = refl
total_down_bound g (r ∷ rules) = rw (total_down_bound g rules) refl

-- the sums of the active rules are within the capacity of what is bound
pub within_up : (p : Setting) (g : Generation) → IsBinding (binding_of p g) → total_up g.rules ≤ p.capacity.up
within_up p g kept = subst (λ n. n ≤ p.capacity.up) (total_up_bound g g.rules) kept.within_up

pub within_down : (p : Setting) (g : Generation) → IsBinding (binding_of p g) → total_down g.rules ≤ p.capacity.down
within_down p g kept = subst (λ n. n ≤ p.capacity.down) (total_down_bound g g.rules) kept.within_down

-- ---- ids
-- an active rule's pair has a bearer
has_own : (p : Setting) (g : Generation) (r : Active) → Contains g.rules r → has_bearer p g.rules r.properties.qos ≡ true
has_own p g r there =
    or_right (same_qos r.properties.qos p.default_qos) (list_any (λ (s : Active). same_qos r.properties.qos s.properties.qos) g.rules)
    (any_from (λ (s : Active). same_qos r.properties.qos s.properties.qos) g.rules r there (same_qos_self r.properties.qos))

-- rules that were active all keep their bearers
kept_all : (p : Setting) (g : Generation) (others : List Active) → ((r : Active) → Contains others r → Contains g.rules r) →
    kept p g others ≡ others
kept_all p g others among =
    filter_all (λ (r : Active). has_bearer p g.rules r.properties.qos) others (λ r there. has_own p g r (among r there))

-- a rule is bound to an id where it is on it
used_bound : (g : Generation) (rules : List Active) (id : ℕ) →
    list_any (λ b. id == b.bearer.0) (bound_of g rules) ≡ list_any (λ r. id == g.id_of r.properties.qos) rules
used_bound g rules id = list_any_map (λ (b : Bound). id == b.bearer.0) (bound_by g) rules

-- the least free id beside rules that were active
free_bound : (p : Setting) (g : Generation) (others : List Active) → ((r : Active) → Contains others r → Contains g.rules r) →
    free (λ (b : Bound). b.bearer.0) (bound_of g others) ≡ free_id p g others
free_bound p g others among =
    rw (kept_all p g others among)
    (find_agree (λ (id : ℕ). not (list_any (λ (b : Bound). id == b.bearer.0) (bound_of g others)))
    (λ (id : ℕ). not (list_any (λ (r : Active). id == g.id_of r.properties.qos) others))
    (λ id. ap not (used_bound g others id)) other_ids)

-- a pair has a bearer where a rule of it is bound
has_bound : (p : Setting) (g : Generation) (rules : List Active) (q : Qos) → has_pair (λ (b : Bound). b.qos) p.default_qos (bound_of g rules) q ≡ has_bearer p rules q
has_bound p g rules q = ap (λ b. same_qos q p.default_qos || b) (list_any_map (λ (b : Bound). same_qos q b.qos) (bound_by g) rules)

-- a pair finds no bearer beside what is bound where it finds none beside the rules
finds_bound : (p : Setting) (g : Generation) (rule : Properties) (others : List Active) →
    ((r : Active) → Contains others r → Contains g.rules r) →
    bound_finds_none p.default_qos (bound_of g others) rule.qos ≡ finds_no_bearer p g rule others
finds_bound p g rule others among =
    both (has_pair (λ (b : Bound). b.qos) p.default_qos (bound_of g others) rule.qos) (has_bearer p others rule.qos)
    (is_none (free (λ (b : Bound). b.bearer.0) (bound_of g others))) (is_none (free_id p g others))
    (has_bound p g others rule.qos) (ap (λ (o : Option ℕ). is_none o) (free_bound p g others among))
  where
    both : (a a2 b b2 : Bool) → a ≡ a2 → b ≡ b2 → (not a && b) ≡ (not a2 && b2)
    both a a2 b b2 first second = rw (first, second) refl

-- the refusals beside rules that were active
refusals_excluding : (p : Setting) (g : Generation) (rule : Properties) (others : List Active) →
    ((r : Active) → Contains others r → Contains g.rules r) →
    first_of (bound_refusals (binding_of p g) (bound_of g others) rule.qos rule.rates) ≡ first_of (bindings p g rule others)
refusals_excluding p g rule others among =
    rw (finds_bound p g rule others among, total_up_bound g others, total_down_bound g others) refl

-- a rule is refused by what is bound as it is by the rules
pub refusals_bound : (p : Setting) (g : Generation) (rule : Properties) →
    first_of (bound_refusals (binding_of p g) (bound_without rule.name (bound_of g g.rules)) rule.qos rule.rates)
    ≡ first_of (bindings p g rule (without rule.name g.rules))
refusals_bound p g rule =
    ap (λ (others : List Bound). first_of (bound_refusals (binding_of p g) others rule.qos rule.rates)) (without_bound rule.name g g.rules)
    ∙ refusals_excluding p g rule (without rule.name g.rules)
    (λ r there. (filter_from (λ (s : Active). not (is_named rule.name s)) g.rules r there).0)

-- ---- the ids after a command
-- a rule that was active keeps the id of its pair
kept_id : (p : Setting) (g : Generation) (rules : List Active) (r : Active) → IsBound p g → Contains g.rules r →
    id_after p g rules r.properties.qos ≡ g.id_of r.properties.qos
kept_id p g rules r bound there =
    elim (cases_Bool (same_qos r.properties.qos p.default_qos)) [
      | inl is ↦ id_default p g rules r.properties.qos is ∙ sym (bound.five r.properties.qos is)
      | inr isnt ↦ id_kept p g rules r.properties.qos isnt (has_own p g r there)
    ]

-- rules whose ids stay are bound as they were
bound_kept : (g after : Generation) (rules : List Active) →
    ((r : Active) → Contains rules r → after.id_of r.properties.qos ≡ g.id_of r.properties.qos) → bound_of after rules ≡ bound_of g rules
bound_kept g after [] kept = refl
bound_kept g after (r ∷ rules) kept =
    two_parts (bound_by after r) (bound_by g r) (bound_of after rules) (bound_of g rules)
    (ap (bound_at r.properties.name r.properties.qos r.properties.rates) (kept r (first_there r rules)))
    (bound_kept g after rules (λ s there. kept s (later_there r rules s there)))

-- a rule that is put beside rules whose ids stay
put_kept : (g after : Generation) (new : Active) (id : ℕ) (rules : List Active) → after.id_of new.properties.qos ≡ id →
    ((r : Active) → Contains rules r → after.id_of r.properties.qos ≡ g.id_of r.properties.qos) →
    bound_of after (put new rules) ≡ bound_put (bound_at new.properties.name new.properties.qos new.properties.rates id) (bound_of g rules)
put_kept g after new id [] gets kept =
    ap (λ (n : ℕ). bound_at new.properties.name new.properties.qos new.properties.rates n ∷ []) gets
put_kept g after new id (r ∷ rules) gets kept =
    elim (cases_Bool (is_named new.properties.name r)) [
      | inl is ↦ rw is (two_parts (bound_by after new) (bound_at new.properties.name new.properties.qos new.properties.rates id)
          (bound_of after rules) (bound_of g rules)
          (ap (bound_at new.properties.name new.properties.qos new.properties.rates) gets)
          (bound_kept g after rules (λ s there. kept s (later_there r rules s there))))
      | inr isnt ↦ rw isnt (two_parts (bound_by after r) (bound_by g r) (bound_of after (put new rules))
          (bound_put (bound_at new.properties.name new.properties.qos new.properties.rates id) (bound_of g rules))
          (ap (bound_at r.properties.name r.properties.qos r.properties.rates) (kept r (first_there r rules)))
          (put_kept g after new id rules gets (λ s there. kept s (later_there r rules s there))))
    ]

-- ---- the id of a rule that is put
module _ (p : Setting) (g : Generation) (bound : IsBound p g) (new : Active) (id : ℕ) where
  -- the pair had a bearer
  gets_old : same_qos new.properties.qos p.default_qos ≡ false → (b : Bound) →
      find (λ (b : Bound). same_qos new.properties.qos b.qos) (bound_of g g.rules) ≡ Some b → b.bearer.0 ≡ id →
      id_after p g (put new g.rules) new.properties.qos ≡ id
  gets_old isnt b found is =
      let f = found_is_foremost (λ _ _. Unit {0}) (λ (b : Bound). same_qos new.properties.qos b.qos) (bound_of g g.rules) b
      (λ i j d below within. tt) found in
      let r = map_from (bound_by g) g.rules b f.there in
      let same : new.properties.qos ≡ b.qos = same_qos_is new.properties.qos b.qos f.passes in
      let own : r.0.properties.qos ≡ b.qos = ap (λ (x : Bound). x.qos) r.2 in
      let number : g.id_of r.0.properties.qos ≡ b.bearer.0 = ap (λ (x : Bound). x.bearer.0) r.2 in
      let pair : r.0.properties.qos ≡ new.properties.qos = own ∙ sym same in
      id_kept p g (put new g.rules) new.properties.qos isnt
      (subst (λ (q : Qos). has_bearer p g.rules q ≡ true) pair (has_own p g r.0 r.1))
      ∙ sym (ap g.id_of pair) ∙ number ∙ is

  -- the pair is new
  gets_new : same_qos new.properties.qos p.default_qos ≡ false →
      find (λ (b : Bound). same_qos new.properties.qos b.qos) (bound_of g g.rules) ≡ None →
      free (λ (b : Bound). b.bearer.0) (bound_of g (without new.properties.name g.rules)) ≡ Some id →
      id_after p g (put new g.rules) new.properties.qos ≡ id
  gets_new isnt none found =
      let unheld : list_any (λ (r : Active). same_qos new.properties.qos r.properties.qos) g.rules ≡ false =
      sym (list_any_map (λ (b : Bound). same_qos new.properties.qos b.qos) (bound_by g) g.rules)
      ∙ list_any_none (λ (b : Bound). same_qos new.properties.qos b.qos) (bound_of g g.rules)
      (none_passes (λ (b : Bound). same_qos new.properties.qos b.qos) (bound_of g g.rules) none) in
      let before : has_bearer p g.rules new.properties.qos ≡ false =
      or_from (same_qos new.properties.qos p.default_qos) (list_any (λ (r : Active). same_qos new.properties.qos r.properties.qos) g.rules) isnt unheld in
      let same : kept p g (put new g.rules) ≡ kept p g (without new.properties.name g.rules) =
      put_filter (λ (r : Active). r.properties.name) (λ (r : Active). has_bearer p g.rules r.properties.qos) new g.rules before bound.once in
      id_new p g (put new g.rules) new.properties.qos isnt before
      ∙ ap (λ (rules : List Active). unwrap_or (free (λ (r : Active). g.id_of r.properties.qos) rules) default_id) same
      ∙ ap (λ (o : Option ℕ). unwrap_or o default_id)
      (sym (free_bound p g (without new.properties.name g.rules)
      (λ r there. (filter_from (λ (s : Active). not (is_named new.properties.name s)) g.rules r there).0))
      ∙ found)

  gets_other : same_qos new.properties.qos p.default_qos ≡ false → (o : Option Bound) →
      find (λ (b : Bound). same_qos new.properties.qos b.qos) (bound_of g g.rules) ≡ o →
      id_or_new o (bound_of g (without new.properties.name g.rules)) ≡ Some id →
      id_after p g (put new g.rules) new.properties.qos ≡ id
  gets_other isnt (Some b) there found =
      let same : b.bearer.0 ≡ id = cc in
      gets_old isnt b there same
  gets_other isnt None there found = gets_new isnt there found

  -- the id that a binding gives is the one of the next generation
  pub given_id : id_excluding p.default_qos (bound_of g g.rules) (bound_without new.properties.name (bound_of g g.rules)) new.properties.qos ≡ Some id →
      id_after p g (put new g.rules) new.properties.qos ≡ id
  given_id found =
      let beside : id_excluding p.default_qos (bound_of g g.rules) (bound_of g (without new.properties.name g.rules)) new.properties.qos ≡ Some id =
      subst (λ (others : List Bound). id_excluding p.default_qos (bound_of g g.rules) others new.properties.qos ≡ Some id)
      (without_bound new.properties.name g g.rules) found in
      elim (cases_Bool (same_qos new.properties.qos p.default_qos)) [
        | inl is ↦
            let five : Some 5 ≡ Some id = rw is at beside in
            let same : 5 ≡ id = cc in
            id_default p g (put new g.rules) new.properties.qos is ∙ same
        | inr isnt ↦
            gets_other isnt (find (λ (b : Bound). same_qos new.properties.qos b.qos) (bound_of g g.rules)) refl (rw isnt at beside)
      ]

-- ---- what is bound after a command
-- a rule that is put
pub put_bound : (p : Setting) (g after : Generation) (new : Active) (id : ℕ) → IsBound p g →
    id_excluding p.default_qos (bound_of g g.rules) (bound_without new.properties.name (bound_of g g.rules)) new.properties.qos ≡ Some id →
    after.rules ≡ put new g.rules → ((q : Qos) → after.id_of q ≡ id_after p g (put new g.rules) q) →
    (bound_of after after.rules ≡ bound_put (bound_at new.properties.name new.properties.qos new.properties.rates id) (bound_of g g.rules))
    × (after.id_of new.properties.qos ≡ id)
put_bound p g after new id bound found are keep =
    let gets : after.id_of new.properties.qos ≡ id = keep new.properties.qos ∙ given_id p g bound new id found in (
      ap (bound_of after) are
          ∙ put_kept g after new id g.rules gets (λ r there. keep r.properties.qos ∙ kept_id p g (put new g.rules) r bound there),
      gets,
    )

-- a part of the rules
pub part_bound : (p : Setting) (g after : Generation) (t : Active → Bool) → IsBound p g →
    after.rules ≡ filter t g.rules → ((q : Qos) → after.id_of q ≡ id_after p g (filter t g.rules) q) →
    bound_of after after.rules ≡ bound_of g (filter t g.rules)
part_bound p g after t bound are keep =
    ap (bound_of after) are
    ∙ bound_kept g after (filter t g.rules)
    (λ r there. keep r.properties.qos ∙ kept_id p g (filter t g.rules) r bound (filter_from t g.rules r there).0)

-- the rules without a name
pub removed_bound : (p : Setting) (g after : Generation) (name : List ℕ) → IsBound p g →
    after.rules ≡ without name g.rules → ((q : Qos) → after.id_of q ≡ id_after p g (without name g.rules) q) →
    bound_of after after.rules ≡ bound_without name (bound_of g g.rules)
removed_bound p g after name bound are keep =
    part_bound p g after (λ (r : Active). not (is_named name r)) bound are keep ∙ sym (without_bound name g g.rules)

-- the same rules
pub same_bound : (p : Setting) (g after : Generation) → IsBound p g →
    after.rules ≡ g.rules → ((q : Qos) → after.id_of q ≡ id_after p g g.rules q) →
    bound_of after after.rules ≡ bound_of g g.rules
same_bound p g after bound are keep =
    ap (bound_of after) are ∙ bound_kept g after g.rules (λ r there. keep r.properties.qos ∙ kept_id p g g.rules r bound there)

-- ---- the binding of the next generation
-- a rule becomes active
pub next_put : (p : Setting) (g : Generation) (c : Command) (r : Active) (id : ℕ) → MakesActive p c r → IsBound p g →
    id_excluding (binding_of p g).default_qos (binding_of p g).bound (bound_without r.properties.name (binding_of p g).bound) r.properties.qos ≡ Some id →
    binding_of p (next p g c) ≡ with_rules (binding_of p g) (bound_put (bound_at r.properties.name r.properties.qos r.properties.rates id) (binding_of p g).bound)
next_put p g c r id makes bound found =
    ap (with_rules (binding_of p g))
    (put_bound p g (next p g c) r id bound found (makes.rules_are g) (λ q. ap (λ (rules : List Active). id_after p g rules q) (makes.rules_are g))).0

-- the id that it gets
pub next_id : (p : Setting) (g : Generation) (c : Command) (r : Active) (id : ℕ) → MakesActive p c r → IsBound p g →
    id_excluding (binding_of p g).default_qos (binding_of p g).bound (bound_without r.properties.name (binding_of p g).bound) r.properties.qos ≡ Some id →
    (next p g c).id_of r.properties.qos ≡ id
next_id p g c r id makes bound found =
    (put_bound p g (next p g c) r id bound found (makes.rules_are g) (λ q. ap (λ (rules : List Active). id_after p g rules q) (makes.rules_are g))).1

-- some rules are removed, and the others stay
pub next_left : (p : Setting) (g : Generation) (c : Command) → activated p c ≡ None → IsBound p g →
    binding_of p (next p g c) ≡ with_rules (binding_of p g) (filter (λ b. not (takes_away c b.name b.bearer.0)) (binding_of p g).bound)
next_left p g c none bound =
    let left : rules_after p g c ≡ filter (stays g c) g.rules = rules_left p g c none in
    ap (with_rules (binding_of p g))
    (part_bound p g (next p g c) (stays g c) bound left (λ q. ap (λ rules. id_after p g rules q) left)
    ∙ sym (filter_map_of (λ b. not (takes_away c b.name b.bearer.0)) (bound_by g) g.rules))

-- the rules stay
pub next_same : (p : Setting) (g : Generation) (c : Command) → IsBound p g → rules_after p g c ≡ g.rules →
    binding_of p (next p g c) ≡ binding_of p g
next_same p g c bound stay =
    ap (with_rules (binding_of p g))
    (same_bound p g (next p g c) bound stay (λ q. ap (λ (rules : List Active). id_after p g rules q) stay))
