-- What a session's getters show is what the renewal names.
use Rattle.std.proofs.Common.{◌≡◌, ◌∙◌, ◌+◌, ◌==◌, ℕ, Bool, List, [], ◌∷◌, ◌++◌, Some, None, drop, filter, length, map, nat_lt, take, refl, sym, ap, ap₂, arith, inl, inr}
use Rattle.std.specs.Prelude.{Option, if◌then◌else◌, slice_get}
use Rattle.std.specs.List.{AllByRecursion, list_any}
use Rattle.std.specs.Option.{option_map}
use Rattle.std.proofs.lemmas.Bool.{cases_Bool}
use Rattle.std.proofs.lemmas.List.{append_assoc, length-map, map-append}
use Rattle.std.proofs.lemmas.List.Elements.{filter_agree}
use Rattle.pcef_bearer.specs.declared.bearers.Bound.{Bound}
use Rattle.pcef_bearer.specs.Bindings.{bound_at}
use Rattle.pcef_bearer.specs.Standing.{bound_of}
use Rattle.pcef_catalog.specs.declared.listing.Offer.{Offer}
use Rattle.pcef_model.specs.declared.command.Command.{Command}
use Rattle.pcef_model.specs.declared.command.Command.TheVariants.{Activate, Monitor}
use Rattle.pcef_model.specs.declared.level.Level.{Level}
use Rattle.pcef_model.specs.declared.trigger.TriggerSet.{TriggerSet}
use Rattle.pcef_model.specs.ActiveRules.{Active, dynamic, predefined}
use Rattle.pcef_model.specs.Bearers.{default_id, other_ids}
use Rattle.pcef_model.specs.Commands.{is_among}
use Rattle.pcef_model.specs.Entries.{Journal}
use Rattle.pcef_model.specs.Generations.{Generation}
use Rattle.pcef_model.specs.Journals.{grant, level_of, now, subscribed, unreported}
use Rattle.pcef_model.specs.Refusals.{is_bearer, was_closed}
use Rattle.pcef_model.specs.Setting.{Setting}
use Rattle.pcef_table.specs.declared.entry.Source.{Source}
use Rattle.pcef_table.specs.declared.entry.Source.TheVariants.{Dynamic, Predefined}
use Rattle.pcef_usage.specs.declared.usage.KeyState.{KeyState}
use Rattle.pcef_session.specs.Agreement.{AreKept, KeyAgrees, KeysAgree}
use Rattle.pcef_session.specs.Shown.{entry_rule}
use Rattle.pcef_renewal.specs.Renewal.{bearers_used, close_again, grant_after, is_any, keys_on, monitor_again, placed, placed_from, places, renewal, rule_again, rules_in_order, rules_on, rules_on_each, subscribe_again}
use Rattle.pcef_renewal.specs.Renewing.{commands_needed}
use Rattle.pcef_renewal.specs.private.Again.{again_on, again_on_each, closing, is_used, kept_again, monitor_of, monitors_of, subscription}

-- ---- keys
monitor_is : (p : Setting) (j : Journal) (s : KeyState) → KeyAgrees p j s → monitor_of s ≡ monitor_again p j s.key
monitor_is p j s agrees =
    let octets : s.unreported ≡ unreported p j s.key = omega (arith, agrees.reported_is, agrees.counted_is) in
    from (s.grant) (grant j s.key) s.unreported (unreported p j s.key) s.level (level_of (now p j) s.key) agrees.grant_is octets agrees.level_is
  where
    from : (g h : Option ℕ) (n m : ℕ) (a b : Level) → g ≡ h → n ≡ m → a ≡ b → Monitor s.key (grant_after g n) a ≡ Monitor s.key (grant_after h m) b
    from g h n m a b gs ns levels = rw (gs, ns, levels) refl

pub monitors_are : (p : Setting) (j : Journal) (states : List KeyState) → KeysAgree p j states → monitors_of states ≡ map (monitor_again p j) (keys_on p j)
monitors_are p j states agree =
    by_key states agree.usage_is ∙ ap (λ keys. map (monitor_again p j) (filter (λ key. is_among key (now p j).on) keys)) agree.keys_are
  where
    by_key : (states : List KeyState) → AllByRecursion (KeyAgrees p j) states →
        monitors_of states ≡ map (monitor_again p j) (filter (λ key. is_among key (now p j).on) (map (λ s. s.key) states))
    by_key [] all = refl
    by_key (s ∷ states) all =
        let on_is : s.on ≡ is_among s.key (now p j).on = all.0.on_is in
        elim (cases_Bool s.on) [
          | inl on ↦ rw (on, sym on_is ∙ on) (ap₂ (λ c cs. c ∷ cs) (monitor_is p j s all.0) (by_key states all.1))
          | inr off ↦ rw (off, sym on_is ∙ off) (by_key states all.1)
        ]

-- ---- rules
kept_is : (offers : List Offer) (e : List ℕ × Source) (r : Active) → e.0 ≡ r.properties.name → entry_rule offers e.1 ≡ Some r → kept_again e ≡ rule_again r
kept_is offers e r named is = by_source e.0 e.1 named is
  where
    by_source : (name : List ℕ) (source : Source) → name ≡ r.properties.name → entry_rule offers source ≡ Some r → kept_again (name, source) ≡ rule_again r
    by_source name (Dynamic rule) named is = let same : dynamic rule ≡ r = cc in ap rule_again same
    by_source name (Predefined index) named is = from (slice_get offers index) is
      where
        from : (o : Option Offer) → option_map predefined o ≡ Some r → Activate name ≡ rule_again r
        from None made = absurd cc
        from (Some o) made =
            let same : predefined o ≡ r = cc in
            ap (λ n. Activate n) (named ∙ ap (λ (s : Active). s.properties.name) (sym same)) ∙ ap rule_again same

on_bearer_is : (offers : List Offer) (g : Generation) (id : ℕ) (kept : List (List ℕ × Source)) (rules : List Active) → AreKept offers kept rules →
    again_on id (bound_of g rules) kept ≡ map rule_again (filter (λ (r : Active). g.id_of r.properties.qos == id) rules)
on_bearer_is offers g id [] [] all = refl
on_bearer_is offers g id [] (r ∷ rules) all = absurd all
on_bearer_is offers g id (e ∷ kept) [] all = absurd all
on_bearer_is offers g id (e ∷ kept) (r ∷ rules) all =
    elim (cases_Bool (g.id_of r.properties.qos == id)) [
      | inl here ↦ rw here (ap₂ (λ c cs. c ∷ cs) (kept_is offers e r all.0 all.1) (on_bearer_is offers g id kept rules all.2))
      | inr other ↦ rw other (on_bearer_is offers g id kept rules all.2)
    ]

on_each_is : (p : Setting) (j : Journal) (kept : List (List ℕ × Source)) → AreKept p.catalog kept (now p j).rules → (ids : List ℕ) →
    again_on_each ids (bound_of (now p j) (now p j).rules) kept ≡ map rule_again (rules_on_each p j ids)
on_each_is p j kept all [] = refl
on_each_is p j kept all (id ∷ ids) =
    ap₂ (λ cs ds. cs ++ ds) (on_bearer_is p.catalog (now p j) id kept (now p j).rules all) (on_each_is p j kept all ids)
    ∙ sym (map-append rule_again (rules_on p j id) (rules_on_each p j ids))

-- ---- bearers
used_is : (p : Setting) (j : Journal) (id : ℕ) → is_used (bound_of (now p j) (now p j).rules) id ≡ is_bearer p j id
used_is p j id = by_rule (now p j).rules
  where
    by_rule : (rules : List Active) → is_used (bound_of (now p j) rules) id ≡ list_any (λ (r : Active). (now p j).id_of r.properties.qos == id) rules
    by_rule [] = refl
    by_rule (r ∷ rules) =
        elim (cases_Bool ((now p j).id_of r.properties.qos == id)) [ inl here ↦ rw here refl | inr other ↦ rw other (by_rule rules) ]

placed_agree : (s t : ℕ → Bool) → ((n : ℕ) → s n ≡ t n) → (ns beyond : List ℕ) → placed s ns beyond ≡ placed t ns beyond
placed_agree s t same [] beyond = refl
placed_agree s t same (n ∷ ns) beyond =
    elim (cases_Bool (t n)) [
      | inl is ↦ rw (same n ∙ is, is) (ap (λ xs. n ∷ xs) (placed_agree s t same ns beyond))
      | inr isnt ↦ rw (same n ∙ isnt, isnt) (ap (λ xs. take 1 beyond ++ xs) (placed_agree s t same ns (drop 1 beyond)))
    ]

pub places_are : (p : Setting) (j : Journal) (bound : List Bound) → bound ≡ bound_of (now p j) (now p j).rules → placed_from (is_used bound) (filter (is_used bound) other_ids) ≡ places p j
places_are p j bound is =
    let same : (id : ℕ) → is_used bound id ≡ is_bearer p j id = (λ id. ap (λ bs. is_used bs id) is ∙ used_is p j id) in
    let used : filter (is_used bound) other_ids ≡ bearers_used p j = filter_agree (is_used bound) (λ id. is_bearer p j id) same other_ids in
    ap (placed_from (is_used bound)) used
    ∙ placed_agree (is_used bound) (λ id. is_bearer p j id) same (take (length (bearers_used p j)) other_ids) (filter (λ id. nat_lt (default_id + length (bearers_used p j)) id) (bearers_used p j))

-- ---- all rules
pub all_again : (p : Setting) (j : Journal) (bound : List Bound) (kept : List (List ℕ × Source)) (ids : List ℕ) → bound ≡ bound_of (now p j) (now p j).rules →
    AreKept p.catalog kept (now p j).rules → ids ≡ placed_from (is_used bound) (filter (is_used bound) other_ids) → (before first all : List Command) →
    first ≡ before ++ again_on default_id bound kept → all ≡ first ++ again_on_each ids bound kept → all ≡ before ++ map rule_again (rules_in_order p j)
all_again p j bound kept ids bound_is kept_are ids_are before first all one other =
    other ∙ ap (λ cs. cs ++ again_on_each ids bound kept) one ∙ append_assoc before (again_on default_id bound kept) (again_on_each ids bound kept)
    ∙ ap (λ cs. before ++ cs)
    (ap (λ ns. again_on_each (default_id ∷ ns) bound kept) (ids_are ∙ places_are p j bound bound_is)
    ∙ ap (λ bs. again_on_each (default_id ∷ places p j) bs kept) bound_is ∙ on_each_is p j kept kept_are (default_id ∷ places p j))

-- ---- the list
pub whole_list : (p : Setting) (j : Journal) (states : List KeyState) (events : TriggerSet) (closed : Bool) → KeysAgree p j states → events ≡ subscribed j → closed ≡ was_closed j →
    (zero one two three four : List Command) → zero ≡ [] → one ≡ zero ++ monitors_of states → two ≡ one ++ subscription events → three ≡ two ++ map rule_again (rules_in_order p j) →
    four ≡ three ++ closing closed → four ≡ renewal p j
whole_list p j states events closed agree events_are closed_is zero one two three four empty first second third fourth =
    let keys : List Command = map (monitor_again p j) (keys_on p j) in
    let subs : List Command = subscribe_again j in
    let rules : List Command = map rule_again (rules_in_order p j) in
    let one_is : one ≡ keys = first ∙ ap (λ cs. cs ++ monitors_of states) empty ∙ monitors_are p j states agree in
    let two_is : two ≡ keys ++ subs = second ∙ ap (λ cs. cs ++ subscription events) one_is ∙ ap (λ set. keys ++ subscription set) events_are in
    let three_is : three ≡ (keys ++ subs) ++ rules = third ∙ ap (λ cs. cs ++ rules) two_is in
    fourth ∙ ap (λ cs. cs ++ closing closed) three_is ∙ ap (λ is. ((keys ++ subs) ++ rules) ++ closing is) closed_is
    ∙ append_assoc (keys ++ subs) rules (close_again j) ∙ append_assoc keys subs (rules ++ close_again j)

-- ---- what it needs
pub needed_is : (p : Setting) (j : Journal) (states : List KeyState) (events : TriggerSet) (bound : List Bound) (keys subscriptions : ℕ) → KeysAgree p j states → events ≡ subscribed j →
    bound ≡ bound_of (now p j) (now p j).rules → keys ≡ length (monitors_of states) → subscriptions ≡ (if is_any events then 1 else 0) →
    keys + subscriptions + length bound ≡ commands_needed p j
needed_is p j states events bound keys subscriptions agree events_are bound_is keys_are subs_are =
    let on : length (monitors_of states) ≡ length (keys_on p j) = ap length (monitors_are p j states agree) ∙ length-map (keys_on p j) (monitor_again p j) in
    let subs : subscriptions ≡ (if is_any (subscribed j) then 1 else 0) = subs_are ∙ ap (λ set. if is_any set then 1 else 0) events_are in
    let rules : length bound ≡ length (now p j).rules =
    ap length bound_is ∙ length-map (now p j).rules (λ (r : Active). bound_at r.properties.name r.properties.qos r.properties.rates ((now p j).id_of r.properties.qos)) in
    omega (arith, keys_are, on, subs, rules)
