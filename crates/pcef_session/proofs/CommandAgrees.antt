-- A session that has done a command agrees with the journal after it.
use Rattle.pcef_bearer.specs.Bindings.{is_bound_as as bound_named}
use Rattle.std.proofs.Common.{◌≡◌, ◌∙◌, ◌≤◌, ℕ, Bool, true, false, List, [], ◌∷◌, length, refl, sym, ap, subst, arith, inl, inr, find, map, Some, None}
use Rattle.std.specs.Prelude.{Option, Ok, Err, filter, not}
use Rattle.std.specs.List.{AllByRecursion, list_any}
use Rattle.std.proofs.lemmas.Bool.{cases_Bool}
use Rattle.std.proofs.lemmas.List.{length-map}
use Rattle.pcef_rule.specs.declared.quantity.BearerId.{BearerId}
use Rattle.pcef_rule.specs.declared.rule.Properties.{Properties}
use Rattle.pcef_bearer.specs.Bindings.{Binding}
use Rattle.pcef_bearer.specs.BindingSteps.{with_rules}
use Rattle.pcef_model.specs.declared.command.Command.{Command}
use Rattle.pcef_model.specs.declared.command.Command.TheVariants.{Install, Activate, Remove, Monitor, Stop, ReportNow, Triggers, Notice, LoseBearer, Close, Terminate}
use Rattle.pcef_model.specs.declared.entry.Entry.TheVariants as entry
use Rattle.pcef_model.specs.declared.pending_report.PendingReport.{PendingReport}
use Rattle.pcef_model.specs.Setting.{Setting}
use Rattle.pcef_model.specs.ActiveRules.{Active, dynamic, is_named, put}
use Rattle.pcef_model.specs.Generations.{Generation, next, rules_after}
use Rattle.pcef_model.specs.Commands.{key_named, is_table, activated, level_named, takes_away}
use Rattle.pcef_model.specs.declared.trigger.TriggerSet.{TriggerSet}
use Rattle.pcef_model.specs.Entries.{Journal, commands}
use Rattle.pcef_model.specs.Journals.{gen, level_of, now, report_count, slots, tables}
use Rattle.pcef_model.specs.Reports.{after_command, body_of, plan, with_reports, thresholds}
use Rattle.pcef_model.proofs.Growth.{now_after_table}
use Rattle.pcef_model.proofs.Sameness.{same_name_of}
use Rattle.pcef_usage.specs.declared.usage.KeyState.{KeyState}
use Rattle.pcef_usage.specs.Commands.{Asks, entered, started_by, subscribed_by}
use Rattle.pcef_usage.specs.Keys.{finds_no_place, keys_of, levels_of, with_slot}
use Rattle.pcef_usage.specs.PendingReports.{AllCount, AllOn, settled_states, threshold_reports, states_stopped, after_reports, appended}
use Rattle.pcef_usage.proofs.Afterwards.{few_entered, subscribed_after, subscribed_after_command}
use Rattle.pcef_model.proofs.AfterEvents.{now_after, slots_after}
use Rattle.pcef_usage.proofs.Commanded.{command_ended, keys_entered}
use Rattle.pcef_usage.proofs.Endings.{Ended}
use Rattle.pcef_session.specs.private.Parts.{Agrees, Parts}
use Rattle.pcef_session.specs.Agreement.{AreKept, KeyAgrees}
use Rattle.pcef_model.specs.declared.answer.Accepted.{Accepted}
use Rattle.pcef_model.specs.declared.answer.Refusal.{Refusal}
use Rattle.pcef_session.specs.declared.prepared.Activation.{Activation}
use Rattle.pcef_model.specs.Outcomes.{CommandStep, Gives, IsRefused, bearer_named, bearer_of, changes, command_outcome}
use Rattle.pcef_bearer.specs.Standing.{binding_of}
use Rattle.pcef_session.specs.Preparing.{Activates}
use Rattle.pcef_session.specs.private.Changes.{IsBoundTo, IsRebound, active_after, entered_by, rule_key}
use Rattle.pcef_active.specs.ByName.{NamedSource, put_kept}
use Rattle.pcef_model.specs.Lawful.{Lawful, by_command}
use Rattle.pcef_model.specs.Refusals.{first_of, is_active, refusals}
use Rattle.pcef_session.specs.Shown.{Shows}
use Rattle.pcef_session.proofs.Acceptance.{asks_known, names_none}
use Rattle.pcef_session.proofs.Activations.{brought, brought_none, served_key}
use Rattle.pcef_model.proofs.RulesAfter.{makes_active, name_activated, filter_all}
use Rattle.pcef_model.proofs.BearerIds.{lawful_bound, IsBound}
use Rattle.pcef_bearer.proofs.BoundBearers.{next_id, next_put, next_left, named_bound}
use Rattle.pcef_model.proofs.Exactness.{lawful_exact}
use Rattle.pcef_model.proofs.RulesNow.{rules_then, now_after_other, rules_now}
use Rattle.pcef_session.proofs.KeptRules.{kept_put}
use Rattle.pcef_session.proofs.NextTables.{all_count_from, all_levels_from, all_on_from}
use Rattle.pcef_usage.proofs.Levels.{all_levels, keys_slotted, levels_entered, levels_from, levels_settled, levels_stopped, levels_told}
use Rattle.pcef_model.proofs.Decisive.{made_once}
use Rattle.pcef_bearer.specs.declared.bearers.Bound.{Bound}
use Rattle.pcef_session.proofs.TakenAway.{still_kept}

-- ---- keys that a command names
-- its key is the one that it names
pub entering : (p : Setting) (c : Command) (x : Option Activation) (states : List KeyState) → Activates p (activated p c) x → entered_by (rule_key x) c states ≡ entered p c states
entering p c x states brings = ap (λ (key : Option (List ℕ)). started_by c (with_slot key (level_named c) states)) (sym (served_key p c x brings))

-- ---- rules and bearers
-- where nothing is bound anew, the bearers of the rules that stay
unbound_other : (c : Command) (bound : List Bound) → is_table c ≡ false → filter (λ b. not (takes_away c b.name b.bearer.0)) bound ≡ bound
unbound_other (ReportNow key) bound isnt = filter_all bound
unbound_other (Triggers set) bound isnt = filter_all bound
unbound_other (Notice kind value) bound isnt = filter_all bound
unbound_other (Install rule) bound isnt = absurd cc
unbound_other (Activate name) bound isnt = absurd cc
unbound_other (Remove name) bound isnt = absurd cc
unbound_other (Monitor key amount level) bound isnt = absurd cc
unbound_other (Stop key) bound isnt = absurd cc
unbound_other (LoseBearer id) bound isnt = absurd cc
unbound_other Close bound isnt = absurd cc
unbound_other Terminate bound isnt = absurd cc

bound_left : (p : Setting) (j : Journal) (c : Command) → activated p c ≡ None → IsBound p (now p j) →
    with_rules (binding_of p (now p j)) (filter (λ b. not (takes_away c b.name b.bearer.0)) (binding_of p (now p j)).bound) ≡ binding_of p (now p (entry.Command c ∷ j))
bound_left p j c none bound =
    elim (cases_Bool (is_table c)) [
      | inl is ↦ sym (next_left p (now p j) c none bound) ∙ ap (binding_of p) (sym (now_after_table p j c is))
      | inr isnt ↦ ap (with_rules (binding_of p (now p j))) (unbound_other c (binding_of p (now p j)).bound isnt) ∙ ap (binding_of p) (sym (now_after_other p j c isnt))
    ]

kept_after : (p : Setting) (j : Journal) (c : Command) (x : Option Activation) (bound : Binding) (kept : List NamedSource) → Activates p (activated p c) x → bound ≡ binding_of p (now p (entry.Command c ∷ j)) →
    AreKept p.catalog kept (now p j).rules → AreKept p.catalog (active_after x c bound kept) (rules_after p (now p j) c)
kept_after p j c None bound kept brings bound_is are =
    let g = now p (entry.Command c ∷ j) in
    still_kept p (now p j) c bound kept (made_once p (tables j)) (brought_none p c None refl brings)
    (λ name. ap (λ (b : Binding). list_any (bound_named name) b.bound) bound_is ∙ named_bound name g g.rules ∙ ap (list_any (is_named name)) (rules_now p j c)) are
kept_after p j c (Some x) bound kept brings bound_is are =
    let b = brought p c (Some x) x refl brings in
    subst (λ (q : Properties). AreKept p.catalog (put_kept (q.name, x.source) kept) (rules_after p (now p j) c)) (sym b.is_of.properties_are)
    (subst (AreKept p.catalog (put_kept (b.rule.properties.name, x.source) kept)) (sym ((makes_active p c b.rule b.becomes).rules_are (now p j)))
    (kept_put p.catalog b.rule x.source kept (now p j).rules b.is_of.rule_is are))

-- the rule that was put in is found by its name
find_put : (new : Active) (rules : List Active) → find (is_named new.properties.name) (put new rules) ≡ Some new
find_put new [] = let own : is_named new.properties.name new ≡ true = same_name_of new.properties.name new.properties.name refl in rw own refl
find_put new (r ∷ rules) =
    let own : is_named new.properties.name new ≡ true = same_name_of new.properties.name new.properties.name refl in
    elim (cases_Bool (is_named new.properties.name r)) [
      | inl is ↦ rw (is, own) refl
      | inr isnt ↦ rw (isnt, isnt) (find_put new rules)
    ]

-- the bearer in the answer is that of the rule that was made active
bearer_data_of : (p : Setting) (g : Generation) (c : Command) (r : Active) → activated p c ≡ Some r → (after : Generation) → after.rules ≡ put r g.rules →
    bearer_named after c ≡ Some (record { 0 = after.id_of r.properties.qos })
bearer_data_of p g (Install d) r is after rules =
    let same : dynamic d ≡ r = cc in
    ap (bearer_of after) (ap (find (is_named d.properties.name)) (rules ∙ ap (λ (x : Active). put x g.rules) (sym same)) ∙ find_put (dynamic d) g.rules)
    ∙ ap (λ (x : Active). Some (record { 0 = after.id_of x.properties.qos })) same
bearer_data_of p g (Activate name) r is after rules =
    let named : r.properties.name ≡ name = name_activated p name r is in
    ap (bearer_of after) (ap (λ (n : List ℕ). find (is_named n) after.rules) (sym named) ∙ ap (find (is_named r.properties.name)) rules ∙ find_put r g.rules)
bearer_data_of p g (Remove name) r is after rules = absurd cc
bearer_data_of p g (Monitor key amount level) r is after rules = absurd cc
bearer_data_of p g (Stop key) r is after rules = absurd cc
bearer_data_of p g (ReportNow key) r is after rules = absurd cc
bearer_data_of p g (Triggers set) r is after rules = absurd cc
bearer_data_of p g (Notice kind value) r is after rules = absurd cc
bearer_data_of p g (LoseBearer id) r is after rules = absurd cc
bearer_data_of p g Close r is after rules = absurd cc
bearer_data_of p g Terminate r is after rules = absurd cc

bound_after : (p : Setting) (j : Journal) (c : Command) (x : Option Activation) (new : Binding) (bearer : Option BearerId) → Lawful p j → first_of (refusals p j c) ≡ None →
    Activates p (activated p c) x → IsRebound x c (binding_of p (now p j)) new bearer → (new ≡ binding_of p (now p (entry.Command c ∷ j))) × (bearer ≡ bearer_named (now p (entry.Command c ∷ j)) c)
bound_after p j c None new bearer lawful accepted brings rebound =
    let none = brought_none p c None refl brings in
    (rebound.1 ∙ bound_left p j c none (lawful_bound p j lawful), rebound.0 ∙ sym (names_none p j c (now p (entry.Command c ∷ j)) accepted none))
bound_after p j c (Some x) new None lawful accepted brings rebound = absurd rebound
bound_after p j c (Some x) new (Some id) lawful accepted brings rebound =
    let g : Generation = now p j in
    let b = brought p c (Some x) x refl brings in
    let makes = makes_active p c b.rule b.becomes in
    let bound = lawful_bound p j lawful in
    let is : IsBoundTo b.rule.properties (binding_of p g) new id = subst (λ (q : Properties). IsBoundTo q (binding_of p g) new id) b.is_of.properties_are rebound in
    let gets : (next p g c).id_of b.rule.properties.qos ≡ id.0 = next_id p g c b.rule id.0 makes bound is.bearer_is in
    let after : next p g c ≡ now p (entry.Command c ∷ j) = sym (now_after_table p j c makes.is_table) in (
      is.binding_is ∙ sym (next_put p g c b.rule id.0 makes bound is.bearer_is) ∙ ap (binding_of p) after,
      sym (bearer_data_of p g c b.rule b.becomes (next p g c) (makes.rules_are g) ∙ ap (λ (n : ℕ). Some (record { 0 = n })) gets) ∙ ap (λ (h : Generation). bearer_named h c) after,
    )

-- ---- keys
pub all_agree : (p : Setting) (j : Journal) (states : List KeyState) → AllCount p j [] states → AllOn p j states → AllByRecursion (λ s. s.level ≡ level_of (now p j) s.key) states →
    AllByRecursion (KeyAgrees p j) states
unfolding AllCount AllOn
all_agree p j [] counts on levels = tt
all_agree p j (s ∷ states) counts on levels = (
  record { level_is = levels.0; on_is = on.0.on_is; grant_is = counts.0.grant_is; reported_is = counts.0.reported_is; counted_is = counts.0.counted_is },
  all_agree p j states counts.1 on.1 levels.1,
)

-- the counters after a command, and the journal after it
abbrev pub left_by : Bool → List PendingReport → List KeyState → List KeyState
left_by b ts states = after_reports (threshold_reports b (after_reports ts (states_stopped ts states))) (settled_states b (after_reports ts (states_stopped ts states)))

-- they keep their levels
pub levels_left : (b : Bool) (ts : List PendingReport) (states : List KeyState) → levels_of (left_by b ts states) ≡ levels_of states
levels_left b ts states =
    let told : List KeyState = after_reports ts (states_stopped ts states) in
    levels_told (threshold_reports b told) (settled_states b told) ∙ levels_settled b told ∙ levels_told ts (states_stopped ts states) ∙ levels_stopped ts states

abbrev pub told_by : Bool → List PendingReport → List KeyState → Journal → Journal
told_by b ts states j =
    appended (threshold_reports b (after_reports ts (states_stopped ts states))) (settled_states b (after_reports ts (states_stopped ts states))) (appended ts (states_stopped ts states) j)

ended_command : (p : Setting) (j : Journal) (c : Command) (parts : Parts) → Agrees p j parts → Asks p j c →
    Ended p (entry.Command c ∷ j) (plan p j c) (states_stopped (plan p j c) (entered p c parts.keys)) (told_by (subscribed_by c parts.triggers).usage_report (plan p j c) (entered p c parts.keys) (entry.Command c ∷ j))
    (left_by (subscribed_by c parts.triggers).usage_report (plan p j c) (entered p c parts.keys))
ended_command p j c parts agrees asks =
    let exact = lawful_exact p j agrees.lawful in
    command_ended p j c parts.keys (subscribed_by c parts.triggers).usage_report agrees.keys_are (all_count_from p j parts.keys agrees.usage_is) (all_on_from p j parts.keys agrees.usage_is) exact.known exact.exact asks
    (ap (λ (t : TriggerSet). t.usage_report) (ap (subscribed_by c) agrees.triggers_are ∙ sym (subscribed_after j c)))

-- the levels of its keys, after it
levels_commanded : (p : Setting) (j : Journal) (c : Command) (parts : Parts) (b : Bool) → Agrees p j parts → first_of (refusals p j c) ≡ None →
    keys_of (left_by b (plan p j c) (entered p c parts.keys)) ≡ slots p (entry.Command c ∷ j) →
    AllByRecursion (λ s. s.level ≡ level_of (now p (entry.Command c ∷ j)) s.key) (left_by b (plan p j c) (entered p c parts.keys))
levels_commanded p j c parts b agrees accepted keys =
    let states : List KeyState = parts.keys in
    let g : Generation = now p (entry.Command c ∷ j) in
    let before : levels_of states ≡ map (level_of (now p j)) (keys_of states) = levels_from (now p j) states (all_levels_from p j states agrees.usage_is) in
    let after : levels_of (entered p c states) ≡ map (level_of g) (keys_of (with_slot (key_named p c) (level_named c) states)) = levels_entered p j c states accepted agrees.keys_are before in
    let named : keys_of (with_slot (key_named p c) (level_named c) states) ≡ slots p (entry.Command c ∷ j) = keys_slotted p j c states agrees.keys_are in
    all_levels g (left_by b (plan p j c) (entered p c states))
    (levels_left b (plan p j c) (entered p c states) ∙ after ∙ ap (map (level_of g)) (named ∙ sym keys))

-- ---- all parts
pub record IsCommanded (p : Setting) (j : Journal) (c : Command) (x : Option Activation) (old new : Parts) (bearer : Option BearerId) : Type 0 where
  pub accepted : first_of (refusals p j c) ≡ None
  pub changing : changes p j c ≡ true
  pub brings : Activates p (activated p c) x
  pub rules_are : new.rules ≡ active_after x c new.binding old.rules
  pub rebound : IsRebound x c old.binding new.binding bearer
  pub keys_are : new.keys ≡ left_by (subscribed_by c old.triggers).usage_report (plan p j c) (entered_by (rule_key x) c old.keys)
  pub triggers_are : new.triggers ≡ subscribed_by c old.triggers
  pub shows : Shows p (after_command p j c) (gen (after_command p j c)) new.table

pub journal_commanded : (p : Setting) (j : Journal) (c : Command) (x : Option Activation) (parts : Parts) (after : Journal) → Agrees p j parts → first_of (refusals p j c) ≡ None → Activates p (activated p c) x →
    after ≡ told_by (subscribed_by c parts.triggers).usage_report (plan p j c) (entered_by (rule_key x) c parts.keys) (entry.Command c ∷ j) → after ≡ after_command p j c
unfolding after_command
journal_commanded p j c x parts after agrees accepted brings is =
    is ∙ ap (λ (states : List KeyState). told_by (subscribed_by c parts.triggers).usage_report (plan p j c) states (entry.Command c ∷ j)) (entering p c x parts.keys brings)
    ∙ (ended_command p j c parts agrees (asks_known p j c accepted)).journal_is

-- the bearers after it, and the one in the answer
rebound_now : (p : Setting) (j : Journal) (c : Command) (x : Option Activation) (old new : Parts) (bearer : Option BearerId) → Agrees p j old → IsCommanded p j c x old new bearer →
    (new.binding ≡ binding_of p (now p (entry.Command c ∷ j))) × (bearer ≡ bearer_named (now p (entry.Command c ∷ j)) c)
rebound_now p j c x old new bearer agrees is =
    bound_after p j c x new.binding bearer agrees.lawful is.accepted is.brings (subst (λ (b : Binding). IsRebound x c b new.binding bearer) agrees.binding_is is.rebound)

pub agrees_commanded : (p : Setting) (j : Journal) (c : Command) (x : Option Activation) (old new : Parts) (bearer : Option BearerId) → Agrees p j old → IsCommanded p j c x old new bearer →
    Agrees p (after_command p j c) new
agrees_commanded p j c x old new bearer agrees is =
    let ended = ended_command p j c old agrees (asks_known p j c is.accepted) in
    let after : Journal = after_command p j c in
    let enters = entering p c x old.keys is.brings in
    let journal : told_by (subscribed_by c old.triggers).usage_report (plan p j c) (entered p c old.keys) (entry.Command c ∷ j) ≡ after =
    ap (λ (states : List KeyState). told_by (subscribed_by c old.triggers).usage_report (plan p j c) states (entry.Command c ∷ j)) (sym enters) ∙
    journal_commanded p j c x old (told_by (subscribed_by c old.triggers).usage_report (plan p j c) (entered_by (rule_key x) c old.keys) (entry.Command c ∷ j)) agrees is.accepted is.brings refl in
    let keys : new.keys ≡ left_by (subscribed_by c old.triggers).usage_report (plan p j c) (entered p c old.keys) =
    is.keys_are ∙ ap (left_by (subscribed_by c old.triggers).usage_report (plan p j c)) enters in
    let told : now p (told_by (subscribed_by c old.triggers).usage_report (plan p j c) (entered p c old.keys) (entry.Command c ∷ j)) ≡ now p (entry.Command c ∷ j) =
    ap (now p) journal ∙ now_after p j c in
    let levels : AllByRecursion (λ (s : KeyState). s.level ≡ level_of (now p (told_by (subscribed_by c old.triggers).usage_report (plan p j c) (entered p c old.keys) (entry.Command c ∷ j))) s.key)
    (left_by (subscribed_by c old.triggers).usage_report (plan p j c) (entered p c old.keys)) =
    subst (λ (g : Generation). AllByRecursion (λ (s : KeyState). s.level ≡ level_of g s.key) (left_by (subscribed_by c old.triggers).usage_report (plan p j c) (entered p c old.keys))) (sym told)
    (levels_commanded p j c old (subscribed_by c old.triggers).usage_report agrees is.accepted (ended.keys_are ∙ ap (slots p) journal ∙ slots_after p j c)) in
    record {
      lawful = by_command j c agrees.lawful is.accepted is.changing;
      rules_are = subst (λ (rules : List Active). AreKept p.catalog new.rules rules) (sym (rules_then p j c))
          (subst (λ (kept : List NamedSource). AreKept p.catalog kept (rules_after p (now p j) c)) (sym is.rules_are) (kept_after p j c x new.binding old.rules is.brings (rebound_now p j c x old new bearer agrees is).0 agrees.rules_are));
      binding_is = (rebound_now p j c x old new bearer agrees is).0 ∙ ap (binding_of p) (sym (now_after p j c));
      keys_are = ap keys_of keys ∙ ended.keys_are ∙ ap (slots p) journal;
      usage_is = subst (AllByRecursion (KeyAgrees p after)) (sym keys)
          (subst (λ (k : Journal). AllByRecursion (KeyAgrees p k) (left_by (subscribed_by c old.triggers).usage_report (plan p j c) (entered p c old.keys))) journal
          (all_agree p (told_by (subscribed_by c old.triggers).usage_report (plan p j c) (entered p c old.keys) (entry.Command c ∷ j)) (left_by (subscribed_by c old.triggers).usage_report (plan p j c) (entered p c old.keys)) ended.counts ended.on levels));
      triggers_are = is.triggers_are ∙ ap (subscribed_by c) agrees.triggers_are ∙ sym (subscribed_after_command p j c);
      table_shows = is.shows;
    }

pub bearer_commanded : (p : Setting) (j : Journal) (c : Command) (x : Option Activation) (old new : Parts) (bearer : Option BearerId) → Agrees p j old → IsCommanded p j c x old new bearer →
    bearer ≡ bearer_named (now p (after_command p j c)) c
bearer_commanded p j c x old new bearer agrees is =
    (rebound_now p j c x old new bearer agrees is).1 ∙ ap (λ (g : Generation). bearer_named g c) (sym (now_after p j c))

-- ---- what stays
pub commands_told : (p : Setting) (ts : List PendingReport) (j : Journal) → commands (with_reports p ts j) ≡ commands j
unfolding with_reports
commands_told p [] j = refl
commands_told p (t ∷ ts) j = commands_told p ts (entry.Report (record { number = report_count j; body = body_of p j t }) ∷ j)

pub commands_after : (p : Setting) (j : Journal) (c : Command) → commands (after_command p j c) ≡ c ∷ commands j
unfolding after_command
commands_after p j c =
    commands_told p (thresholds p (with_reports p (plan p j c) (entry.Command c ∷ j))) (with_reports p (plan p j c) (entry.Command c ∷ j)) ∙ commands_told p (plan p j c) (entry.Command c ∷ j)

pub few_keys_after : (p : Setting) (j : Journal) (c : Command) (keys : List KeyState) (states : List KeyState) → keys_of states ≡ slots p j → keys_of keys ≡ slots p (after_command p j c) →
    finds_no_place (key_named p c) states ≡ false → length states ≤ 8 → length keys ≤ 8
few_keys_after p j c keys states before after finds few =
    let entered_keys = keys_entered p j c states before in
    let same : length (keys_of keys) ≡ length (keys_of (entered p c states)) = ap length (after ∙ slots_after p j c ∙ sym entered_keys) in
    let fits = few_entered p c states finds few in
    omega (arith, same, fits, length-map keys (λ s. s.key), length-map (entered p c states) (λ s. s.key))

-- ---- the answer
abbrev accepted_of : ℕ → Option BearerId → ℕ → ℕ → Bool → Accepted
accepted_of generation bearer first past unchanged = record { generation = generation; bearer = bearer; first_report = first; past_last_report = past; unchanged = unchanged }

accepted_is : (g g2 : ℕ) (r r2 : Option BearerId) (f f2 l l2 : ℕ) (u u2 : Bool) → g ≡ g2 → r ≡ r2 → f ≡ f2 → l ≡ l2 → u ≡ u2 → accepted_of g r f l u ≡ accepted_of g2 r2 f2 l2 u2
accepted_is g g2 r r2 f f2 l l2 u u2 a b c d e = rw (a, b, c, d, e) refl

pub outcome_commanded : (p : Setting) (j : Journal) (c : Command) (a : Accepted) (after : Journal) → first_of (refusals p j c) ≡ None → changes p j c ≡ true → after ≡ after_command p j c →
    a.generation ≡ gen after → a.bearer ≡ bearer_named (now p after) c → a.first_report ≡ report_count j → a.past_last_report ≡ report_count after → a.unchanged ≡ false →
    Gives (command_outcome p j c) (Ok a) after
unfolding command_outcome
outcome_commanded p j c a after accepted changing is generation bearer first past unchanged =
    rw (accepted, changing) (
      ap (λ (b : Accepted). Ok b)
          (accepted_is a.generation (gen (after_command p j c)) a.bearer (bearer_named (now p (after_command p j c)) c) a.first_report (report_count j)
          a.past_last_report (report_count (after_command p j c)) a.unchanged false (generation ∙ ap gen is) (bearer ∙ ap (λ (k : Journal). bearer_named (now p k) c) is) first (past ∙ ap report_count is) unchanged),
      is,
    )

-- an Activate of an active rule
pub outcome_idle : (p : Setting) (j : Journal) (name : List ℕ) (a : Accepted) → first_of (refusals p j (Activate name)) ≡ None → is_active p j name ≡ true → a.generation ≡ gen j → a.bearer ≡ bearer_named (now p j) (Activate name) →
    a.first_report ≡ report_count j → a.past_last_report ≡ report_count j → a.unchanged ≡ true → Gives (command_outcome p j (Activate name)) (Ok a) j
unfolding command_outcome
outcome_idle p j name a accepted active generation bearer first past unchanged =
    rw (accepted, active) (
      ap (λ (b : Accepted). Ok b)
          (accepted_is a.generation (gen j) a.bearer (bearer_named (now p j) (Activate name)) a.first_report (report_count j) a.past_last_report (report_count j) a.unchanged true generation bearer first past unchanged),
      refl,
    )

-- a command that is refused
pub does_refused : (p : Setting) (j : Journal) (c : Command) (r : Refusal) → IsRefused p j c r → CommandStep p c j (Err r) j
unfolding command_outcome
does_refused p j c r refused =
    elim refused [
      | inl first ↦ inl (rw first (refl, refl))
      | inr wanting ↦ inr (wanting.0, (ap (λ x. Err x) wanting.1, refl))
    ]
