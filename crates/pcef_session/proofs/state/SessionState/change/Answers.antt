use Rattle.std.proofs.Common.{◌≡◌, ◌∙◌, ◌≤◌, ℕ, ap, sym, subst, refl, arith, length, List, ◌∷◌, Ok, false}
use Rattle.std.specs.Prelude.{Option, unwrap_or}
use Rattle.std.specs.Arc.{arc_value}
use Rattle.pcef_model.specs.declared.entry.Entry.TheVariants as entry
use Rattle.pcef_model.specs.declared.pending_report.PendingReport.{PendingReport}
use Rattle.pcef_model.specs.Entries.{Journal}
use Rattle.pcef_model.specs.Journals.{attached, gen, now, report_count, slots}
use Rattle.pcef_model.specs.Reports.{after_command, plan}
use Rattle.std.specs.Option.{option_map}
use Rattle.pcef_model.specs.declared.entry.Entry.TheVariants as entry
use Rattle.pcef_table.specs.Tables.{TableValue}
use Rattle.pcef_usage.specs.declared.usage.KeyState.{KeyState}
use Rattle.pcef_model.specs.declared.trigger.TriggerSet.{TriggerSet}
use Rattle.pcef_usage.specs.Commands.{subscribed_by}
use Rattle.pcef_usage.specs.Keys.{HasPlaceFor, finds_no_place, keys_of}
use Rattle.pcef_usage.specs.PendingReports.{KnowsAll}
use Rattle.pcef_usage.proofs.Commanded.{keys_entered}
use Rattle.pcef_usage.proofs.Planned.{knows_plan}
use Rattle.pcef_model.specs.declared.answer.Accepted.{Accepted}
use Rattle.pcef_model.specs.Outcomes.{Gives, bearer_named, command_outcome}
use Rattle.pcef_session.specs.private.Parts.{Parts}
use Rattle.pcef_session.specs.private.Changes.{CanBind, entered_by, key_of, rule_key}
use Rattle.pcef_session.specs.SessionModel.{SessionModel}
use Rattle.pcef_session.specs.Shown.{Shows}
use Rattle.pcef_session.specs.private.Soundness.{parts_of, model_of}
use Rattle.pcef_model.specs.ProfileModel.{setting_of}
use Rattle.pcef_model.specs.Commands.{key_named}
use Rattle.pcef_session.proofs.Activations.{served_key}
use Rattle.pcef_session.proofs.Acceptance.{asks_known, can_bind, served_slot}
use Rattle.pcef_session.proofs.CommandAgrees.{IsCommanded, bearer_commanded, entering, journal_commanded, left_by, outcome_commanded, told_by}
use Rattle.pcef_session.proofs.InvariantKept.{few_entered_by, sound_commanded}
use Rattle.pcef_session.proofs.state.SessionState.change.Goals as goal
use Rattle.pcef_bearer.specs.Bindings.{Binding}
use Rattle.pcef_session.specs.Preparing.{HasPlacesFor, IsBearerFor, IsReady}
use Rattle.pcef_session.proofs.NextTables.{table_after}

pub change_rules-requires-clause-can : goal.change_rules-requires-clause-can
change_rules-requires-clause-can c =
    let s = c.self.inside in
    let p = setting_of s.profile s.listing in
    let ready : IsReady (model_of s) c.args.change = subst (λ (v : SessionModel). IsReady v c.args.change) (sym c.self.view_is) c.requires in
    subst (CanBind c.args.change.rule) (sym c.self.invariant.agrees.binding_is) (can_bind p s.counted.journal c.args.change.command c.args.change.rule ready.accepted ready.changing ready.rule)

pub change_rules-requires-clause-gets : goal.change_rules-requires-clause-gets
change_rules-requires-clause-gets c =
    let s = c.self.inside in
    let ready : IsReady (model_of s) c.args.change = subst (λ (v : SessionModel). IsReady v c.args.change) (sym c.self.view_is) c.requires in
    subst (λ (b : Binding). IsBearerFor b c.args.change.rule c.args.change.bearer) (sym c.self.invariant.agrees.binding_is) ready.bearer

pub change_rules-requires-clause-places : goal.change_rules-requires-clause-places
change_rules-requires-clause-places c =
    let s = c.self.inside in
    let ready : IsReady (model_of s) c.args.change = subst (λ (v : SessionModel). IsReady v c.args.change) (sym c.self.view_is) c.requires in
    subst (λ (b : Binding). HasPlacesFor b c.args.change.rule c.args.change.places) (sym c.self.invariant.agrees.binding_is) ready.places

pub enter-requires-clause-slot : goal.enter-requires-clause-slot
enter-requires-clause-slot c =
    let s = c.self.inside in
    let ready : IsReady (model_of s) c.args.change = subst (λ (v : SessionModel). IsReady v c.args.change) (sym c.self.view_is) c.requires in
    let p = setting_of s.profile s.listing in
    let key : key_of c.rule_key-key.result c.args.change.command ≡ key_named p c.args.change.command =
    ap (λ (k : Option (List ℕ)). key_of k c.args.change.command) (c.rule_key-key.ensures ∙ ap rule_key c.as_ref.ensures.value) ∙ sym (served_key p c.args.change.command c.args.change.rule ready.rule) in
    ap (λ (k : Option (List ℕ)). finds_no_place k s.counted.states) key
    ∙ served_slot p s.counted.journal c.args.change.command s.counted.states c.self.invariant.agrees.keys_are ready.accepted ready.changing

pub enter-requires-clause-places : goal.enter-requires-clause-places
enter-requires-clause-places c =
    let s = c.self.inside in
    let ready : IsReady (model_of s) c.args.change = subst (λ (v : SessionModel). IsReady v c.args.change) (sym c.self.view_is) c.requires in
    let p = setting_of s.profile s.listing in
    let key : key_named p c.args.change.command ≡ key_of c.rule_key-key.result c.args.change.command =
    served_key p c.args.change.command c.args.change.rule ready.rule ∙ sym (ap (λ (k : Option (List ℕ)). key_of k c.args.change.command) (c.rule_key-key.ensures ∙ ap rule_key c.as_ref.ensures.value)) in
    subst (λ (k : Option (List ℕ)). HasPlaceFor k c.args.change.key_places (keys_of s.counted.states)) key
    (subst (λ (ks : List (List ℕ)). HasPlaceFor (key_named p c.args.change.command) c.args.change.key_places ks) (sym c.self.invariant.agrees.keys_are) ready.key_places)

pub report_all-requires-clause-known : goal.report_all-requires-clause-known
report_all-requires-clause-known c =
    let s = c.self.inside in
    let p = setting_of s.profile s.listing in
    let j = s.counted.journal in
    let command = c.args.change.command in
    let ready : IsReady (model_of s) c.args.change = subst (λ (v : SessionModel). IsReady v c.args.change) (sym c.self.view_is) c.requires in
    let entered : c.enter.new.counted.states ≡ entered_by (rule_key c.args.change.rule) command s.counted.states =
    c.enter.ensures.states ∙ ap (λ (k : Option (List ℕ)). entered_by k command s.counted.states) (c.rule_key-key.ensures ∙ ap rule_key c.as_ref.ensures.value) in
    let keys : keys_of c.enter.new.counted.states ≡ slots p (entry.Command command ∷ j) =
    ap keys_of (entered ∙ entering p command c.args.change.rule s.counted.states ready.rule) ∙ keys_entered p j command s.counted.states c.self.invariant.agrees.keys_are in
    subst (λ (ts : List PendingReport). KnowsAll (keys_of c.enter.new.counted.states) ts) (sym (c.deref.ensures.value ∙ ready.plan_is))
    (subst (λ (ks : List (List ℕ)). KnowsAll ks (plan p j command)) (sym keys) (knows_plan p j command (asks_known p j command ready.accepted)))

pub report_all-requires-clause-room : goal.report_all-requires-clause-room
report_all-requires-clause-room c =
    let s = c.self.inside in
    let p = setting_of s.profile s.listing in
    let ready : IsReady (model_of s) c.args.change = subst (λ (v : SessionModel). IsReady v c.args.change) (sym c.self.view_is) c.requires in
    let command = c.args.change.command in
    let entered : c.enter.new.counted.states ≡ entered_by (rule_key c.args.change.rule) command s.counted.states =
    c.enter.ensures.states ∙ ap (λ (k : Option (List ℕ)). entered_by k command s.counted.states) (c.rule_key-key.ensures ∙ ap rule_key c.as_ref.ensures.value) in
    let few : length (entered_by (rule_key c.args.change.rule) command s.counted.states) ≤ 8 =
    few_entered_by p s.counted.journal command c.args.change.rule s.counted.states c.self.invariant.agrees.keys_are ready.accepted ready.changing ready.rule c.self.invariant.small.few_keys in
    let same : length c.enter.new.counted.states ≡ length (entered_by (rule_key c.args.change.rule) command s.counted.states) = ap (λ (states : List KeyState). length states) entered in
    let reports : length c.deref.result.now ≡ length c.args.change.reports.items = ap (λ (ts : List PendingReport). length ts) c.deref.ensures.value in
    omega (arith, few, same, reports, ready.has_room, c.enter.ensures.room)

pub invariant_of-self : goal.invariant_of-self
invariant_of-self c =
    let s = c.self.inside in
    let p = setting_of s.profile s.listing in
    let j = s.counted.journal in
    let command = c.args.change.command in
    let ready : IsReady (model_of s) c.args.change = subst (λ (v : SessionModel). IsReady v c.args.change) (sym c.self.view_is) c.requires in
    let b = (subscribed_by command s.subscribed).usage_report in
    let triggers : c.subscribed_by-self-inside.result ≡ subscribed_by command s.subscribed = c.subscribed_by-self-inside.ensures in
    let table : arc_value c.keep_table.new.held ≡ unwrap_or (option_map (λ t. arc_value t) c.args.change.table) (arc_value s.newest) = c.keep_table.ensures in
    let planned : c.deref.result.now ≡ plan p j command = c.deref.ensures.value ∙ ready.plan_is in
    let entered : c.enter.new.counted.states ≡ entered_by (rule_key c.args.change.rule) command s.counted.states =
    c.enter.ensures.states ∙ ap (λ (k : Option (List ℕ)). entered_by k command s.counted.states) (c.rule_key-key.ensures ∙ ap rule_key c.as_ref.ensures.value) in
    let journal : c.report_all.new.counted.journal ≡ told_by b (plan p j command) (entered_by (rule_key c.args.change.rule) command s.counted.states) (entry.Command command ∷ j) =
    c.report_all.ensures.journal ∙ ap (λ (t : TriggerSet). told_by t.usage_report c.deref.result.now c.enter.new.counted.states c.enter.new.counted.journal) triggers ∙
    ap (λ (ts : List PendingReport). told_by b ts c.enter.new.counted.states c.enter.new.counted.journal) planned ∙
    ap (λ (states : List KeyState). told_by b (plan p j command) states c.enter.new.counted.journal) entered ∙
    ap (told_by b (plan p j command) (entered_by (rule_key c.args.change.rule) command s.counted.states)) c.enter.ensures.journal in
    let few : length (entered_by (rule_key c.args.change.rule) command s.counted.states) ≤ 8 =
    few_entered_by p s.counted.journal command c.args.change.rule s.counted.states c.self.invariant.agrees.keys_are ready.accepted ready.changing ready.rule c.self.invariant.small.few_keys in
    let states : length c.enter.new.counted.states ≡ length (entered_by (rule_key c.args.change.rule) command s.counted.states) = ap (λ (states : List KeyState). length states) entered in
    let reports : length c.deref.result.now ≡ length c.args.change.reports.items = ap (λ (ts : List PendingReport). length ts) c.deref.ensures.value in
    let room : length (attached j) ≤ c.report_all.new.counted.room = omega (arith, few, states, reports, ready.has_room, c.enter.ensures.room, c.report_all.ensures.room) in
    sound_commanded s _ command c.args.change.rule c.args.change.bearer c.self.invariant
    (record {
      accepted = ready.accepted;
      changing = ready.changing;
      brings = ready.rule;
      rules_are = c.change_rules.ensures.active;
      rebound = c.change_rules.ensures.bearers;
      keys_are = c.report_all.ensures.states ∙ ap (λ (t : TriggerSet). left_by t.usage_report c.deref.result.now c.enter.new.counted.states) triggers ∙ ap (λ (ts : List PendingReport). left_by b ts c.enter.new.counted.states) planned ∙ ap (left_by b (plan p j command)) entered;
      triggers_are = triggers;
      shows = subst (Shows p (after_command p j command) (gen (after_command p j command))) (sym table) (table_after p j command (arc_value s.newest) (option_map (λ t. arc_value t) c.args.change.table) c.self.invariant.agrees.table_shows ready.table);
    })
    refl refl refl c.closed_by-self-inside.ensures c.terminated_by-self-inside.ensures room (journal_commanded p j command c.args.change.rule (parts_of s) c.report_all.new.counted.journal c.self.invariant.agrees ready.accepted ready.rule journal)

pub returns-clause-answer : goal.returns-clause-answer
returns-clause-answer c =
    let s = c.self.inside in
    let p = setting_of s.profile s.listing in
    let j = s.counted.journal in
    let command = c.args.change.command in
    let ready : IsReady (model_of s) c.args.change = subst (λ (v : SessionModel). IsReady v c.args.change) (sym c.self.view_is) c.requires in
    let b = (subscribed_by command s.subscribed).usage_report in
    let triggers : c.subscribed_by-self-inside.result ≡ subscribed_by command s.subscribed = c.subscribed_by-self-inside.ensures in
    let table : arc_value c.keep_table.new.held ≡ unwrap_or (option_map (λ t. arc_value t) c.args.change.table) (arc_value s.newest) = c.keep_table.ensures in
    let planned : c.deref.result.now ≡ plan p j command = c.deref.ensures.value ∙ ready.plan_is in
    let entered : c.enter.new.counted.states ≡ entered_by (rule_key c.args.change.rule) command s.counted.states =
    c.enter.ensures.states ∙ ap (λ (k : Option (List ℕ)). entered_by k command s.counted.states) (c.rule_key-key.ensures ∙ ap rule_key c.as_ref.ensures.value) in
    let journal : c.report_all.new.counted.journal ≡ told_by b (plan p j command) (entered_by (rule_key c.args.change.rule) command s.counted.states) (entry.Command command ∷ j) =
    c.report_all.ensures.journal ∙ ap (λ (t : TriggerSet). told_by t.usage_report c.deref.result.now c.enter.new.counted.states c.enter.new.counted.journal) triggers ∙
    ap (λ (ts : List PendingReport). told_by b ts c.enter.new.counted.states c.enter.new.counted.journal) planned ∙
    ap (λ (states : List KeyState). told_by b (plan p j command) states c.enter.new.counted.journal) entered ∙
    ap (told_by b (plan p j command) (entered_by (rule_key c.args.change.rule) command s.counted.states)) c.enter.ensures.journal in
    let after : c.report_all.new.counted.journal ≡ after_command p j command = journal_commanded p j command c.args.change.rule (parts_of s) c.report_all.new.counted.journal c.self.invariant.agrees ready.accepted ready.rule journal in
    let parts : Parts = record {
      rules = c.change_rules.new.active.rules;
      binding = c.change_rules.new.bearers;
      keys = c.report_all.new.counted.states;
      triggers = c.subscribed_by-self-inside.result;
      table = arc_value c.keep_table.new.held;
    } in
    let is : IsCommanded p j command c.args.change.rule (parts_of s) parts c.args.change.bearer = record {
      accepted = ready.accepted;
      changing = ready.changing;
      brings = ready.rule;
      rules_are = c.change_rules.ensures.active;
      rebound = c.change_rules.ensures.bearers;
      keys_are = c.report_all.ensures.states ∙ ap (λ (t : TriggerSet). left_by t.usage_report c.deref.result.now c.enter.new.counted.states) triggers ∙ ap (λ (ts : List PendingReport). left_by b ts c.enter.new.counted.states) planned ∙ ap (left_by b (plan p j command)) entered;
      triggers_are = triggers;
      shows = subst (Shows p (after_command p j command) (gen (after_command p j command))) (sym table) (table_after p j command (arc_value s.newest) (option_map (λ t. arc_value t) c.args.change.table) c.self.invariant.agrees.table_shows ready.table);
    } in
    let a : Accepted = record { generation = c.generation.result; bearer = c.args.change.bearer; first_report = c.reports_len-first_report.result; past_last_report = c.reports_len.result; unchanged = false } in
    let given : Gives (command_outcome p j command) (Ok a) c.report_all.new.counted.journal =
    outcome_commanded p j command a c.report_all.new.counted.journal ready.accepted ready.changing after
    (c.generation.ensures ∙ ap (λ (t : TableValue). t.number) (c.deref-2.ensures ∙ table) ∙ (table_after p j command (arc_value s.newest) (option_map (λ t. arc_value t) c.args.change.table) c.self.invariant.agrees.table_shows ready.table).number_is ∙ sym (ap gen after))
    (bearer_commanded p j command c.args.change.rule (parts_of s) parts c.args.change.bearer c.self.invariant.agrees is ∙ ap (λ (k : Journal). bearer_named (now p k) command) (sym after))
    (c.reports_len-first_report.ensures ∙ ap report_count c.journal.ensures.entries) (c.reports_len.ensures ∙ ap report_count c.journal-2.ensures.entries) refl in
    subst (λ (v : SessionModel). Gives (command_outcome v.setting v.journal command) (Ok a) c.report_all.new.counted.journal) c.self.view_is given
