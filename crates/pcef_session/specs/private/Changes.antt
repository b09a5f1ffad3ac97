-- What a command makes of the keys and rules that a session keeps, and of their bearers.
use Rattle.std.specs.Prelude.{[], map}
use Rattle.pcef_bearer.specs.Bindings.{rules_on}
use Rattle.pcef_bearer.specs.declared.bearers.Bound.{Bound}
use Rattle.pcef_model.specs.declared.command.Command.TheVariants.{Close, LoseBearer, Remove, Terminate}
use Rattle.pcef_model.specs.declared.pending_report.PendingReport.{PendingReport}
use Rattle.pcef_model.specs.declared.pending_report.PendingReport.TheVariants.{Inactive}
use Rattle.pcef_model.specs.Reports.{in_order}
use Rattle.std.specs.Prelude.{ℕ, ◌≡◌, List, Option, Some, None, Bool, filter, not}
use Rattle.pcef_rule.specs.declared.quantity.BearerId.{BearerId}
use Rattle.pcef_rule.specs.declared.rule.Properties.{Properties}
use Rattle.pcef_bearer.specs.Bindings.{Binding, bound_at}
use Rattle.pcef_bearer.specs.BindingSteps.{HasRoom, id_excluding, with_bound, binding_refusals, with_rules, without_bound}
use Rattle.pcef_model.specs.Refusals.{first_of}
use Rattle.pcef_model.specs.declared.command.Command.{Command}
use Rattle.pcef_model.specs.declared.command.Command.TheVariants.{Monitor}
use Rattle.pcef_active.specs.ByName.{NamedSource, is_still_bound, put_kept, without_kept}
use Rattle.pcef_usage.specs.declared.usage.KeyState.{KeyState}
use Rattle.pcef_model.specs.Entries.{Journal}
use Rattle.pcef_usage.specs.Counted.{Counted}
use Rattle.pcef_usage.specs.Commands.{started_by}
use Rattle.pcef_usage.specs.PendingReports.{appended, states_stopped, after_reports, after_thresholds, thresholds_told}
use Rattle.pcef_usage.specs.Keys.{with_slot}
use Rattle.pcef_session.specs.declared.prepared.Activation.{Activation}
use Rattle.pcef_model.specs.Commands.{level_named, takes_away}

-- ---- keys
-- the key of the rule that becomes active
abbrev pub rule_key : Option Activation → Option (List ℕ)
rule_key None = None
rule_key (Some x) = x.properties.key

-- the key that a command names, where the rule that becomes active has this one
abbrev pub key_of : Option (List ℕ) → Command → Option (List ℕ)
key_of of_rule (Monitor key grant level) = Some key
key_of of_rule _ = of_rule

-- the counters when a command is given: the key that it names has a slot, and that of a Monitor is
-- started
abbrev pub entered_by : Option (List ℕ) → Command → List KeyState → List KeyState
entered_by of_rule c states = started_by c (with_slot (key_of of_rule c) (level_named c) states)

-- ---- rules
-- the active rules by name that a command leaves, once the rules that it takes away aren't bound any more
abbrev pub still_active : Command → Binding → List NamedSource → List NamedSource
still_active (Remove name) bound active = without_kept name active
still_active (LoseBearer id) bound active = filter (is_still_bound bound) active
still_active Close bound active = []
still_active Terminate bound active = []
still_active _ bound active = active

-- a rule that becomes active is put among the others; else those stay that the command leaves
abbrev pub active_after : Option Activation → Command → Binding → List NamedSource → List NamedSource
active_after (Some x) c bound active = put_kept (x.properties.name, x.source) active
active_after None c bound active = still_active c bound active

-- the rule that becomes active can be bound
pub record Binds (rule : Properties) (b : Binding) : Type 0 where
  pub accepted : first_of (binding_refusals b (without_bound rule.name b.bound) rule.qos rule.rates) ≡ None
  pub room : HasRoom rule.name 64 b.bound

abbrev pub CanBind : Option Activation → Binding → Type 0
CanBind None b = Unit {0}
CanBind (Some x) b = Binds x.properties b

-- a rule is bound to this bearer
pub record IsBoundTo (rule : Properties) (old new : Binding) (id : BearerId) : Type 0 where
  pub bearer_is : id_excluding old.default_qos old.bound (without_bound rule.name old.bound) rule.qos ≡ Some id.0
  pub binding_is : new ≡ with_rules old (with_bound (bound_at rule.name rule.qos rule.rates id.0) old.bound)

abbrev pub IsRebound : Option Activation → Command → Binding → Binding → Option BearerId → Type 0
IsRebound (Some x) c old new None = ⊥
IsRebound (Some x) c old new (Some id) = IsBoundTo x.properties old new id
IsRebound None c old new bearer =
    (bearer ≡ None) × (new ≡ with_rules old (filter (λ b. not (takes_away c b.name b.bearer.0)) old.bound))

-- ---- rules that go with their bearer
-- the reports of the rules that are bound to a lost bearer, by the bytes of their names
abbrev pub inactive_by : List Bound → Command → List PendingReport
inactive_by bound (LoseBearer id) = map Inactive (in_order (map (λ b. b.name) (rules_on id.0 bound)))
inactive_by bound _ = []

-- ---- the reports of a command
-- the counters after what a command reports by itself
abbrev pub states_reported : List PendingReport → List KeyState → List KeyState
states_reported all_pending states = after_reports all_pending (states_stopped all_pending states)

-- the journal after that, and then the thresholds; and the counters
abbrev pub journal_after_reports : Bool → List PendingReport → Counted → Journal
journal_after_reports subscribed all_pending c =
    thresholds_told subscribed (states_reported all_pending c.states) (appended all_pending (states_stopped all_pending c.states) c.journal)

abbrev pub counters_after_reports : Bool → List PendingReport → List KeyState → List KeyState
counters_after_reports subscribed all_pending states = after_thresholds subscribed (states_reported all_pending states)
