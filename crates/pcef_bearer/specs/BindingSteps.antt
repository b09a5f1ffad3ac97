-- How rules are bound to bearers and released, and why a rule isn't bound (TS 23.203, clauses 6.1.1.4 and 6.2.2.2).
use Rattle.std.specs.Prelude.{ℕ, ◌≡◌, ◌≤◌, ◌<◌, ◌+◌, ◌==◌, Bool, true, false, ◌&&◌, not, List, [], Option, Some, None, Result, Ok, Err, All, AllPairs, filter, find, is_none, length, if◌then◌else◌}
use Rattle.std.specs.List.{list_any}
use Rattle.std.specs.Option.{option_map}
use Rattle.pcef_rule.specs.declared.qci.Kind.{Kind}
use Rattle.pcef_rule.specs.declared.qci.Kind.TheVariants.{NonGbr}
use Rattle.pcef_rule.specs.declared.quantity.BearerId.{BearerId}
use Rattle.pcef_rule.specs.declared.quantity.Qos.{Qos}
use Rattle.pcef_rule.specs.declared.quantity.Rates.{Rates}
use Rattle.pcef_rule.specs.declared.quantity.Sums.{Sums}
use Rattle.pcef_rule.specs.QciKinds.{kind_of}
use Rattle.pcef_model.specs.Setting.{same_qos}
use Rattle.pcef_model.specs.Bearers.{default_id, has_pair, least_free, rate_down, rate_up}
use Rattle.pcef_model.specs.Refusals.{Conditions, bind_refusals, first_of}
use Rattle.pcef_model.specs.declared.answer.Refusal.{Refusal}
use Rattle.pcef_model.specs.declared.answer.Refusal.TheVariants.{NoMemory}
use Rattle.pcef_model.specs.declared.command.Command.{Command}
use Rattle.pcef_model.specs.Commands.{takes_away}
use Rattle.pcef_model.specs.Named.{put_by, without_name}
use Rattle.pcef_bearer.specs.declared.bearers.Bound.{Bound}
use Rattle.pcef_bearer.specs.declared.bearers.Released.{Released}
use Rattle.pcef_bearer.specs.Bindings.{Agree, Binding, DifferInName, bound_at, is_bound_as, is_present, bound_down, bound_up}

-- ---- rules by name
abbrev pub without_bound : List ℕ → List Bound → List Bound
without_bound name bound = without_name (λ b. b.name) name bound

-- the rules with this one: a rule that is bound anew keeps its place
abbrev pub with_bound : Bound → List Bound → List Bound
with_bound new bound = put_by (λ b. b.name) new bound

-- ---- the bearer that a rule gets
-- the id of a bearer that is there, or the least one that is free beside these rules
abbrev pub id_or_new : Option Bound → List Bound → Option ℕ
id_or_new (Some b) others = Some b.bearer.0
id_or_new None others = least_free (λ b. b.bearer.0) others

-- the id of a pair's bearer, or of the one that is established for it: the old bearer where the pair had
-- one before, else the least id that is free beside the rules that stay
abbrev pub id_excluding : Qos → List Bound → List Bound → Qos → Option ℕ
id_excluding default before others q =
    if same_qos q default then Some default_id
    else id_or_new (find (λ b. same_qos q b.qos) before) others

-- the id that a rule of this name gets by this pair
abbrev pub id_for : Binding → List ℕ → Qos → Option ℕ
id_for v name q = id_excluding v.default_qos v.bound (without_bound name v.bound) q

abbrev pub GetsId : Binding → List ℕ → Qos → ℕ → Type 0
GetsId v name q id = id_for v name q ≡ Some id

-- the number of an id, where there is one
abbrev pub id_number : Option BearerId → Option ℕ
id_number None = None
id_number (Some id) = Some id.0

-- ---- why a rule isn't bound
-- a new pair needs a free id beside the rules that stay
abbrev pub finds_no_id : Qos → List Bound → Qos → Bool
finds_no_id default others q = not (has_pair (λ b. b.qos) default others q) && is_none (least_free (λ b. b.bearer.0) others)

-- the refusals of a binding with this pair and these rates, beside the rules that stay
abbrev pub binding_refusals : Binding → List Bound → Qos → Option Rates → Conditions Refusal
binding_refusals v others q rates =
    bind_refusals v.qcis v.capacity q rates (finds_no_id v.default_qos others q) (bound_up others) (bound_down others)

-- the first refusal of a rule of this name with this pair and these rates
abbrev pub first_refusal : Binding → List ℕ → Qos → Option Rates → Option Refusal
first_refusal v name q rates = first_of (binding_refusals v (without_bound name v.bound) q rates)

abbrev pub IsAccepted : Binding → List ℕ → Qos → Option Rates → Type 0
IsAccepted v name q rates = first_refusal v name q rates ≡ None

-- why a binding was refused, where it was
abbrev pub refusal_in : Result BearerId Refusal → Option Refusal
refusal_in (Ok _) = None
refusal_in (Err refusal) = Some refusal

-- a binding is refused by the first refusal that is due, and where none is, only when out of memory
abbrev pub IsRefusalBy : Option Refusal → Refusal → Type 0
IsRefusalBy (Some first) refusal = refusal ≡ first
IsRefusalBy None refusal = refusal ≡ NoMemory

-- a rule of this name is bound, or there is room for one more
abbrev pub HasRoom : List ℕ → ℕ → List Bound → Type 0
HasRoom name room bound = list_any (is_bound_as name) bound ≡ false → length bound < room

-- ---- rates
-- both directions
abbrev pub bound_total : List Bound → Sums
bound_total bound = record { up = bound_up bound; down = bound_down bound }

-- what the rates would sum up to with a rule of this name and these rates
abbrev pub total_with : Binding → List ℕ → Option Rates → Sums
total_with v name rates = record {
  up = bound_up (without_bound name v.bound) + rate_up rates;
  down = bound_down (without_bound name v.bound) + rate_down rates;
}

-- ---- the binding after a step
-- a binding without bound rules
abbrev pub empty_binding : Qos → Sums → List (Option Kind) → Binding
empty_binding default_qos capacity qcis =
    record { default_qos = default_qos; capacity = capacity; qcis = qcis; bound = [] }

-- the same with other rules
abbrev pub with_rules : Binding → List Bound → Binding
with_rules v bound = record { default_qos = v.default_qos; capacity = v.capacity; qcis = v.qcis; bound = bound }

-- the binding with a rule of this name bound to this id, in its old place or behind all others
abbrev pub bound_with : Binding → List ℕ → Qos → Option Rates → ℕ → Binding
bound_with v name q rates id = with_rules v (with_bound (bound_at name q rates id) v.bound)

-- the rules that a command keeps
abbrev pub kept_by : Command → List Bound → List Bound
kept_by command bound = filter (λ b. not (takes_away command b.name b.bearer.0)) bound

-- what is left of the rule of a name, where one is bound: its bearer ends where the rules that stay aren't on it
abbrev pub left_by : List ℕ → List Bound → Option Released
left_by name bound =
    option_map (λ b. record { bearer = b.bearer; ended = not (is_present b.bearer.0 (without_bound name bound)) }) (find (is_bound_as name) bound)

-- the QCI and ARP of a bearer: those of the rules on it, which all have the same; the default bearer's without one, too
abbrev pub qos_on : ℕ → Binding → Option Qos
qos_on id v = if id == default_id then Some v.default_qos else option_map (λ b. b.qos) (find (λ b. b.bearer.0 == id) v.bound)

-- ---- what always holds
-- the default pair is on the default bearer, and any other pair on another bearer
abbrev pub HasItsId : Qos → Bound → Type 0
HasItsId default b =
    (same_qos b.qos default ≡ true → b.bearer.0 ≡ default_id)
    × (same_qos b.qos default ≡ false → (6 ≤ b.bearer.0) × (b.bearer.0 ≤ 15))

pub record IsBinding (v : Binding) : Type 0 where
  pub default_is_non_gbr : kind_of v.qcis v.default_qos.qci.0 ≡ Some NonGbr
  pub few : length v.bound ≤ 64
  pub names : AllPairs DifferInName v.bound
  pub ids : All (HasItsId v.default_qos) v.bound
  pub pairs : AllPairs Agree v.bound
  pub within_up : bound_up v.bound ≤ v.capacity.up
  pub within_down : bound_down v.bound ≤ v.capacity.down

-- ---- for private clauses
-- the first of these ids that none of these rules is on
abbrev pub first_unused : List ℕ → List Bound → Option ℕ
first_unused ids others = find (λ id. not (list_any (λ b. id == b.bearer.0) others)) ids
