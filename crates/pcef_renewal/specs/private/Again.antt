-- A renewal, said of what a session keeps.
use Rattle.std.specs.Prelude.{ℕ, ◌==◌, Bool, List, [], ◌∷◌, ◌++◌, Option, Some, None, filter, map, if◌then◌else◌}
use Rattle.std.specs.List.{list_any}
use Rattle.pcef_rule.specs.declared.quantity.BearerId.{BearerId}
use Rattle.pcef_bearer.specs.declared.bearers.Bound.{Bound}
use Rattle.pcef_model.specs.declared.command.Command.{Command}
use Rattle.pcef_model.specs.declared.command.Command.TheVariants.{Activate, Close, Install, Monitor, Triggers}
use Rattle.pcef_model.specs.declared.trigger.TriggerSet.{TriggerSet}
use Rattle.pcef_table.specs.declared.entry.Source.{Source}
use Rattle.pcef_table.specs.declared.entry.Source.TheVariants.{Dynamic, Predefined}
use Rattle.pcef_usage.specs.declared.usage.KeyState.{KeyState}
use Rattle.pcef_renewal.specs.declared.places.BearerNumbers.{BearerNumbers}
use Rattle.pcef_renewal.specs.Renewal.{grant_after, is_any}

-- ---- keys
abbrev pub monitor_of : KeyState → Command
monitor_of s = Monitor s.key (grant_after s.grant s.unreported) s.level

abbrev pub monitors_of : List KeyState → List Command
monitors_of states = map monitor_of (filter (λ s. s.on) states)

-- ---- rules
abbrev pub source_again : List ℕ → Source → Command
source_again name (Dynamic rule) = Install rule
source_again name (Predefined index) = Activate name

abbrev pub kept_again : List ℕ × Source → Command
kept_again e = source_again e.0 e.1

abbrev pub kept_if_some : Option (List ℕ × Source) → List Command
kept_if_some None = []
kept_if_some (Some e) = kept_again e ∷ []

-- the rules that are bound to a bearer; the bound rules and the active ones stand in one order
abbrev pub again_on : ℕ → List Bound → List (List ℕ × Source) → List Command
again_on id [] kept = []
again_on id (b ∷ bound) [] = []
again_on id (b ∷ bound) (e ∷ kept) = if b.bearer.0 == id then kept_again e ∷ again_on id bound kept else again_on id bound kept

abbrev pub again_on_each : List ℕ → List Bound → List (List ℕ × Source) → List Command
again_on_each [] bound kept = []
again_on_each (id ∷ ids) bound kept = again_on id bound kept ++ again_on_each ids bound kept

-- ---- bearers
abbrev pub number : BearerId → ℕ
number id = id.0

abbrev pub numbers : List BearerId → List ℕ
numbers ids = map number ids

-- one by one
abbrev pub paired : List ℕ → List ℕ → List BearerNumbers
paired [] ns = []
paired (id ∷ ids) [] = []
paired (id ∷ ids) (n ∷ ns) = record { old = record { 0 = id }; new = record { 0 = n } } ∷ paired ids ns

-- some rule is bound to the bearer with this id
abbrev pub is_used : List Bound → ℕ → Bool
is_used bound id = list_any (λ b. b.bearer.0 == id) bound

-- ---- subscriptions and the end
abbrev pub subscription : TriggerSet → List Command
subscription set = if is_any set then Triggers set ∷ [] else []

abbrev pub closing : Bool → List Command
closing closed = if closed then Close ∷ [] else []
