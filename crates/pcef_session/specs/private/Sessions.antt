-- What is asked of a session, in its own words.
use Rattle.std.specs.Prelude.{ℕ, ◌≡◌, ◌+◌, ◌∷◌, ◌&&◌, Bool, false, true, not, List, Option, None, is_some, length, nat_le}
use Rattle.std.specs.Option.{option_map}
use Rattle.pcef_rule.specs.declared.rule.Properties.{Properties}
use Rattle.pcef_model.specs.declared.answer.Refusal.{Refusal}
use Rattle.pcef_model.specs.declared.answer.Refusal.TheVariants as refusal
use Rattle.pcef_model.specs.declared.command.Command.{Command}
use Rattle.pcef_model.specs.declared.command.Command.TheVariants.{Activate}
use Rattle.pcef_model.specs.ActiveRules.{Active, predefined, without}
use Rattle.pcef_model.specs.Bearers.{rate_down, rate_up}
use Rattle.pcef_rule.specs.declared.quantity.Sums.{Sums}
use Rattle.pcef_model.specs.Commands.{activated}
use Rattle.pcef_model.specs.Journals.{now}
use Rattle.pcef_model.specs.Refusals.{becoming_active, bindings, first_of, flush_refusals, is_active, limited_count, over_room, own_refusals, refusals, total_down, total_up, was_closed, was_terminated}
use Rattle.pcef_model.specs.Reports.{after_command}
use Rattle.pcef_model.specs.Setting.{most_rules, offer_named}
use Rattle.pcef_table.specs.Tables.{TableValue}
use Rattle.pcef_session.specs.declared.prepared.Activation.{Activation}
use Rattle.pcef_session.specs.Preparing.{Activates, IsTableAfter}
use Rattle.pcef_session.specs.SessionModel.{SessionModel}

-- ---- commands
-- nothing refuses a command
abbrev pub Accepts : SessionModel → Command → Type 0
Accepts s command = first_of (refusals s.setting s.journal command) ≡ None

-- why a command is refused for what it asks for
abbrev pub own_refusal : SessionModel → Command → Option Refusal
own_refusal s command = first_of (own_refusals s.setting s.journal command)

-- why a rule isn't installed
abbrev pub install_refusal : SessionModel → Properties → Option Refusal
install_refusal s rule =
    first_of ((is_some (offer_named s.setting rule.name), refusal.NameIsPredefined) ∷ becoming_active s.setting s.journal rule)

-- why a rule isn't bound
abbrev pub binding_refusal : SessionModel → Properties → Option Refusal
binding_refusal s rule =
    first_of (bindings s.setting (now s.setting s.journal) rule (without rule.name (now s.setting s.journal).rules))

-- why the rates of all rules would be over a room with a rule
abbrev pub rates_with : Properties → List Active → Sums
rates_with rule rules = record {
  up = total_up (without rule.name rules) + rate_up rule.rates;
  down = total_down (without rule.name rules) + rate_down rule.rates;
}

abbrev pub room_refusal : SessionModel → Properties → Sums → Option Refusal
room_refusal s rule room = first_of (over_room room (rates_with rule (now s.setting s.journal).rules))

-- a rule is new, and there is no place for one more
abbrev pub finds_no_place : SessionModel → List ℕ → Bool
finds_no_place s name = not (is_active s.setting s.journal name) && nat_le most_rules (length (now s.setting s.journal).rules)

-- whether a session that hasn't ended has all the commands that it takes
abbrev pub FindsFull : SessionModel → Bool → Type 0
FindsFull s full =
    was_closed s.journal ≡ false → was_terminated s.journal ≡ false → full ≡ nat_le s.setting.commands (limited_count s.journal)

-- ---- rules that become active
-- the predefined rule of a name, if there is one
abbrev pub Offers : SessionModel → List ℕ → Option Activation → Type 0
Offers s name x = Activates s.setting (option_map predefined (offer_named s.setting name)) x

-- the rule that a command makes active, if it makes one
abbrev pub MakesActive : SessionModel → Command → Option Activation → Type 0
MakesActive s command x = Activates s.setting (activated s.setting command) x

-- a command activates a rule of this name, which is active
abbrev pub ActivatesAgain : SessionModel → Command → List ℕ → Type 0
ActivatesAgain s command name = (command ≡ Activate name) × (is_active s.setting s.journal name ≡ true)

-- the table that a command makes, if it makes one
abbrev pub IsNextTable : SessionModel → Command → Option TableValue → Type 0
IsNextTable s command t = IsTableAfter s.setting (after_command s.setting s.journal command) command t

-- ---- rows
-- nothing refuses `count` rows of a worker
abbrev pub AcceptsRows : SessionModel → ℕ → ℕ → Type 0
AcceptsRows s worker count = first_of (flush_refusals s.setting s.journal worker count) ≡ None
