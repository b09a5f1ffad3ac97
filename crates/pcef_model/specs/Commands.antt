-- What each command does, in one row each: whether it makes a new generation, which rule it makes active, which rules it
-- takes away, and which key it names or switches.
use Rattle.std.specs.Prelude.{ℕ, ◌==◌, Bool, true, false, not, List, [], ◌∷◌, ◌++◌, Option, Some, None, filter, if◌then◌else◌}
use Rattle.std.specs.List.{list_any}
use Rattle.std.specs.Option.{option_map}
use Rattle.pcef_catalog.specs.declared.listing.Offer.{Offer}
use Rattle.pcef_model.specs.declared.command.Command.{Command}
use Rattle.pcef_model.specs.declared.level.Level.{Level}
use Rattle.pcef_model.specs.declared.level.Level.TheVariants.{Rule, Session}
use Rattle.pcef_model.specs.declared.command.Command.TheVariants.{Install, Activate, Remove, Monitor, Stop, ReportNow, Triggers, Notice, LoseBearer, Close, Terminate}
use Rattle.pcef_model.specs.Setting.{Setting, offer_named, same_name}
use Rattle.pcef_model.specs.ActiveRules.{Active, dynamic, predefined}

-- a table command makes a new generation
abbrev pub is_table : Command → Bool
is_table (ReportNow key) = false
is_table (Triggers set) = false
is_table (Notice kind value) = false
is_table _ = true

-- ---- rules
-- Install makes the rule active that it defines (own choice), Activate one of the catalog (TS 23.203, clause 6.3.2)
abbrev pub activated : Setting → Command → Option Active
activated p (Install rule) = Some (dynamic rule)
activated p (Activate name) = option_map predefined (offer_named p name)
activated p _ = None

-- the rules that a command takes away, by their names and the ids of their bearers: Remove takes one, the loss of a
-- bearer those that are bound to it (TS 23.203, clause 6.2.2.1), and Close and Terminate take all (own choice)
abbrev pub takes_away : Command → List ℕ → ℕ → Bool
takes_away (Remove other) name id = same_name name other
takes_away (LoseBearer bearer) name id = id == bearer.0
takes_away Close name id = true
takes_away Terminate name id = true
takes_away _ name id = false

-- ---- keys (TS 29.212, clauses 4.5.16 and 4.5.17)
abbrev pub is_among : List ℕ → List (List ℕ) → Bool
is_among key keys = list_any (same_name key) keys

abbrev pub add_key : List ℕ → List (List ℕ) → List (List ℕ)
add_key key keys = if is_among key keys then keys else keys ++ key ∷ []

abbrev pub key_offered : Option Offer → Option (List ℕ)
key_offered None = None
key_offered (Some o) = o.properties.key

-- the key that a command names, and that has a slot from then on (own choice)
abbrev pub key_named : Setting → Command → Option (List ℕ)
key_named p (Install rule) = rule.properties.key
key_named p (Activate name) = key_offered (offer_named p name)
key_named p (Monitor key grant level) = Some key
key_named p _ = None

-- the level that this key has from then on, where it had none
abbrev pub level_named : Command → Level
level_named (Monitor key grant level) = level
level_named _ = Rule

-- the keys that are on, where a command itself switches one or all
abbrev pub switched : Command → List (List ℕ) → List (List ℕ)
switched (Monitor key grant level) on = add_key key on
switched (Stop key) on = filter (λ k. not (same_name key k)) on
switched Terminate on = []
switched _ on = on

-- the keys of session level (TS 29.212, clause 5.3.61), where a command names one: what would change the level of a key
-- is refused
abbrev pub at_session_level : Command → List (List ℕ) → List (List ℕ)
at_session_level (Monitor key grant Session) keys = add_key key keys
at_session_level _ keys = keys
