-- Worked examples of keys of session level (TS 29.212, clauses 4.5.16 and 5.3.61), worked out by hand. Each is proved by
-- working the definitions out.
use Rattle.std.proofs.Common.{◌≡◌, refl, ℕ, true, List, [], ◌∷◌, ◌++◌, None, Some, Ok, Err, map}
use Rattle.std.specs.Prelude.{⊤, codes, length}
use Rattle.pcef_rule.specs.declared.gate.Gate.TheVariants.{Disabled as closed_gate, Enabled}
use Rattle.pcef_rule.specs.declared.gate.Gate.{Gate}
use Rattle.pcef_rule.specs.Definition.{Definition}
use Rattle.pcef_model.specs.declared.answer.Refusal.{Refusal}
use Rattle.pcef_model.specs.declared.answer.Refusal.TheVariants.{LevelClash}
use Rattle.pcef_model.specs.declared.command.Command.{Command}
use Rattle.pcef_model.specs.declared.command.Command.TheVariants.{Close, Install, Monitor, Remove, Triggers}
use Rattle.pcef_model.specs.declared.level.Level.TheVariants.{Rule, Session}
use Rattle.pcef_model.specs.declared.report.Body.TheVariants.{Usage}
use Rattle.pcef_model.specs.declared.report.Cause.{Cause}
use Rattle.pcef_model.specs.declared.report.Cause.TheVariants.{RulesGone, Threshold}
use Rattle.pcef_model.specs.declared.report.Report.{Report}
use Rattle.pcef_model.specs.declared.row.Row.{Row}
use Rattle.pcef_model.specs.Setting.{Setting}
use Rattle.pcef_model.specs.Entries.{Journal}
use Rattle.pcef_model.specs.Journals.{gen, no_triggers, now, unreported}
use Rattle.pcef_model.specs.Refusals.{first_of, limited_count, refusals}
use Rattle.pcef_model.specs.Bearers.{sum_down, sum_up}
use Rattle.pcef_model.specs.Reports.{after_command, after_flush}
use Rattle.pcef_model.proofs.ExampleSession.{Event, accept, history, row_of, rule_of, session_on, told, vid, web, worked_out}

unfoldable levels_worked_out : ⊤
unfolding limited_count sum_down sum_up worked_out
levels_worked_out = tt

abbrev p : Setting
p = session_on 9

abbrev all : List ℕ
all = codes "all"

-- the rule `web` without a key
abbrev keyless : Gate → Definition
keyless gate = record (rule_of 9 gate web 17 vid) { properties = record (rule_of 9 gate web 17 vid).properties { key = None } }

-- a row of 28 octets that passed by the rule `web`
abbrev row_in : ℕ → ℕ → Row
row_in generation seq = record (row_of 28) { seq = seq; generation = generation }

abbrev usage : ℕ → List ℕ → ℕ → Cause → Report
usage number key octets cause = record { number = number; body = Usage key octets cause }

-- ---- two packets that pass count for the key of their rule and for the key of the session
abbrev both : Journal
both = history p
    (accept (Install (rule_of 9 Enabled web 17 vid)) ∷ accept (Monitor vid 1000 Rule) ∷ accept (Monitor all 50 Session)
    ∷ accept (Triggers (record no_triggers { usage_report = true })) ∷ [])

abbrev counted_twice : Journal
counted_twice = after_flush p both (row_in 3 0 ∷ row_in 3 1 ∷ [])

their_generation : gen counted_twice ≡ 3
unfolding levels_worked_out
their_generation = refl

the_key_of_the_session_is_reached : told counted_twice ≡ usage 0 all 56 Threshold ∷ []
unfolding levels_worked_out
the_key_of_the_session_is_reached = refl

the_key_of_the_rule_is_not : unreported p counted_twice vid ≡ 56
unfolding levels_worked_out
the_key_of_the_rule_is_not = refl

-- ---- the key of the session stays on without rules
abbrev without_web : Journal
without_web = after_command p counted_twice (Remove web)

the_key_of_the_rule_is_gone : told without_web ≡ usage 0 all 56 Threshold ∷ usage 1 vid 56 RulesGone ∷ []
unfolding levels_worked_out
the_key_of_the_rule_is_gone = refl

the_key_of_the_session_is_on : (now p without_web).on ≡ all ∷ []
unfolding levels_worked_out
the_key_of_the_session_is_on = refl

its_generation : gen without_web ≡ 4
unfolding levels_worked_out
its_generation = refl

-- ---- a key keeps its level
abbrev both_keys : Journal
both_keys = history p (accept (Install (rule_of 9 Enabled web 17 vid)) ∷ accept (Monitor vid 1000 Rule) ∷ accept (Monitor all 50 Session) ∷ accept (Remove web) ∷ [])

abbrev IsAClash : Command → Type 0
IsAClash c = first_of (refusals p both_keys c) ≡ Some LevelClash

a_key_of_a_rule_for_the_session : IsAClash (Monitor vid 5 Session)
unfolding levels_worked_out
a_key_of_a_rule_for_the_session = refl

a_key_of_the_session_for_rules : IsAClash (Monitor all 5 Rule)
unfolding levels_worked_out
a_key_of_the_session_for_rules = refl

a_rule_with_a_key_of_the_session : IsAClash (Install (rule_of 9 Enabled web 17 all))
unfolding levels_worked_out
a_rule_with_a_key_of_the_session = refl

-- ---- packets of a rule without a key
abbrev one_packet : Gate → Journal
one_packet gate =
    let j : Journal = history p (accept (Install (keyless gate)) ∷ accept (Monitor all 50 Session) ∷ []) in
    after_flush p j (row_in 2 0 ∷ [])

a_packet_that_passes_without_a_key : unreported p (one_packet Enabled) all ≡ 28
unfolding levels_worked_out
a_packet_that_passes_without_a_key = refl

a_packet_that_does_not_pass : unreported p (one_packet closed_gate) all ≡ 0
unfolding levels_worked_out
a_packet_that_does_not_pass = refl

-- ---- a Close leaves the key of the session on
abbrev closed : Journal
closed = history p (accept (Install (keyless Enabled)) ∷ accept (Monitor all 50 Session) ∷ accept Close ∷ [])

a_close_makes_a_generation : gen closed ≡ 3
unfolding levels_worked_out
a_close_makes_a_generation = refl

it_reports_nothing : told closed ≡ []
unfolding levels_worked_out
it_reports_nothing = refl

it_leaves_the_key_on : (now p closed).on ≡ all ∷ []
unfolding levels_worked_out
it_leaves_the_key_on = refl
