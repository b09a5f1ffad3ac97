-- Worked examples of what is answered to commands and to workers, worked out by hand. Refusals are an own choice; that
-- rules go with their bearer is from TS 23.203, clause 6.2.2.1. Each example is proved by working the definitions out.
use Rattle.std.proofs.Common.{◌≡◌, refl, ℕ, true, false, List, [], ◌∷◌, ◌++◌, None, Some, Ok, Err, Result, map}
use Rattle.std.specs.Prelude.{⊤, codes}
use Rattle.pcef_catalog.specs.declared.shape.Test.TheVariants.{Proto}
use Rattle.pcef_rule.specs.declared.gate.Gate.TheVariants.{Enabled}
use Rattle.pcef_model.specs.declared.answer.Accepted.{Accepted}
use Rattle.pcef_model.specs.declared.answer.AttachFault.TheVariants as attaching
use Rattle.pcef_model.specs.declared.answer.Refusal.{Refusal}
use Rattle.pcef_model.specs.declared.answer.Refusal.TheVariants.{Closed, CommandsFull, DefaultBearer, NameIsPredefined, Terminated, UnknownBearer, UnknownRule, WorkersAttached}
use Rattle.pcef_model.specs.declared.command.Command.{Command}
use Rattle.pcef_model.specs.declared.command.Command.TheVariants.{Activate, Close, Install, LoseBearer, Monitor, Notice, Remove, ReportNow, Stop, Terminate, Triggers}
use Rattle.pcef_model.specs.declared.level.Level.TheVariants.{Rule}
use Rattle.pcef_model.specs.declared.trigger.AccessKind.TheVariants.{RatChange}
use Rattle.pcef_model.specs.Setting.{Setting}
use Rattle.pcef_model.specs.Bearers.{sum_down, sum_up}
use Rattle.pcef_model.specs.Journals.{no_triggers}
use Rattle.pcef_model.specs.Outcomes.{attach_outcome, command_outcome}
use Rattle.pcef_model.specs.Refusals.{limited_count}
use Rattle.pcef_model.proofs.ExampleSession.{Event, accept, attach, history, leave, rule_of, session_on, vid, web, worked_out}

unfoldable answers_worked_out : ⊤
unfolding attach_outcome command_outcome limited_count sum_down sum_up worked_out
answers_worked_out = tt

-- after these events the command is refused so, and the journal is as it was
abbrev IsRefusedAfter : Setting → List Event → Command → Refusal → Type 0
IsRefusedAfter p events c r = command_outcome p (history p events) c ≡ (Err r, history p events)

-- after these events the command is accepted with this answer, and the journal is that of one more event
abbrev IsAcceptedAfter : Setting → List Event → Command → Accepted → Type 0
IsAcceptedAfter p events c a = command_outcome p (history p events) c ≡ (Ok a, history p (events ++ accept c ∷ []))

-- the generation after a command, the numbers of its reports, from one up to below another, and no bearer
abbrev answer : ℕ → ℕ → ℕ → Accepted
answer generation first past_last = record {
  generation = generation;
  bearer = None;
  first_report = first;
  past_last_report = past_last;
  unchanged = false;
}

abbrev web_rule : Event
web_rule = accept (Install (rule_of 9 Enabled web 17 vid))

abbrev lose : ℕ → Command
lose id = LoseBearer (record { 0 = id })

-- ---- the loss of a bearer
-- where the default bearer has another QCI, the rule stands on bearer 6
abbrev on_bearer_6 : List Event
on_bearer_6 = web_rule ∷ accept (Monitor vid 9 Rule) ∷ []

-- one report of the rule, and one of its key
a_bearer_is_lost : IsAcceptedAfter (session_on 8) on_bearer_6 (lose 6) (answer 3 0 2)
unfolding answers_worked_out
a_bearer_is_lost = refl

it_is_lost_once : IsRefusedAfter (session_on 8) (on_bearer_6 ++ accept (lose 6) ∷ []) (lose 6) UnknownBearer
unfolding answers_worked_out
it_is_lost_once = refl

-- the bearer went with its last rule
a_bearer_that_is_gone_is_not_lost : IsRefusedAfter (session_on 8) (on_bearer_6 ++ accept (Remove web) ∷ []) (lose 6) UnknownBearer
unfolding answers_worked_out
a_bearer_that_is_gone_is_not_lost = refl

another_bearer_is_not_lost : IsRefusedAfter (session_on 8) on_bearer_6 (lose 7) UnknownBearer
unfolding answers_worked_out
another_bearer_is_not_lost = refl

-- the default bearer is there, whether a rule stands on it or not
the_default_bearer_is_not_lost : IsRefusedAfter (session_on 8) on_bearer_6 (lose 5) DefaultBearer
unfolding answers_worked_out
the_default_bearer_is_not_lost = refl

nor_where_a_rule_stands_on_it : IsRefusedAfter (session_on 9) on_bearer_6 (lose 5) DefaultBearer
unfolding answers_worked_out
nor_where_a_rule_stands_on_it = refl

-- ---- workers that are attached: worker 0 is from the start
a_terminate_waits_for_the_worker : IsRefusedAfter (session_on 9) [] Terminate (WorkersAttached 1)
unfolding answers_worked_out
a_terminate_waits_for_the_worker = refl

it_waits_for_each_worker : IsRefusedAfter (session_on 9) (attach ∷ attach ∷ leave 1 ∷ []) Terminate (WorkersAttached 2)
unfolding answers_worked_out
it_waits_for_each_worker = refl

-- also after a Close, which sends none away
it_waits_after_a_close : IsRefusedAfter (session_on 9) (accept Close ∷ []) Terminate (WorkersAttached 1)
unfolding answers_worked_out
it_waits_after_a_close = refl

a_terminate_when_all_have_left : IsAcceptedAfter (session_on 9) (attach ∷ leave 1 ∷ leave 0 ∷ []) Terminate (answer 1 0 0)
unfolding answers_worked_out
a_terminate_when_all_have_left = refl

-- ---- after a Close, and after a Terminate
abbrev with_a_key : List Event
with_a_key = web_rule ∷ accept (Monitor vid 1000 Rule) ∷ []

-- the key of the rule goes off with it, which is reported
a_close_is_accepted : IsAcceptedAfter (session_on 9) with_a_key Close (answer 3 0 1)
unfolding answers_worked_out
a_close_is_accepted = refl

abbrev closed : List Event
closed = with_a_key ++ accept Close ∷ []

-- one of each command but Terminate
abbrev commands : List Command
commands =
    Install (rule_of 9 Enabled web 17 vid) ∷ Activate web ∷ Remove web ∷ Monitor vid 0 Rule ∷ Stop vid ∷ ReportNow vid ∷ Triggers no_triggers
    ∷ Notice RatChange (codes "eutran") ∷ lose 5 ∷ Close ∷ []

-- the answers to commands, each of them after these events
abbrev answers : Setting → List Event → List Command → List (Result Accepted Refusal)
answers p events cs = map (λ c. (command_outcome p (history p events) c).0) cs

abbrev all_refused : Refusal → List Command → List (Result Accepted Refusal)
all_refused r cs = map (λ c. Err r) cs

a_second_close_is_refused : IsRefusedAfter (session_on 9) closed Close Closed
unfolding answers_worked_out
a_second_close_is_refused = refl

every_command_after_a_close : answers (session_on 9) closed commands ≡ all_refused Closed commands
unfolding answers_worked_out
every_command_after_a_close = refl

no_worker_comes_after_a_close : attach_outcome (history (session_on 9) closed) ≡ (Err attaching.Closed, history (session_on 9) closed)
unfolding answers_worked_out
no_worker_comes_after_a_close = refl

-- a closed session can still be terminated, when its worker has left
a_terminate_after_a_close : IsAcceptedAfter (session_on 9) (closed ++ leave 0 ∷ []) Terminate (answer 4 1 1)
unfolding answers_worked_out
a_terminate_after_a_close = refl

abbrev ended : List Event
ended = closed ++ leave 0 ∷ accept Terminate ∷ []

-- the answer isn't that the session was closed before
a_close_after_a_terminate_is_refused : IsRefusedAfter (session_on 9) ended Close Terminated
unfolding answers_worked_out
a_close_after_a_terminate_is_refused = refl

a_second_terminate_is_refused : IsRefusedAfter (session_on 9) ended Terminate Terminated
unfolding answers_worked_out
a_second_terminate_is_refused = refl

every_command_after_a_terminate : answers (session_on 9) ended commands ≡ all_refused Terminated commands
unfolding answers_worked_out
every_command_after_a_terminate = refl

no_worker_comes_after_a_terminate : attach_outcome (history (session_on 9) (leave 0 ∷ accept Terminate ∷ [])) ≡ (Err attaching.Closed, history (session_on 9) (leave 0 ∷ accept Terminate ∷ []))
unfolding answers_worked_out
no_worker_comes_after_a_terminate = refl

-- ---- a journal that takes one command
abbrev with_one_command : Setting
with_one_command = record (session_on 9) { commands = 1 }

a_second_command_is_refused : IsRefusedAfter with_one_command (web_rule ∷ []) (Remove web) CommandsFull
unfolding answers_worked_out
a_second_command_is_refused = refl

-- Close and Terminate find a place all the same
a_close_has_no_budget : IsAcceptedAfter with_one_command (web_rule ∷ []) Close (answer 2 0 0)
unfolding answers_worked_out
a_close_has_no_budget = refl

a_terminate_has_no_budget : IsAcceptedAfter with_one_command (leave 0 ∷ web_rule ∷ accept Close ∷ []) Terminate (answer 3 0 0)
unfolding answers_worked_out
a_terminate_has_no_budget = refl

-- ---- a predefined rule
abbrev offered : List ℕ
offered = codes "offered"

abbrev with_an_offer : Setting
with_an_offer = record (session_on 9) {
  catalog = record { properties = (rule_of 9 Enabled offered 17 vid).properties; shape = (Proto 17 ∷ []) ∷ [] } ∷ [];
}

-- the answer where the rule stands on the default bearer
abbrev on_bearer_5 : Accepted → Accepted
on_bearer_5 a = record a { bearer = Some (record { 0 = 5 }) }

an_activate_is_accepted : IsAcceptedAfter with_an_offer [] (Activate offered) (on_bearer_5 (answer 1 0 0))
unfolding answers_worked_out
an_activate_is_accepted = refl

abbrev activated : List Event
activated = accept (Activate offered) ∷ []

-- the second one leaves even the journal as it was
a_second_activate_changes_nothing :
    command_outcome with_an_offer (history with_an_offer activated) (Activate offered)
    ≡ (Ok (record (on_bearer_5 (answer 1 0 0)) { unchanged = true }), history with_an_offer activated)
unfolding answers_worked_out
a_second_activate_changes_nothing = refl

-- but where the journal is full it is refused
a_second_activate_where_the_journal_is_full :
    IsRefusedAfter (record with_an_offer { commands = 1 }) activated (Activate offered) CommandsFull
unfolding answers_worked_out
a_second_activate_where_the_journal_is_full = refl

an_activate_of_what_is_not_offered : IsRefusedAfter with_an_offer (web_rule ∷ []) (Activate web) UnknownRule
unfolding answers_worked_out
an_activate_of_what_is_not_offered = refl

an_install_of_what_is_offered : IsRefusedAfter with_an_offer [] (Install (rule_of 9 Enabled offered 17 vid)) NameIsPredefined
unfolding answers_worked_out
an_install_of_what_is_offered = refl
