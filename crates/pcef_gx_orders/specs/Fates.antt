-- What became of an order, by the answer to its command.
use Rattle.std.specs.Prelude.{Bool, true, false, Result, Ok, Err, if◌then◌else◌}
use Rattle.pcef_gx.specs.Failures.{failure_of}
use Rattle.pcef_model.specs.declared.answer.Accepted.{Accepted}
use Rattle.pcef_model.specs.declared.answer.Refusal.{Refusal}
use Rattle.pcef_model.specs.declared.answer.Refusal.TheVariants as refusal
use Rattle.pcef_world.specs.declared.answer.StepAnswer.{StepAnswer}
use Rattle.pcef_world.specs.declared.answer.StepAnswer.TheVariants as answer
use Rattle.std.specs.declared.alloc.AllocError.{AllocError}
use Rattle.pcef_gx_orders.specs.declared.fate.Fate.{Fate}
use Rattle.pcef_gx_orders.specs.declared.fate.Fate.TheVariants.{Done, NoRule, Refused}

-- Of all that a step is answered, the answer to a command. When out of memory it is a refusal.
abbrev pub command_answer : Result StepAnswer AllocError → Result Accepted Refusal
command_answer (Ok (answer.Command r)) = r
command_answer _ = Err refusal.NoMemory

-- A rule that couldn't be had is reported with its Rule-Failure-Code (TS 29.212, clause 4.5.12).
abbrev pub rule_fate : Result Accepted Refusal → Fate
rule_fate (Ok accepted) = Done
rule_fate (Err reason) = NoRule (failure_of reason)

-- A subscription, and the switching on of a key, have no such report.
abbrev pub setting_fate : Result Accepted Refusal → Fate
setting_fate (Ok accepted) = Done
setting_fate (Err reason) = Refused

abbrev pub is_unknown_key : Refusal → Bool
is_unknown_key refusal.UnknownKey = true
is_unknown_key _ = false

-- A key that isn't known is off as asked, and has nothing to report (own choice).
abbrev pub key_fate : Result Accepted Refusal → Fate
key_fate (Ok accepted) = Done
key_fate (Err reason) = if is_unknown_key reason then Done else Refused
