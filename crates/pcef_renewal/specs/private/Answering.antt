-- What is asked of the answer to a step.
use Rattle.std.specs.Prelude.{◌≡◌, Result, Ok, Err, alloc_error}
use Rattle.std.specs.declared.alloc.AllocError.{AllocError}
use Rattle.pcef_model.specs.declared.answer.Accepted.{Accepted}
use Rattle.pcef_model.specs.declared.command.Command.{Command}
use Rattle.pcef_model.specs.Outcomes.{Gives, command_outcome}
use Rattle.pcef_world.specs.Steps.{standing_of}
use Rattle.pcef_world.specs.Worlds.{World}
use Rattle.pcef_world.specs.declared.answer.StepAnswer.{StepAnswer}
use Rattle.pcef_world.specs.declared.answer.StepAnswer.TheVariants as answer

-- what was answered to a command that was accepted
abbrev pub accepted_of : StepAnswer → Result Accepted AllocError
accepted_of (answer.Command (Ok accepted)) = Ok accepted
accepted_of _ = Err alloc_error

-- a command was done, as is due, or for whatever reason it wasn't, and nothing changed
abbrev pub IsAnswered : World → Command → Result Accepted AllocError → World → Type 0
IsAnswered before c (Ok accepted) after = Gives (command_outcome before.session.setting before.session.journal c) (Ok accepted) after.session.journal
IsAnswered before c (Err lack) after = standing_of after ≡ standing_of before
