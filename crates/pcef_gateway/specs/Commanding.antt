-- Commands with their answers.
use Rattle.std.specs.Prelude.{◌≡◌, ◌++◌, List, [], ◌∷◌, All, Result, Err, length}
use Rattle.pcef_model.specs.declared.answer.Accepted.{Accepted}
use Rattle.pcef_model.specs.declared.answer.Refusal.{Refusal}
use Rattle.pcef_model.specs.declared.answer.Refusal.TheVariants.{NoMemory}
use Rattle.pcef_model.specs.declared.command.Command.{Command}
use Rattle.pcef_lock.specs.Desks.{listed}

-- the commands that were accepted and changed something, in order, each with its answer
unfoldable pub changing : List Command → List (Result Accepted Refusal) → List Command
changing (c ∷ cs) (a ∷ answers) = listed a c [] ++ changing cs answers
changing cs answers = []

-- the answer of a command that did not run out of memory
abbrev pub FoundMemory : Result Accepted Refusal → Type 0
FoundMemory answer = answer ≡ Err NoMemory → ⊥

-- Each of these commands has its answer, and none ran out of memory. The list of the accepted commands grew by those
-- of them that changed something.
pub record HaveAnswers (first given now : List Command) (answers : List (Result Accepted Refusal)) : Type 0 where
  pub many : length answers ≡ length given
  pub memory : All FoundMemory answers
  pub listed_are : now ≡ first ++ changing given answers
