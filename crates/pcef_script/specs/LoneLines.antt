-- What is answered to a line that comes without a script around it (own choice).
use Rattle.std.specs.Prelude.{ℕ, ◌≡◌, true, false, List, Option, Some, None}
use Rattle.pcef_world.specs.Steps.{standing_of}
use Rattle.pcef_world.specs.Worlds.{World}
use Rattle.pcef_script.specs.declared.step.LineAnswer.{LineAnswer}
use Rattle.pcef_script.specs.LineAnswers.{AnswersBy}
use Rattle.pcef_script.specs.ScriptAnswers.{LacksForLine, LineDue}
use Rattle.pcef_script.specs.ScriptLines.{is_blank_line}

-- a blank line gets no answer and changes nothing; any other is answered as in a script
abbrev pub AnswersAlone : List ℕ → World → Option LineAnswer → World → Type 0
AnswersAlone line before None after = (is_blank_line line ≡ true) × (after ≡ before)
AnswersAlone line before (Some a) after = (is_blank_line line ≡ false) × AnswersBy (LineDue line) before a after

-- where memory is lacking, the line is done or not
abbrev pub LacksAlone : List ℕ → World → World → Type 0
LacksAlone line before after = LacksForLine before.session.setting (standing_of before) line (standing_of after)
