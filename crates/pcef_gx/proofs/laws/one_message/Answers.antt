use Rattle.std.proofs.Common.{◌∙◌, refl, sym}
use Rattle.pcef_filter.specs.Reading.{reading_of}
use Rattle.pcef_line.proofs.LineLaws.{reading_exact}
use Rattle.pcef_gx.specs.Messages.{message_of, of_cca, of_rar}
use Rattle.pcef_gx.proofs.OneMessage.{due_once}
use Rattle.pcef_gx.proofs.laws.one_message.Goals as goal

pub returns-clause-request : goal.returns-clause-request
returns-clause-request c avps = (
  (message_of of_rar reading_of avps, (reading_of, reading_exact, refl)),
  λ d e is also. is.2 ∙ due_once of_rar avps is.0 also.0 is.1 also.1 ∙ sym also.2,
)

pub returns-clause-answer : goal.returns-clause-answer
returns-clause-answer c avps = (
  (message_of of_cca reading_of avps, (reading_of, reading_exact, refl)),
  λ d e is also. is.2 ∙ due_once of_cca avps is.0 also.0 is.1 also.1 ∙ sym also.2,
)
