use Rattle.pcef_filter.specs.Reading.{reading_of}
use Rattle.pcef_line.specs.LineOf.{line_by}
use Rattle.pcef_line.proofs.LineLaws.{due_by, due_once}
use Rattle.pcef_line.proofs.laws.one_line.Goals as goal

pub returns-clause-unique : goal.returns-clause-unique
returns-clause-unique c = due_once

pub returns-clause-some : goal.returns-clause-some
returns-clause-some c = λ text. (line_by reading_of text, due_by text)
