use Rattle.pcef_filter.specs.Reading.{reading_of}
use Rattle.pcef_line.specs.LineOf.{line_by}
use Rattle.pcef_line.proofs.LineLaws.{due_by}
use Rattle.pcef_line.proofs.reading.LineReader.read.Goals as goal

pub returns-in-Some : goal.returns-in-Some
returns-in-Some c = (line_by reading_of c.args.text.now, due_by c.args.text.now, c.in-Some.ensures)

pub returns-in-None : goal.returns-in-None
returns-in-None c = (line_by reading_of c.args.text.now, due_by c.args.text.now, c.line_of.ensures)
