use Rattle.pcef_filter.specs.Reading.{reading_of}
use Rattle.pcef_line.specs.LineOf.{line_by}
use Rattle.pcef_line.proofs.LineLaws.{due_by}
use Rattle.pcef_line.proofs.reading.read_line.Goals as goal

pub returns : goal.returns
returns c = (line_by reading_of c.args.text.now, due_by c.args.text.now, c.line_of.ensures)
