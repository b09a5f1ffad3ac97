use Rattle.std.proofs.Common.{map, refl}
use Rattle.pcef_diameter.specs.Avps.{shown}
use Rattle.pcef_filter.specs.Reading.{reading_of}
use Rattle.pcef_line.proofs.LineLaws.{reading_exact}
use Rattle.pcef_gx.specs.Messages.{message_of, of_rar}
use Rattle.pcef_gx.proofs.reading.read_rar.Goals as goal

pub returns : goal.returns
returns c =
    let avps = map shown c.args.avps.now in
    (message_of of_rar reading_of avps, (reading_of, reading_exact, refl), c.read_message.ensures)
