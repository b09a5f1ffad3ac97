use Rattle.std.proofs.Common.{◌∙◌, sym}
use Rattle.pcef_index.proofs.Keeping.{number_has}
use Rattle.pcef_index.proofs.sieving.number_word.Goals as goal

pub returns-in-Some : goal.returns-in-Some
returns-in-Some c i n row lets =
    number_has c.args.free c.word.result c.args.rows.now c.args.block i c.in-Some.row n (sym c.in-Some.is ∙ row) c.word.ensures lets
