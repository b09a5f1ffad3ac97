use Rattle.pcef_page.proofs.LinesLeft.{first_alone, first_found}
use Rattle.pcef_page.proofs.pairing.first_line.Goals as goal

pub returns-in_default : goal.returns-in_default
returns-in_default c = first_alone c.args.octets.now c.in_default.ensures

pub returns : goal.returns
returns c =
    first_found c.args.octets.now c.split_at.result.0.now c.split_at.result.1.now c.split_at-2.result.1.now c.in-Some.place
    c.in-Some.ensures c.split_at.ensures.front c.split_at.ensures.back c.split_at-2.ensures.back
