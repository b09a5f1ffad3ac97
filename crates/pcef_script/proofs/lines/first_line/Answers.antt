use Rattle.pcef_script.proofs.FirstLines.{first_alone, first_found}
use Rattle.pcef_script.proofs.lines.first_line.Goals as goal

pub returns-in_default : goal.returns-in_default
returns-in_default c = first_alone c.args.input.now c.in_default.ensures

pub returns : goal.returns
returns c =
    first_found c.args.input.now c.split_at.result.0.now c.split_at.result.1.now c.split_at-2.result.1.now c.in-Some.place
    c.in-Some.ensures c.split_at.ensures.front c.split_at.ensures.back c.split_at-2.ensures.back
