use Rattle.std.proofs.Common.{◌∙◌, sym}
use Rattle.pcef_page.proofs.Spaces.{back_alone, back_found, front_alone, front_found}
use Rattle.pcef_page.proofs.times.around_space.Goals as goal

pub returns-in_default-clause-front : goal.returns-in_default-clause-front
returns-in_default-clause-front c = front_alone c.args.line.now c.in_default.ensures

pub returns-in_default-clause-back : goal.returns-in_default-clause-back
returns-in_default-clause-back c = sym (back_alone c.args.line.now c.in_default.ensures)

pub returns-clause-front : goal.returns-clause-front
returns-clause-front c = c.split_at.ensures.front ∙ front_found c.args.line.now c.in-Some.place c.in-Some.ensures

pub returns-clause-back : goal.returns-clause-back
returns-clause-back c =
    c.split_at-2.ensures.back ∙ back_found c.args.line.now c.split_at.result.1.now c.in-Some.place c.in-Some.ensures c.split_at.ensures.back
