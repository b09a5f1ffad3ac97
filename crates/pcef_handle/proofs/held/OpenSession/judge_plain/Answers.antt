use Rattle.std.proofs.Common.{rules, Ok, ap}
use Rattle.pcef_handle.proofs.Judged.{plain_settles}
use Rattle.pcef_handle.proofs.held.OpenSession.judge_plain.Goals as goal

pub returns-in-Some-clause-judged : goal.returns-in-Some-clause-judged
returns-in-Some-clause-judged c =
    let told = c.judge.ensures.brief in
    (Ok told.0, (c.in-Some.header, plain_settles c.args.dir c.args.front.now c.args.whole c.in-Some.header (search rules) c.in-Some.ensures, told.1), ap Ok told.2)
