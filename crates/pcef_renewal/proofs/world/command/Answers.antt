use Rattle.std.proofs.Common.{sym, subst}
use Rattle.pcef_renewal.specs.private.Answering.{IsAnswered}
use Rattle.pcef_renewal.proofs.Answering.{answered}
use Rattle.pcef_renewal.proofs.world.command.Goals as goal

pub returns-in-Ok-clause-answer : goal.returns-in-Ok-clause-answer
returns-in-Ok-clause-answer g c =
    let w = c.args.world.now in
    subst (λ r. IsAnswered w c.args.command r c.step.new.self) (sym c.accepted_of.ensures) (answered w c.step.new.self c.args.command c.in-Ok.answer c.in-Ok.ensures.answer)
