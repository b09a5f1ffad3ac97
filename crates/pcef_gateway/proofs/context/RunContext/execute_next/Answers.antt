use Rattle.pcef_gateway.proofs.Commands.{given}
use Rattle.pcef_gateway.proofs.context.RunContext.execute_next.Goals as goal

pub returns : goal.returns
returns g c = λ first cs have.
    given c.keep.result first _ _ cs _ _ c.args.command c.in_ok-answer.answer c.keep.ensures c.in_ok-answer.ensures.memory c.in_ok-answer.ensures.listed have
