use Rattle.std.proofs.lemmas.Result.{IfOk-weaker}
use Rattle.pcef_renewal_lines.proofs.Read.{faulty, said, says_it}
use Rattle.pcef_renewal_lines.proofs.reading.reads_as.Goals as goal

pub returns-in-Ok : goal.returns-in-Ok
returns-in-Ok c =
    let read = c.in-Ok.ensures in (
      λ yes. said c.args.text.now c.in-Ok.line c.args.command.now read.0 read.1 read.2 (c.is_line_of.ensures.0 yes),
      λ says. c.is_line_of.ensures.1 (says_it c.args.text.now c.in-Ok.line c.args.command.now read.0 read.1 read.2 says),
    )

pub returns-in-Err : goal.returns-in-Err
returns-in-Err c =
    let read = c.in-Err.ensures in
    IfOk-weaker c.reads_nothing.result _ _ (λ b is. faulty c.args.text.now c.in-Err.fault c.args.command.now read.0 b read.1 read.2 is.0 is.1) c.reads_nothing.ensures
