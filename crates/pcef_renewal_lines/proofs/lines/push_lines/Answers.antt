use Rattle.std.proofs.Common.{subst}
use Rattle.std.proofs.lemmas.List.Elements.{All-more}
use Rattle.pcef_renewal_lines.specs.Commands.{ReadsBack}
use Rattle.pcef_renewal_lines.proofs.Adding.{added}
use Rattle.pcef_renewal_lines.proofs.lines.push_lines.Goals as goal

pub loop-command-preserved : goal.loop-command-preserved
loop-command-preserved c =
    let list = c.args.list.now in
    let i = c.loop-command.command-index in
    let command = c.command-item.result in
    let line = rw c.in-Some.is at c.in_ok-line.ensures in
    record {
      readable = All-more ReadsBack list i command c.loop-command-test.true c.loop-command.invariant.readable (subst ReadsBack c.command-item.is line.0);
      written = added list i command c.args.lines.now.items c.loop-command.lines.items c.push.new.self.items c.in-Some.line c.loop-command-test.true c.command-item.is
          c.in_ok-push-in-Some.ensures.items line.1 c.loop-command.invariant.written;
    }
