use Rattle.std.proofs.Common.{◌∙◌, ap, subst}
use Rattle.pcef_handle.specs.Judging.{JudgesHandle}
use Rattle.pcef_c.specs.Judging.{c_verdict_of}
use Rattle.pcef_c.proofs.judging.verdict_on.Goals as goal

pub returns-clause-verdict : goal.returns-clause-verdict
returns-clause-verdict c =
    let packet = c.args.packet.now in
    let told = c.judge.ensures.judged in
    (told.0, subst (λ dir. JudgesHandle c.args.handle.now dir packet.octets.now packet.whole told.0) c.dir_of.ensures told.1, c.c_verdict_of.ensures ∙ ap c_verdict_of told.2)
