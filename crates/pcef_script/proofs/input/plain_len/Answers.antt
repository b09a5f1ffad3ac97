use Rattle.std.proofs.Common.{◌∙◌, ap, arith, sym, take}
use Rattle.pcef_script.specs.ScriptLines.{has_feed}
use Rattle.pcef_script.proofs.Feeds.{before_feed, without_feed}
use Rattle.pcef_script.proofs.input.plain_len.Goals as goal

pub returns-in-Some-clause-plain : goal.returns-in-Some-clause-plain
returns-in-Some-clause-plain c =
    before_feed c.args.bytes.now c.split_at.result.0.now c.min-most.result c.in-Some.place c.split_at.ensures.front (omega (arith, c.min-most.ensures)) c.split_at.ensures.front_len c.in-Some.ensures

pub returns-in-None-clause-plain : goal.returns-in-None-clause-plain
returns-in-None-clause-plain c =
    let long = c.split_at.ensures.front_len in
    ap (λ n. has_feed (take n c.args.bytes.now)) (sym long)
    ∙ without_feed c.args.bytes.now c.split_at.result.0.now c.min-most.result c.split_at.ensures.front c.in-None.ensures long
