use Rattle.std.proofs.Common.{arith}
use Rattle.pcef_usage.proofs.Loops.{place_known, unknown_not}
use Rattle.pcef_usage.proofs.counted.take_octets.Goals as goal

pub take_report-requires : goal.take_report-requires
take_report-requires c = let h = place_known c.args.key.now c.args.usage.now c.requires in omega (arith, c.in-Some.ensures.1, h)

pub unreachable-requires : goal.unreachable-requires
unreachable-requires c = unknown_not c.args.key.now c.args.usage.now c.requires c.in-None.ensures
