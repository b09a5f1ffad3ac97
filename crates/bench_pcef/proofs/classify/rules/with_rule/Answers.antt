use Rattle.std.proofs.Common.{ap, arith, length}
use Rattle.pcef_catalog.specs.Catalogs.{offers_of}
use Rattle.pcef_table.proofs.Ordered.{has_room}
use Rattle.bench_pcef.proofs.classify.rules.with_rule.Goals as goal

pub with-requires-clause-known : goal.with-requires-clause-known
with-requires-clause-known g c = c.entry_of.ensures (offers_of c.args.catalog.now)

pub with-requires-clause-room : goal.with-requires-clause-room
with-requires-clause-room g c = has_room (offers_of c.args.catalog.now) c.entry_of.result c.args.table.now.entries (omega (arith, c.if-entries-ge-MAX_ENTRIES.false, ap length c.entries.ensures.entries))
