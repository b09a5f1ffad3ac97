use Rattle.std.proofs.Common.{◌≡◌, length}
use Rattle.pcef_share.specs.Rates.{no_rates}
use Rattle.pcef_run.specs.Opening.{AreOpened}
use Rattle.pcef_run.proofs.opening.open_members.Given as goal

abbrev pub invariant-loop-asked : goal.invariant-loop-asked
invariant-loop-asked g l = record {
  sessions : AreOpened l.yielded l.members.items;
  pool : l.pool ≡ record l.fn.pool { books = record { granted = no_rates; issued = length l.yielded } };
}
