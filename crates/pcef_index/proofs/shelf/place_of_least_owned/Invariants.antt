use Rattle.std.proofs.Common.{◌<◌, length}
use Rattle.pcef_index.proofs.shelf.place_of_least_owned.Given as goal

abbrev pub invariant-loop-place : goal.invariant-loop-place
invariant-loop-place l = record { within : l.least < length l.indexes }
