use Rattle.pcef_world.proofs.ApartBeside.{stays_beside_coming, stays_beside_finishing, stays_beside_flushes, stays_beside_leaving, stays_beside_steps, stays_beside_the_same}
use Rattle.pcef_world.proofs.ApartWorkers.{apart_refreshed, apart_taken}
use Rattle.pcef_world.proofs.apart.apart_workers_stay.Goals as goal

pub returns : goal.returns
returns c = record {
  takes = apart_taken;
  refreshes = apart_refreshed;
  same = stays_beside_the_same;
  steps = stays_beside_steps;
  comings = stays_beside_coming;
  flushes = stays_beside_flushes;
  finishes = stays_beside_finishing;
  leavings = stays_beside_leaving;
}
