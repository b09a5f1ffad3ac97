use Rattle.pcef_model.proofs.BearerIds.{lawful_distinct, lawful_in_range}
use Rattle.pcef_model.proofs.Capacity.{lawful_within}
use Rattle.pcef_model.proofs.Rooms.{total_fits}
use Rattle.pcef_model.proofs.laws.bearers_have_their_own_ids.Goals as goal

pub returns : goal.returns
returns c = record {
  distinct = λ p j l q r hq hr same. lawful_distinct p j l q r hq hr same;
  in_range = λ p j l q hq. lawful_in_range p j l q hq;
  capacity = λ p j lawful. let within = lawful_within p j lawful in (within.up, within.down);
  room = λ p j c room none changing before. total_fits p j c room none changing before;
}
