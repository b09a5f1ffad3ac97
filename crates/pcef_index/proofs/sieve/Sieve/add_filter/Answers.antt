use Rattle.std.proofs.Common.{◌≡◌, true, subst, sym}
use Rattle.pcef_filter.specs.declared.filter.Filter.{Filter}
use Rattle.pcef_filter.specs.Matching.{matches}
use Rattle.pcef_index.proofs.sieve.Sieve.add_filter.Goals as goal

pub returns-clause-keeps : goal.returns-clause-keeps
returns-clause-keeps c block i ue h lets = c.add_proto.ensures.keeps block i ue h (c.add_sides.ensures.keeps block i ue h lets)

pub returns-clause-lets : goal.returns-clause-lets
returns-clause-lets c ue h ranged fits proto = record {
  sides = c.add_proto.ensures.sides c.args.spot.block c.args.spot.bit ue h
      (c.add_sides.ensures.lets ue h ranged (subst (λ (f : Filter). matches f ue h ≡ true) (sym c.get.ensures) fits));
  proto = c.add_proto.ensures.lets h ranged proto;
}
