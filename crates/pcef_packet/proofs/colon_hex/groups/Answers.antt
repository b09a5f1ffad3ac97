use Rattle.std.proofs.Common.{arith, rules}
use Rattle.pcef_packet.proofs.GroupNumbers.{bound_more, fits, shift_fits}
use Rattle.pcef_packet.proofs.GroupWalks.{groups_step}
use Rattle.pcef_packet.proofs.colon_hex.groups.Goals as goal

pub overflow_mul-result : goal.overflow_mul-result
overflow_mul-result c = let room = shift_fits c.loop-count.number c.loop-count.count c.loop-count.invariant.bound c.loop-count-test.true in omega (arith, room.0)

pub overflow_add-result : goal.overflow_add-result
overflow_add-result c =
    let room = fits c.loop-count.number c.loop-count.count c.from.result c.loop-count.invariant.bound c.loop-count-test.true (search rules) in
    omega (arith, room)

pub overflow_mul-number : goal.overflow_mul-number
overflow_mul-number c = let room = shift_fits c.loop-count.number c.loop-count.count c.loop-count.invariant.bound c.loop-count-test.true in omega (arith, room.0)

pub overflow_add-number : goal.overflow_add-number
overflow_add-number c =
    let room = fits c.loop-count.number c.loop-count.count c.from-in-loop-count.result c.loop-count.invariant.bound c.loop-count-test.true (search rules) in
    omega (arith, room)

pub loop-count-preserved : goal.loop-count-preserved
loop-count-preserved c = record {
  value = groups_step _ _ _ _ _ _ _ c.loop-count-test.true c.loop-count.invariant.value c.in-Some.ensures.parts (search rules);
  bound = bound_more c.loop-count.number c.loop-count.count c.from-in-loop-count.result c.loop-count.invariant.bound (search rules);
}
