use Rattle.std.proofs.Common.{◌<◌, ◌-◌, ◌∙◌, sym, arith}
use Rattle.pcef_index.proofs.Bounding.{cut_left, cut_right, search_shut}
use Rattle.pcef_index.proofs.steps.count_by_halves.Goals as goal

pub loop-from-preserved-then-ports-middle : goal.loop-from-preserved-then-ports-middle
loop-from-preserved-then-ports-middle c =
    let from = c.loop-from.from in
    let to = c.loop-from.to in
    let cuts = c.loop-from.invariant.cuts in
    let some : from < to = omega (arith, c.loop-from-test.true) in
    let enough = c.loop-from.invariant.enough in
    record {
      cuts = cuts - 1;
      enough = omega (arith, enough, some);
      found = cut_right cuts c.args.ports.now c.args.port from to _ some enough c.if-ports-middle.true c.loop-from.invariant.found;
      ordered = omega (arith, some);
      within = c.loop-from.invariant.within;
    }

pub loop-from-preserved : goal.loop-from-preserved
loop-from-preserved c =
    let from = c.loop-from.from in
    let to = c.loop-from.to in
    let cuts = c.loop-from.invariant.cuts in
    let some : from < to = omega (arith, c.loop-from-test.true) in
    let enough = c.loop-from.invariant.enough in
    let within = c.loop-from.invariant.within in
    record {
      cuts = cuts - 1;
      enough = omega (arith, enough, some);
      found = cut_left cuts c.args.ports.now c.args.port from to _ some enough c.if-ports-middle.false c.loop-from.invariant.found;
      ordered = omega (arith, some);
      within = omega (arith, some, within);
    }

pub returns-clause-is : goal.returns-clause-is
returns-clause-is c =
    sym (search_shut c.loop-from.invariant.cuts c.args.ports.now c.args.port c.loop-from.from c.loop-from.to (omega (arith, c.loop-from-test.false)))
    ∙ c.loop-from.invariant.found
