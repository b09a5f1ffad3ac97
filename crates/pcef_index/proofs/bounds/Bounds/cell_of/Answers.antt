use Rattle.std.proofs.Common.{◌≡◌, ◌<◌, ◌≤◌, ◌+◌, ◌-◌, ◌/◌, ◌∙◌, ℕ, get_or, length, ap, sym, arith}
use Rattle.std.specs.Vec.{vec_len}
use Rattle.std.proofs.lemmas.List.{get_or_default}
use Rattle.pcef_index.specs.private.Bounds.{search}
use Rattle.pcef_index.proofs.Bounding.{cut_left, cut_right, search_shut, whole_search}
use Rattle.pcef_index.proofs.bounds.Bounds.cell_of.Goals as goal

pub loop-from-init : goal.loop-from-init
loop-from-init c =
    let bounds = c.args.self.now.ends.items in
    let long : vec_len c.args.self.now.ends ≡ length bounds = omega arith in
    record {
      cuts = length bounds;
      enough = omega (arith, long, c.len-to.ensures);
      found = ap (λ (to : ℕ). search (length bounds) bounds c.args.address 0 to) (c.len-to.ensures ∙ long) ∙ whole_search bounds c.args.address;
      ordered = omega arith;
      within = omega (arith, long, c.len-to.ensures);
    }

pub loop-from-preserved-then-index-address : goal.loop-from-preserved-then-index-address
loop-from-preserved-then-index-address c =
    let bounds = c.args.self.now.ends.items in
    let from = c.loop-from.from in
    let to = c.loop-from.to in
    let cuts = c.loop-from.invariant.cuts in
    let some : from < to = omega (arith, c.loop-from-test.true) in
    let enough = c.loop-from.invariant.enough in
    let within = c.loop-from.invariant.within in
    let below : get_or bounds (from + (to - from) / 2) 0 ≤ c.args.address =
    (let e = get_or_default bounds (from + (to - from) / 2) c.index.result.now 0 (omega (arith, some, within)) in omega (arith, e, c.index.ensures, c.if-index-address.true)) in
    record {
      cuts = cuts - 1;
      enough = omega (arith, enough, some);
      found = cut_right cuts bounds c.args.address from to _ some enough below c.loop-from.invariant.found;
      ordered = omega (arith, some);
      within = within;
    }

pub loop-from-preserved : goal.loop-from-preserved
loop-from-preserved c =
    let bounds = c.args.self.now.ends.items in
    let from = c.loop-from.from in
    let to = c.loop-from.to in
    let cuts = c.loop-from.invariant.cuts in
    let some : from < to = omega (arith, c.loop-from-test.true) in
    let enough = c.loop-from.invariant.enough in
    let within = c.loop-from.invariant.within in
    let above : c.args.address < get_or bounds (from + (to - from) / 2) 0 =
    (let e = get_or_default bounds (from + (to - from) / 2) c.index.result.now 0 (omega (arith, some, within)) in omega (arith, e, c.index.ensures, c.if-index-address.false)) in
    record {
      cuts = cuts - 1;
      enough = omega (arith, enough, some);
      found = cut_left cuts bounds c.args.address from to _ some enough above c.loop-from.invariant.found;
      ordered = omega (arith, some);
      within = omega (arith, some, within);
    }

pub returns-clause-is : goal.returns-clause-is
returns-clause-is c =
    sym (search_shut c.loop-from.invariant.cuts c.args.self.now.ends.items c.args.address c.loop-from.from c.loop-from.to (omega (arith, c.loop-from-test.false)))
    ∙ c.loop-from.invariant.found
