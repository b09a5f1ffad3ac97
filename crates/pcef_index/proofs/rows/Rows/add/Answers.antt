use Rattle.std.proofs.Common.{◌≡◌, ◌+◌, ◌++◌, ◌∙◌, ℕ, suc, List, [], ◌∷◌, take, get_or, sym, ap, arith, inl, inr}
use Rattle.std.proofs.Math.Seq.{take-suc}
use Rattle.pcef_filter.specs.declared.filter.PortRange.{PortRange}
use Rattle.pcef_filter.specs.Matching.{in_ranges}
use Rattle.pcef_index.specs.private.Rows.{step_cell}
use Rattle.pcef_index.proofs.Stepping.{cell_grows, in_more}
use Rattle.pcef_index.proofs.rows.Rows.add.Goals as goal

pub loop-range-preserved : goal.loop-range-preserved
loop-range-preserved c =
    let ranges = c.args.ranges.now in
    let index = c.loop-range.range-index in
    let steps = c.loop-range.self.steps in
    let some : PortRange = record { first = 0; last = 0 } in
    let r : PortRange = get_or ranges index some in
    record {
      rows = record { rows = c.mark.ensures.rows ∙ c.loop-range.invariant.rows.rows; words = c.mark.ensures.words };
      keeps = λ block n i lets. c.mark.ensures.keeps block (step_cell steps n) i (c.loop-range.invariant.keeps block n i lets);
      sets = λ n small is.
          (let next : index + 1 ≡ suc index = omega arith in
          let grown : take (index + 1) ranges ≡ take index ranges ++ r ∷ [] = ap (λ (k : ℕ). take k ranges) next ∙ take-suc ranges index some (omega arith) in
          elim (in_more (take index ranges) r n (ap (λ (rs : List PortRange). in_ranges rs n) (sym grown) ∙ is)) [
            | inl before ↦ c.mark.ensures.keeps c.args.spot.block (step_cell steps n) c.args.spot.bit (c.loop-range.invariant.sets n small before)
            | inr here ↦
                c.mark.ensures.sets (step_cell steps n)
                (omega (arith, c.cell_of-first.ensures.is, cell_grows steps r.first n here.0 small))
                (omega (arith, c.last_row-last.ensures.is, cell_grows steps n r.last here.1 c.last_row-last.ensures.ranged))
          ]);
    }
