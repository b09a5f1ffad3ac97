use Rattle.std.proofs.Common.{◌≡◌, ◌+◌, ◌++◌, ◌∷◌, ◌∙◌, ℕ, suc, List, [], append_assoc, ap, length, take, sym, subst, arith}
use Rattle.pcef_filter.specs.declared.filter.Filter.{Filter}
use Rattle.pcef_index.specs.declared.lines.Line.{Line}
use Rattle.pcef_index.specs.private.Lines.{KeepFor, filter_line, filter_lines}
use Rattle.pcef_index.specs.private.RuleFilters.{past_last}
use Rattle.pcef_index.proofs.Owning.{filters_more}
use Rattle.pcef_index.proofs.lines.push_filters.Goals as goal

pub loop-number-preserved : goal.loop-number-preserved
loop-number-preserved c =
    let filters = c.args.rule.now.filters in
    let number = c.loop-number.number in
    let k = c.args.place in
    let filter = c.in_ok-new.field-0 in
    let next : suc number ≡ number + 1 = omega arith in
    let long = ap (λ (fs : List Filter). length fs) c.filters-number-end.ensures in
    let grown : filter_lines k (take number filters) ++ filter_line k filter ∷ [] ≡ filter_lines k (take (number + 1) filters) =
    ap (λ (f : Filter). filter_lines k (take number filters) ++ filter_line k f ∷ []) c.in_ok-new.ensures
    ∙ sym (filters_more k filters number past_last (omega (arith, long, c.loop-number-test.true)))
    ∙ ap (λ (n : ℕ). filter_lines k (take n filters)) next in
    record {
      kept = λ all keep.
          subst (λ (ls : List Line). KeepFor c.args.own ls c.push_filter.new.lines.items)
          (append_assoc all (filter_lines k (take number filters)) (filter_line k filter ∷ []) ∙ ap (λ (ls : List Line). all ++ ls) grown)
          (c.in_ok-push_filter.ensures (all ++ filter_lines k (take number filters)) (c.loop-number.invariant.kept all keep));
    }
