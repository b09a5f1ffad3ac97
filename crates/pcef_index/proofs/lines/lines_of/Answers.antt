use Rattle.std.proofs.Common.{◌≡◌, ◌∙◌, ◌++◌, ◌+◌, ℕ, suc, List, ap, sym, subst, arith, take, get_or}
use Rattle.pcef_table.specs.declared.entry.Source.{Source}
use Rattle.pcef_index.specs.declared.lines.Line.{Line}
use Rattle.pcef_index.specs.private.Lines.{KeepFor, lines_from, source_lines}
use Rattle.pcef_index.proofs.Growing.{lines_more}
use Rattle.pcef_index.proofs.lines.lines_of.Goals as goal

pub loop-place-preserved : goal.loop-place-preserved
loop-place-preserved c =
    let place = c.loop-place.place in
    let sources = c.args.sources.now in
    let x = c.index-sources-place.result in
    let z : place ≡ 0 + place = omega arith in
    let e : suc place ≡ place + 1 = omega arith in
    let grown : lines_from 0 (take place sources) ++ source_lines place x ≡ lines_from 0 (take (place + 1) sources) =
    ap (λ (s : Source). lines_from 0 (take place sources) ++ source_lines place s) c.index-sources-place.is
    ∙ ap (λ (n : ℕ). lines_from 0 (take place sources) ++ source_lines n (get_or sources place x)) z
    ∙ sym (lines_more 0 sources place x c.loop-place-test.true)
    ∙ ap (λ (n : ℕ). lines_from 0 (take n sources)) e in
    record {
      kept = subst (λ (ls : List Line). KeepFor c.args.own ls c.push_source.new.lines.items) grown
          (c.in_ok-push_source.ensures (lines_from 0 (take place sources)) c.loop-place.invariant.kept);
    }
