use Rattle.std.proofs.Common.{rules, ◌≡◌, ◌∙◌, ◌+◌, ◌-◌, [], ap, arith, drop, length, refl, string_bytes, sym}
use Rattle.std.proofs.lemmas.List.{length-drop, nil_from_length}
use Rattle.pcef_run.specs.Summaries.{with_keys}
use Rattle.pcef_run.proofs.KeyLines.{next_key, no_keys}
use Rattle.pcef_run.proofs.summary.push_keys.Goals as goal

pub loop-total-init : goal.loop-total-init
loop-total-init c = refl

pub loop-total-preserved : goal.loop-total-preserved
loop-total-preserved c =
    let totals = c.args.totals.now in
    let at = c.loop-total.total-index in
    ap (λ t. with_keys t (drop (at + 1) totals)) c.in_ok-push_key.ensures
    ∙ sym (next_key (string_bytes c.loop-total.text) totals at c.loop-total-test.true c.total-item.result c.total-item.is) ∙ c.loop-total.invariant

pub returns : goal.returns
returns c =
    let totals = c.args.totals.now in
    let none : drop c.loop-total.total-index totals ≡ [] =
    nil_from_length (drop c.loop-total.total-index totals) (length-drop c.loop-total.total-index totals ∙ omega (arith, c.loop-total-test.false)) in
    sym (no_keys (string_bytes c.loop-total.text)) ∙ ap (with_keys (string_bytes c.loop-total.text)) (sym none) ∙ c.loop-total.invariant
