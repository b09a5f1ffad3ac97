use Rattle.std.proofs.Common.{◌≡◌, ◌∙◌, ◌+◌, List, ap, filter, length, nat_lt, subst}
use Rattle.pcef_rule.specs.declared.quantity.BearerId.{BearerId}
use Rattle.pcef_model.specs.Bearers.{default_id}
use Rattle.std.specs.Result.{IfOk}
use Rattle.pcef_renewal.proofs.Loops.{few_used, order_is, within_others}
use Rattle.pcef_renewal.specs.private.Again.{is_used, numbers}
use Rattle.pcef_renewal.proofs.places.places.Goals as goal

pub slice_bounds-numbered-end : goal.slice_bounds-numbered-end
slice_bounds-numbered-end c =
    within_others c.len.result (few_used (is_used c.args.bound.now) c.in_ok-used.used.items c.len.result c.in_ok-used.ensures (c.len.ensures ∙ c.in_ok-used.used.ok.0))

pub returns : goal.returns
returns c =
    let used = c.in_ok-used.used.items in
    let beyond =
    ap numbers c.deref-2.ensures.value ∙ c.in_ok-beyond.ensures
    ∙ ap (λ (us : List BearerId). filter (λ id. nat_lt (default_id + length us) id) (numbers us)) c.deref.ensures.value in
    subst (λ xs. IfOk c.placed.result (λ ids. numbers ids.items ≡ xs))
    (order_is (is_used c.args.bound.now) used c.deref-2.result.now c.len.result c.in_ok-used.ensures beyond (c.len.ensures ∙ c.in_ok-used.used.ok.0))
    c.placed.ensures
