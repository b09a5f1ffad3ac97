use Rattle.std.proofs.lemmas.Result.{err_from_is_err_and}
use Rattle.pcef_line.specs.declared.fault.LineFault.TheVariants.{NoMemory}
use Rattle.pcef_line.proofs.FilterLists.{filter, all_filters}
use Rattle.pcef_base.proofs.ListReadings.{begins, goes_on, stops, is_done}
use Rattle.pcef_line.proofs.rule.filters.Goals as goal

pub loop-value-init : goal.loop-value-init
loop-value-init c = rw c.new-filters.ensures.items (begins filter c.args.values.now _ (all_filters c.args.values.now))

pub returns-in_err-filter : goal.returns-in_err-filter
returns-in_err-filter c =
    let p = err_from_is_err_and c.from_residual.result c.from_residual.ensures.1 in
    rw (p.1, p.2) (stops NoMemory c.in_err-filter.field-0.0 filter c.args.values.now c.loop-value.value-index c.value-item.result c.loop-value.filters.items _ c.loop-value-test.true c.value-item.is c.in_err-filter.ensures c.loop-value.invariant)

pub loop-value-preserved : goal.loop-value-preserved
loop-value-preserved c =
    rw c.in_ok-push.ensures.items (goes_on filter c.args.values.now c.loop-value.value-index c.value-item.result c.loop-value.filters.items c.in_ok-filter.field-0 _ c.loop-value-test.true c.value-item.is c.in_ok-filter.ensures c.loop-value.invariant)

pub returns : goal.returns
returns c = is_done filter c.args.values.now c.loop-value.value-index c.loop-value.filters.items _ c.loop-value-test.false c.loop-value.invariant
