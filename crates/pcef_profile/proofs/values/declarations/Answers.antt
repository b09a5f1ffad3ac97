use Rattle.std.proofs.lemmas.Result.{err_from_is_err_and}
use Rattle.pcef_profile.specs.declared.fault.ReadProfileFault.TheVariants.{NoMemory}
use Rattle.pcef_base.proofs.ListReadings.{begins, goes_on, stops, is_done}
use Rattle.pcef_profile.proofs.Declarations.{declaration, all_declarations}
use Rattle.pcef_profile.proofs.values.declarations.Goals as goal

pub loop-value-init : goal.loop-value-init
loop-value-init c = rw c.new-declared.ensures.items (begins declaration c.args.values.now _ (all_declarations c.args.values.now))

pub returns-in_err-declaration : goal.returns-in_err-declaration
returns-in_err-declaration c =
    let p = err_from_is_err_and c.from_residual.result c.from_residual.ensures.1 in
    rw (p.1, p.2) (stops NoMemory c.in_err-declaration.field-0.0 declaration c.args.values.now c.loop-value.value-index c.value-item.result c.loop-value.declared.items _ c.loop-value-test.true c.value-item.is c.in_err-declaration.ensures c.loop-value.invariant)

pub loop-value-preserved : goal.loop-value-preserved
loop-value-preserved c =
    rw c.in_ok-push.ensures.items (goes_on declaration c.args.values.now c.loop-value.value-index c.value-item.result c.loop-value.declared.items c.in_ok-declaration.field-0 _ c.loop-value-test.true c.value-item.is c.in_ok-declaration.ensures c.loop-value.invariant)

pub returns : goal.returns
returns c = is_done declaration c.args.values.now c.loop-value.value-index c.loop-value.declared.items _ c.loop-value-test.false c.loop-value.invariant
