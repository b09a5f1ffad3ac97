use Rattle.pcef_capture_file.proofs.OptionSearch.{no_option, option_found, option_passed}
use Rattle.pcef_capture_file.proofs.options.value_of.Goals as goal

pub returns-in_default : goal.returns-in_default
returns-in_default c = no_option c.args.endianness c.args.code c.loop-found.rest.now _ c.loop-found.invariant c.in_default.ensures.option

pub returns-then-found-code : goal.returns-then-found-code
returns-then-found-code c =
    option_found c.args.endianness c.args.code c.in-Some.found c.loop-found.rest.now c.in-Some.value.now c.in-Some.behind.now _ c.loop-found.invariant c.in-Some.ensures.option c.if-found-code.true

pub loop-found-preserved : goal.loop-found-preserved
loop-found-preserved c =
    option_passed c.args.endianness c.args.code c.in-Some.found c.loop-found.rest.now c.in-Some.value.now c.in-Some.behind.now _ c.loop-found.invariant c.in-Some.ensures.option c.if-found-code.false
