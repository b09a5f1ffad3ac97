use Rattle.std.proofs.Common.{◌∙◌, ap, arith, sym}
use Rattle.pcef_usage.specs.Keys.{state_at}
use Rattle.pcef_usage.proofs.Places.{place_below}
use Rattle.pcef_session.proofs.NextTables.{state_past}
use Rattle.pcef_session.proofs.keys.level_of.Goals as goal

pub level-requires : goal.level-requires
level-requires c = let h = place_below c.args.key.now c.args.usage.now c.in-Some.ensures.0 in omega (arith, c.in-Some.ensures.1, h)

pub returns-in-Some : goal.returns-in-Some
returns-in-Some c = c.level.ensures ∙ ap (λ n. (state_at n c.args.usage.now).level) c.in-Some.ensures.1

pub returns-in-None : goal.returns-in-None
returns-in-None c = sym (state_past c.args.key.now c.args.usage.now c.in-None.ensures)
