use Rattle.std.proofs.Common.{◌∙◌, ap, map, subst, sym}
use Rattle.std.proofs.lemmas.List.{take_all}
use Rattle.pcef_usage.specs.declared.usage.KeyState.{KeyState}
use Rattle.pcef_session.specs.Agreement.{KeysAgree}
use Rattle.pcef_lock.specs.Gathering.{key_total}
use Rattle.pcef_lock.proofs.TotalsOfKeys.{totals_whole}
use Rattle.pcef_lock.proofs.state.gathering.totals_of.Goals as goal

pub returns-clause-keys : goal.returns-clause-keys
returns-clause-keys c =
    let p = c.args.session.now.setting in
    let j = c.args.session.now.journal in
    let states = c.states-state-items.result.now in
    let agree : KeysAgree p j states = subst (KeysAgree p j) (sym c.states-state-items.ensures.states) c.usage.ensures in
    c.loop-slot.invariant ∙ ap (map (λ (s : KeyState). key_total p j s.key)) (take_all c.loop-slot.slot states c.loop-slot-test.false) ∙ totals_whole p j states agree
