use Rattle.std.proofs.Common.{sym, ap, ◌∙◌, ◌≡◌, subst, List, true}
use Rattle.pcef_model.specs.Setting.{same_name}
use Rattle.pcef_usage.specs.declared.usage.KeyState.{KeyState}
use Rattle.pcef_usage.specs.Keys.{has_slot, slot_place}
use Rattle.pcef_usage.proofs.Places.{found}
use Rattle.pcef_usage.proofs.usage.Usage.find.Goals as goal

pub returns-then-eq : goal.returns-then-eq
returns-then-eq c =
    subst (λ (v : List KeyState). (has_slot c.args.key.now v ≡ true) × (c.loop-place.place ≡ slot_place c.args.key.now v)) c.states-state-items.ensures.states
    (found c.args.key.now c.states-state-items.result.now c.loop-place.place c.state-item.result c.loop-place-test.true c.loop-place.invariant (ap (λ (s : KeyState). same_name c.args.key.now s.key) (sym c.state-item.is) ∙ sym c.eq.ensures ∙ c.if-eq.true))
