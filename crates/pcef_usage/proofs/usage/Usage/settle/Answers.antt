use Rattle.std.proofs.Common.{◌≡◌, List, arith, length, map, [], ◌∷◌, ◌++◌, if◌then◌else◌, ◌∙◌, ap}
use Rattle.std.specs.List.{length_refill}
use Rattle.pcef_usage.specs.declared.usage.KeyState.{KeyState}
use Rattle.pcef_usage.specs.Keys.{ungranted_if_reached, grant_is_reached}
use Rattle.pcef_usage.proofs.Places.{map_step, reached_step, same_at, fit_settled}
use Rattle.pcef_usage.proofs.usage.Usage.settle.Goals as goal

pub invariant_of-self : goal.invariant_of-self
invariant_of-self c =
    let s = c.self.inside.states in
    let long : s.len ≡ length s.items = omega (arith, c.deref_mut-state-items.ensures.len, ap (λ (v : List KeyState). length v) c.deref_mut-state-items.ensures.value) in (
      omega (arith, length_refill s.len s.items c.loop-state.state-items long, c.self.invariant.0),
      fit_settled _ s.items _ _ c.loop-state.state-index long c.deref_mut-state-items.ensures.value c.self.invariant.1 c.loop-state-test.false
          c.loop-state.auto.state-items c.loop-state.invariant.states,
    )

pub loop-state-preserved : goal.loop-state-preserved
loop-state-preserved c = record {
  states = map_step ungranted_if_reached _ _ _ _ _ c.loop-state-test.true c.loop-state.auto.state-items c.loop-state.invariant.states c.settle-is_reached.ensures.state;
  slots = reached_step c.deref_mut-state-items.result.now c.loop-state.state-index _ _ _ _ c.loop-state-test.true c.loop-state.invariant.slots
      (c.settle-is_reached.ensures.reached ∙ ap grant_is_reached (same_at ungranted_if_reached _ _ _ _ c.loop-state-test.true c.loop-state.invariant.states)) (c.note.ensures.slots ∙ ap (λ n. map (λ s. s.0) c.loop-state.reached.items ++ (if c.settle-is_reached.result then n ∷ [] else [])) c.loop-state.invariant.place);
  place = omega arith;
  few = omega (arith, c.loop-state.invariant.few, c.note.ensures.few);
}
