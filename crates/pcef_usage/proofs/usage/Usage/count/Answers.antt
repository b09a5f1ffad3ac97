use Rattle.std.proofs.Common.{refl, ◌+◌, ◌<◌, ◌≡◌, ◌^◌, ◌∙◌, arith, ap, sym, subst, List, length}
use Rattle.std.proofs.lemmas.List.{length-set}
use Rattle.pcef_usage.specs.declared.usage.KeyState.{KeyState}
use Rattle.pcef_usage.specs.Keys.{added, AllFit, state_at}
use Rattle.pcef_usage.proofs.Places.{written, read, all_at_place}
use Rattle.pcef_usage.proofs.usage.Usage.count.Goals as goal

pub count-requires : goal.count-requires
count-requires c =
    let e : c.index_mut.result.now.unreported ≡ (state_at c.args.slot.0 c.args.self.now).unreported =
    ap (λ (s : KeyState). s.unreported) (c.index_mut.ensures.value ∙ read _ _ _ _ _ c.self.view_is c.requires.known refl) in
    omega (arith, e, c.requires.fits)

pub invariant_of-self : goal.invariant_of-self
invariant_of-self c =
    let items = c.self.inside.states.items in
    let within = subst (λ (v : List KeyState). c.args.slot.0 < length v) (sym c.self.view_is) c.requires.known in
    let room = subst (λ (v : List KeyState). (state_at c.args.slot.0 v).reported + (state_at c.args.slot.0 v).unreported + c.args.octets < 2 ^ 64) (sym c.self.view_is) c.requires.fits in (
      omega (arith, length-set items c.args.slot.0 c.count.new.self, c.self.invariant.0),
      subst AllFit
          (sym (written (added c.args.octets) items items c.args.slot.0 _ _ refl within (c.count.ensures ∙ ap (added c.args.octets) c.index_mut.ensures.value)))
          (all_at_place (λ (s : KeyState). s.reported + s.unreported < 2 ^ 64) (added c.args.octets) items c.args.slot.0 c.self.invariant.1 (λ h. omega (arith, room))),
    )

pub returns : goal.returns
returns c = written (added c.args.octets) _ _ _ _ _ c.self.view_is c.requires.known (c.count.ensures ∙ ap (added c.args.octets) c.index_mut.ensures.value)
