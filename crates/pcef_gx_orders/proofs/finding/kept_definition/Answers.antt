use Rattle.std.proofs.Common.{◌≡◌, ◌∙◌, ◌+◌, drop, sym, refl, true, false, Some, None}
use Rattle.std.specs.Prelude.{slice_get}
use Rattle.pcef_active.specs.ByName.{is_kept_as}
use Rattle.pcef_gx_orders.specs.Keeping.{definition_of, kept_definition}
use Rattle.pcef_gx_orders.proofs.Kept.{kept_here, kept_later, kept_past}
use Rattle.pcef_gx_orders.proofs.finding.kept_definition.Goals as goal
use Rattle.pcef_gx_orders.proofs.finding.kept_definition.Goals.{in-Some+else-eq, in_default}

pub returns-then-eq : goal.returns-then-eq
returns-then-eq c =
    let e : slice_get c.args.rules.now.rules c.loop-place.place ≡ Some (c.in-Some.kept.now, c.in-Some.source.now) = rw (← c.get_index.ensures, c.in-Some.is) refl in
    let hit : is_kept_as c.args.name.now (c.in-Some.kept.now, c.in-Some.source.now) ≡ true = sym c.eq.ensures ∙ c.if-eq.true in
    c.definition_of.ensures ∙ (sym (kept_here c.args.name.now c.args.rules.now.rules c.loop-place.place _ e hit) ∙ c.loop-place.invariant)

pub loop-place-preserved : goal.loop-place-preserved
loop-place-preserved c =
    elim c.match-get_index.branch [
      | in-Some+else-eq w ↦
          let e : slice_get c.args.rules.now.rules c.loop-place.place ≡ Some (w.in-Some.kept.now, w.in-Some.source.now) = rw (← c.get_index.ensures, w.in-Some.is) refl in
          let miss : is_kept_as c.args.name.now (w.in-Some.kept.now, w.in-Some.source.now) ≡ false = sym w.eq.ensures ∙ w.if-eq.false in
          sym (kept_later c.args.name.now c.args.rules.now.rules c.loop-place.place _ e miss) ∙ c.loop-place.invariant
      | in_default w ↦
          let none : slice_get c.args.rules.now.rules c.loop-place.place ≡ None = rw (← c.get_index.ensures, w.in_default.is) refl in
          kept_past c.args.name.now c.args.rules.now.rules c.loop-place.place none ∙ c.loop-place.invariant
    ]
