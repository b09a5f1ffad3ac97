use Rattle.std.proofs.Common.{◌≡◌, ◌∙◌, ◌+◌, ◌++◌, ℕ, ap, drop, subst, sym}
use Rattle.std.proofs.lemmas.Bool.{ltb-true}
use Rattle.pcef_renewal.proofs.Loops.{place_empty, place_filled, place_kept}
use Rattle.pcef_renewal.specs.Renewal.{placed}
use Rattle.pcef_renewal.specs.private.Again.{is_used, numbers}
use Rattle.pcef_renewal.proofs.places.placed.Goals as goal
use Rattle.pcef_renewal.proofs.places.placed.Goals.{then-is_used+in_ok-push, else-is_used+in-Some+in_ok-push-2, else-is_used+in_default}

pub loop-bearer-preserved : goal.loop-bearer-preserved
loop-bearer-preserved c =
    let ns = c.args.numbered.now in
    let bs = c.args.beyond.now in
    let i = c.loop-bearer.bearer-index in
    let m = c.loop-bearer.next in
    let test = is_used c.args.bound.now in
    let goes_on = λ (n : ℕ). numbers c.if-is_used.placed.items ++ placed test (drop (i + 1) (numbers ns)) (drop n (numbers bs)) ≡ placed test (numbers ns) (numbers bs) in
    elim c.if-is_used.branch [
      | then-is_used+in_ok-push w ↦
          subst goes_on (sym w.next-is)
          (place_kept test ns bs i m c.loop-bearer.placed.items c.if-is_used.placed.items _ c.loop-bearer-test.true c.loop-bearer.invariant (sym c.is_used.ensures ∙ w.if-is_used.true)
          (ap (λ v. v.items) w.placed-is ∙ w.in_ok-push.ensures.items))
      | else-is_used+in-Some+in_ok-push-2 w ↦
          subst goes_on (sym w.next-is)
          (place_filled test ns bs i m c.loop-bearer.placed.items c.if-is_used.placed.items _ c.loop-bearer-test.true c.loop-bearer.invariant w.in-Some.other.now
          (sym c.is_used.ensures ∙ w.if-is_used.false) (ltb-true _ _ (sym w.in-Some.ensures.lookup.0)) w.in-Some.ensures.lookup.1 (ap (λ v. v.items) w.placed-is ∙ w.in_ok-push-2.ensures.items))
      | else-is_used+in_default w ↦
          subst goes_on (sym w.next-is)
          (place_empty test ns bs i m c.loop-bearer.placed.items c.if-is_used.placed.items _ c.loop-bearer-test.true c.loop-bearer.invariant
          (sym c.is_used.ensures ∙ w.if-is_used.false) w.in_default.ensures.lookup.3 (ap (λ v. v.items) w.placed-is))
    ]
