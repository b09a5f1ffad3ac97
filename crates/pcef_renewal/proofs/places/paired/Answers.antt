use Rattle.std.proofs.Common.{◌∙◌, ap, sym}
use Rattle.std.proofs.lemmas.Bool.{ltb-true}
use Rattle.pcef_renewal.proofs.Loops.{pair_past, pair_taken}
use Rattle.pcef_renewal.proofs.places.paired.Goals as goal
use Rattle.pcef_renewal.proofs.places.paired.Goals.{in-Some+in_ok-push, in_default}

pub loop-place-preserved : goal.loop-place-preserved
loop-place-preserved c =
    let ns = c.args.others.now in
    let i = c.loop-place.place in
    elim c.match-get.branch [
      | in-Some+in_ok-push w ↦
          pair_taken ns i c.loop-place.pairs.items c.match-get.pairs.items _ c.loop-place-test.true c.loop-place.invariant w.in-Some.new.now
          (ltb-true _ _ (sym w.in-Some.ensures.lookup.0)) w.in-Some.ensures.lookup.1 (ap (λ v. v.items) w.pairs-is ∙ w.in_ok-push.ensures.items)
      | in_default w ↦
          pair_past ns i c.loop-place.pairs.items c.match-get.pairs.items _ c.loop-place-test.true c.loop-place.invariant w.in_default.ensures.lookup.3 (ap (λ v. v.items) w.pairs-is)
    ]
