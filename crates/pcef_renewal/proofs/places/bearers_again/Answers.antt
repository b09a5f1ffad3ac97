use Rattle.std.proofs.Common.{◌≡◌, ◌∙◌, ap, subst}
use Rattle.std.specs.Result.{IfOk}
use Rattle.pcef_model.specs.Bearers.{other_ids}
use Rattle.pcef_renewal.proofs.Getters.{places_are}
use Rattle.pcef_renewal.proofs.Renumbered.{pairs_are}
use Rattle.pcef_renewal.specs.private.Again.{numbers, paired}
use Rattle.pcef_renewal.proofs.places.bearers_again.Goals as goal

pub returns : goal.returns
returns c =
    let s = c.args.session.now in
    let bound = c.bound-bound.ensures.bound ∙ ap (λ b. b.bound) c.bearers.ensures in
    subst (λ xs. IfOk c.paired.result (λ pairs. pairs.items ≡ xs))
    (ap (λ ns. paired ns other_ids) (ap numbers c.deref.ensures.value ∙ c.in_ok-others.ensures ∙ places_are s.setting s.journal c.bound-bound.result.now bound)
    ∙ pairs_are s.setting s.journal c.journal-journal.ensures.lawful)
    c.paired.ensures
