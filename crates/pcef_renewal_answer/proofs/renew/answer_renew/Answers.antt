use Rattle.std.proofs.Common.{◌∙◌, ap, subst, sym, string_bytes}
use Rattle.std.proofs.lemmas.Result.{IfOk-weaker}
use Rattle.pcef_model.specs.Lawful.{Lawful}
use Rattle.pcef_session.specs.SessionModel.{SessionModel}
use Rattle.pcef_renewal.specs.Likeness.{Like}
use Rattle.pcef_renewal.proofs.Accepted.{renewal_taken}
use Rattle.pcef_world.specs.Worlds.{World}
use Rattle.pcef_renewal_answer.specs.Renewed.{LacksForRenew, kept_of}
use Rattle.pcef_renewal_answer.proofs.Renewing.{kept_same, new_kept, on_err, refused_told, renewed_answer, renewed_lacks}
use Rattle.pcef_renewal_answer.proofs.renew.answer_renew.Goals as goal

pub returns-in-Ok-clause-answer : goal.returns-in-Ok-clause-answer
returns-in-Ok-clause-answer g c =
    let old = c.args.world.now in
    let made = c.in-Ok.renewed in
    let lawful = subst (λ (s : SessionModel). Lawful s.setting s.journal) c.session.ensures.session c.journal-journal.ensures.lawful in
    let kept = ap kept_of c.take_over.ensures.there ∙ new_kept old made.world lawful c.in-Ok.ensures.renewed c.take_over.ensures.places in
    IfOk-weaker c.take_over.result.text _ _
    (λ t told. renewed_answer old c.renew_world.new.world c.take_over.new.world made.ended made.bearers.items (string_bytes t) lawful c.in-Ok.ensures.accepted c.in-Ok.ensures.ended c.renew_world.ensures.forgotten c.in-Ok.ensures.bearers kept told)
    c.take_over.ensures.text

pub returns-in-Ok-clause-lacks : goal.returns-in-Ok-clause-lacks
returns-in-Ok-clause-lacks g c =
    let old = c.args.world.now in
    let made = c.in-Ok.renewed in
    let lawful = subst (λ (s : SessionModel). Lawful s.setting s.journal) c.session.ensures.session c.journal-journal.ensures.lawful in
    let kept = ap kept_of c.take_over.ensures.there ∙ new_kept old made.world lawful c.in-Ok.ensures.renewed c.take_over.ensures.places in
    on_err c.take_over.result.text (LacksForRenew old c.take_over.new.world) (renewed_lacks old c.take_over.new.world c.in-Ok.ensures.accepted kept)

pub returns-in-Ok-clause-renewed : goal.returns-in-Ok-clause-renewed
returns-in-Ok-clause-renewed g c =
    let old = c.args.world.now in
    let made = c.in-Ok.renewed in
    let lawful = subst (λ (s : SessionModel). Lawful s.setting s.journal) c.session.ensures.session c.journal-journal.ensures.lawful in
    let kept = ap kept_of c.take_over.ensures.there ∙ new_kept old made.world lawful c.in-Ok.ensures.renewed c.take_over.ensures.places in
    rw c.take_over.ensures.renewed (c.in-Ok.ensures.accepted, kept)

pub returns-in-Ok-clause-like : goal.returns-in-Ok-clause-like
returns-in-Ok-clause-like g c =
    let old = c.args.world.now in
    let lawful = subst (λ (s : SessionModel). Lawful s.setting s.journal) c.session.ensures.session c.journal-journal.ensures.lawful in
    rw c.take_over.ensures.renewed (record {
      taken = renewal_taken old.session.setting old.session.journal lawful;
      like = subst (λ (w : World). Like old.session.setting old.session.journal w.session.journal) (sym c.take_over.ensures.there) c.in-Ok.ensures.like;
    })

pub returns-in-Err-clause-answer : goal.returns-in-Err-clause-answer
returns-in-Err-clause-answer g c =
    let kept = kept_same c.args.world.now c.renew_world.new.world c.in-Err.ensures.unchanged c.renew_world.ensures.forgotten in
    refused_told c.refused_text.result c.args.world.now c.renew_world.new.world c.in-Err.reason c.in-Err.ensures.refused kept c.refused_text.ensures.text c.refused_text.ensures.told
