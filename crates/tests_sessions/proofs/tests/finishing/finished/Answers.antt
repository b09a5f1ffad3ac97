use Rattle.std.proofs.Common.{◌∙◌, ap}
use Rattle.pcef_model.proofs.RowsLater.{batch_empty}
use Rattle.pcef_model.specs.Setting.{Setting}
use Rattle.tests_sessions.proofs.UnmatchedRows.{first_attached, two_follow, two_slots}
use Rattle.tests_sessions.proofs.tests.finishing.finished.Goals as goal

pub finish-requires-clause-follow : goal.finish-requires-clause-follow
finish-requires-clause-follow g c =
    two_follow _ _ _
    (ap (λ (p : Setting). p.ue) (c.in_ok-worker.ensures.setting ∙ c.in_ok-session.ensures.made.0) ∙ c.requires.profile)
    (first_attached _ _ _ c.in_ok-session.ensures.made.1 c.in_ok-worker.ensures.answer)
    c.requires.two

pub finish-requires-clause-slots : goal.finish-requires-clause-slots
finish-requires-clause-slots g c =
    two_slots _ _ _
    (ap (λ (p : Setting). p.ue) (c.in_ok-worker.ensures.setting ∙ c.in_ok-session.ensures.made.0) ∙ c.requires.profile)
    (first_attached _ _ _ c.in_ok-session.ensures.made.1 c.in_ok-worker.ensures.answer)
    c.requires.two

pub finish-requires-2-clause-follow : goal.finish-requires-2-clause-follow
finish-requires-2-clause-follow g c = rw c.requires.none (batch_empty _ _ _)
