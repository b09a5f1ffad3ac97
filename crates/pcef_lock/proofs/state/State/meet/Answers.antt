use Rattle.std.proofs.Common.{ap, arith, length}
use Rattle.pcef_model.specs.Journals.{gen}
use Rattle.pcef_publish.proofs.Runs.{prefix_self}
use Rattle.pcef_lock.proofs.state.State.meet.Goals as goal

pub returns-in_err-meet-clause-seen : goal.returns-in_err-meet-clause-seen
returns-in_err-meet-clause-seen g c = rw (← ap (λ v. v.tables) c.self.view_is, c.in_err-meet.ensures.refused) c.compare.ensures.begins

pub returns-clause-seen : goal.returns-clause-seen
returns-clause-seen g c =
    rw (← ap (λ v. v.tables) c.self.view_is, c.in_ok-meet.ensures.newest, c.compare.ensures.publisher) (prefix_self c.self.inside.publisher)

pub returns-clause-number : goal.returns-clause-number
returns-clause-number g c =
    omega (arith, c.generation.ensures, ap gen c.session.ensures.journal, ap length c.in_ok-meet.ensures.newest, ap length c.compare.ensures.publisher, c.self.invariant.0.kept.published.through)
