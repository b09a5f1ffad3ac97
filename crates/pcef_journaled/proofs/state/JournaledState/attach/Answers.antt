use Rattle.std.proofs.Common.{◌∙◌}
use Rattle.pcef_journaled.proofs.Archived.{archives_attached}
use Rattle.pcef_journaled.proofs.state.JournaledState.attach.Goals as goal

pub invariant_of-self : goal.invariant_of-self
invariant_of-self c = record {
  archives = archives_attached c.self.inside.state.journal c.attach.new.self.journal c.self.inside.archive c.attach.result c.attach.ensures.answer c.self.invariant.archives;
  reports = c.attach.ensures.forgotten ∙ c.self.invariant.reports;
}
