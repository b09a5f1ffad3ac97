use Rattle.std.proofs.Common.{◌∙◌}
use Rattle.pcef_publish.proofs.publisher.Publisher.publish.Goals as goal

pub returns-clause-published : goal.returns-clause-published
returns-clause-published g c = c.new-2.ensures ∙ c.front-front.ensures ∙ c.add.ensures ∙ (let history = c.self.view_is in let table = c.deref.ensures in cc)
