use Rattle.std.proofs.Common.{ap, refl, ◌∙◌}
use Rattle.pcef_usage.specs.declared.usage.KeyState.{KeyState}
use Rattle.pcef_usage.specs.Keys.{reported_on}
use Rattle.pcef_usage.proofs.Places.{written, read}
use Rattle.pcef_usage.proofs.usage.Usage.take_report.Goals as goal

pub returns-clause-octets : goal.returns-clause-octets
returns-clause-octets c =
    c.report.ensures.octets ∙ ap (λ (s : KeyState). s.unreported) (c.index_mut.ensures.value ∙ read _ _ _ _ _ c.self.view_is c.requires refl)

pub returns-clause-states : goal.returns-clause-states
returns-clause-states c =
    written reported_on _ _ _ _ _ c.self.view_is c.requires (c.report.ensures.state ∙ ap reported_on c.index_mut.ensures.value)
