use Rattle.std.proofs.Common.{◌∙◌, ap}
use Rattle.pcef_model.specs.Setting.{Setting}
use Rattle.pcef_model.proofs.JournalExtends.{commanded}
use Rattle.tests_workers.proofs.tests.gateway.accepted.Goals as goal

-- a command attaches nobody, and leaves the setting
pub returns : goal.returns
returns c =
    ((commanded _ _ _ _ _ c.command.ensures.answer).count_is ∙ c.requires.0, ap (λ (p : Setting). p.catalog) c.command.ensures.setting ∙ c.requires.1)
