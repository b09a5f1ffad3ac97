use Rattle.std.proofs.Common.{◌∙◌, ap, sym}
use Rattle.pcef_model.specs.declared.command.Command.TheVariants.{Triggers}
use Rattle.pcef_renewal_lines.proofs.Sets.{sets_agree, the_set}
use Rattle.pcef_renewal_lines.proofs.reading.is_triggers.Goals as goal

pub returns-in-Triggers : goal.returns-in-Triggers
returns-in-Triggers c =
    let agree = sets_agree c.in-Triggers.other c.args.set c.eq.result c.eq.ensures in
    (λ yes. c.in-Triggers.is ∙ ap Triggers (agree.0 yes), λ is. agree.1 (the_set c.in-Triggers.other c.args.set (sym c.in-Triggers.is ∙ is)))
