use Rattle.pcef_model.specs.declared.command.Command.TheVariants.{Terminate}
use Rattle.pcef_renewal.proofs.Likeness.{new_is_like}
use Rattle.pcef_renewal.proofs.Played.{not_done}
use Rattle.pcef_renewal.proofs.renewing.renew.Goals as goal

pub returns-in-Err-command-clause-unchanged : goal.returns-in-Err-command-clause-unchanged
returns-in-Err-command-clause-unchanged c =
    not_done c.args.session.now.setting Terminate c.args.session.now.journal c.command.new.self.journal c.in-Err-command.field-0 c.in-Err-command.ensures.answer

pub returns-in-Ok-command-clause-like : goal.returns-in-Ok-command-clause-like
returns-in-Ok-command-clause-like c = new_is_like c.args.session.now c.in-Ok-begin.new c.in-Ok.ensures.lawful c.in-Ok-begin.ensures
