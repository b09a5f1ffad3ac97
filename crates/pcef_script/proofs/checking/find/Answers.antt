use Rattle.pcef_model.specs.ProfileModel.{setting_of}
use Rattle.pcef_script.specs.Scripts.{all_lines}
use Rattle.pcef_script.proofs.Findings.{opened_finds}
use Rattle.pcef_script.proofs.checking.find.Goals as goal

pub returns-in-Ok-clause-found : goal.returns-in-Ok-clause-found
returns-in-Ok-clause-found g c =
    opened_finds (setting_of c.args.profile (g.C.Offers.offers c.args.catalog.now)) c.in_ok-world.world (all_lines c.args.input.now) c.in-Ok.found.items
    c.in_ok-world.ensures.made c.in-Ok.ensures
