use Rattle.std.proofs.Common.{◌≤◌, ◌∙◌, subst, sym}
use Rattle.std.specs.Arc.{arc_value}
use Rattle.pcef_catalog.specs.Catalogs.{offers_of}
use Rattle.pcef_run.proofs.Endings.{status_most, whole_ended}
use Rattle.pcef_run.proofs.program.run_program.Goals as goal

pub returns-clause-ends : goal.returns-clause-ends
returns-clause-ends g c = (c.end_of-end.result, c.status.ensures, c.report_end.ensures, c.end_of-end.ensures)

pub returns-clause-most : goal.returns-clause-most
returns-clause-most g c = subst (λ n. n ≤ 4) (sym c.status.ensures) (status_most c.end_of-end.result)

pub returns-clause-whole : goal.returns-clause-whole
returns-clause-whole g c = λ zero.
    whole_ended (offers_of (arc_value c.args.environment.catalog)) c.args.arguments.words.now c.args.arguments.profiles.now c.end_of-end.result _ _ _ _ c.end_of-end.ensures (sym c.status.ensures ∙ zero)
