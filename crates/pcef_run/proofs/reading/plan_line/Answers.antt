use Rattle.std.proofs.Common.{◌∙◌, subst, sym}
use Rattle.pcef_script.specs.ScriptAnswers.{LineDue}
use Rattle.pcef_run.specs.Plans.{IsUnfit}
use Rattle.pcef_run.specs.Reasons.{IsFor}
use Rattle.pcef_run.proofs.PlanLines.{line_added, unfit_read, use_unfit}
use Rattle.pcef_run.proofs.reading.plan_line.Goals as goal

pub returns-in-Ok-clause-planned : goal.returns-in-Ok-clause-planned
returns-in-Ok-clause-planned c = λ lines planned.
    let bytes = c.args.bytes.now in
    let read = c.in-Ok.ensures in
    line_added c.add.result c.args.workers lines bytes c.args.plan.now c.add.new.self c.in-Ok.line (sym c.is_blank.ensures ∙ c.if-is_blank.false)
    (subst (LineDue bytes) read.2 read.1) c.add.ensures.fits c.add.ensures.plan planned

pub returns-in-Ok-clause-unfit : goal.returns-in-Ok-clause-unfit
returns-in-Ok-clause-unfit c =
    let bytes = c.args.bytes.now in
    let read = c.in-Ok.ensures in
    use_unfit c.add.result c.args.workers bytes c.in-Ok.line (sym c.is_blank.ensures ∙ c.if-is_blank.false) (subst (LineDue bytes) read.2 read.1) c.add.ensures.unfit

pub returns-in-Err-clause-unfit : goal.returns-in-Err-clause-unfit
returns-in-Err-clause-unfit c =
    let bytes = c.args.bytes.now in
    subst (IsFor (IsUnfit c.args.workers bytes)) (sym c.untaken_for.ensures)
    (unfit_read c.args.workers bytes c.in-Err.fault (sym c.is_blank.ensures ∙ c.if-is_blank.false) c.in-Err.ensures)
