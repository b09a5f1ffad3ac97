use Rattle.std.proofs.Common.{◌∙◌, Option, subst}
use Rattle.std.proofs.lemmas.Result.{on_err_weaker}
use Rattle.pcef_script.specs.declared.step.LineAnswer.{LineAnswer}
use Rattle.pcef_sessions.specs.Standing.{fixed, held}
use Rattle.pcef_sessions.specs.private.Steps.{Runs}
use Rattle.pcef_script.proofs.LineReads.{lacking}
use Rattle.pcef_sessions.proofs.Unders.{instead_lacks, run_lacks, script_told}
use Rattle.pcef_sessions.proofs.sessions.Sessions.answer_to.Goals as goal

pub returns-else-answer-clause-answer : goal.returns-else-answer-clause-answer
returns-else-answer-clause-answer c =
    let old = c.args.self.now in
    let new = c.run.new.self in
    let name = c.args.name.now in
    let runs = subst (λ (o : Option LineAnswer). Runs (held old name) c.args.line.now o (held new name)) c.in-Some.is c.in_ok-run.ensures.there in
    (script_told (fixed old) (held old name) (held new name) c.args.line.now c.in-Some.answer runs c.if-answer.false, c.in_ok-run.ensures.others)

pub returns-in_err-run-clause-lacks : goal.returns-in_err-run-clause-lacks
returns-in_err-run-clause-lacks c =
    let old = c.args.self.now in
    let new = c.run.new.self in
    let name = c.args.name.now in
    lacking c.from_residual.result
    (run_lacks (fixed old) (held old name) (held new name) c.args.line.now c.in_err-run.ensures.lacks, c.in_err-run.ensures.others)

pub returns-then-answer-clause-lacks : goal.returns-then-answer-clause-lacks
returns-then-answer-clause-lacks c =
    let old = c.args.self.now in
    let between = c.run.new.self in
    let new = c.ask_instead.new.self in
    let name = c.args.name.now in
    let line = c.args.line.now in
    let runs = subst (λ (o : Option LineAnswer). Runs (held old name) line o (held between name)) c.in-Some.is c.in_ok-run.ensures.there in
    on_err_weaker c.ask_instead.result
    (λ lacks. (
      instead_lacks (fixed old) (held old name) (held between name) (held new name) line c.in-Some.answer runs c.if-answer.true lacks.0,
      λ other differs. lacks.1 other differs ∙ c.in_ok-run.ensures.others other differs,
    ))
    c.ask_instead.ensures.lacks
