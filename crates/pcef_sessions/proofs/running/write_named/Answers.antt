use Rattle.std.proofs.Common.{◌∷◌, ◌++◌, [], string_bytes}
use Rattle.std.proofs.lemmas.Result.{IfErr-weaker, err_from_is_err_and}
use Rattle.pcef_script.specs.LineAnswers.{answer_bytes}
use Rattle.pcef_base.proofs.Fronts.{front_after, front_more}
use Rattle.pcef_sessions.specs.Served.{name_bytes}
use Rattle.pcef_sessions.proofs.running.write_named.Goals as goal

pub returns-in_err-write_name-clause-front : goal.returns-in_err-write_name-clause-front
returns-in_err-write_name-clause-front g c =
    let p = err_from_is_err_and c.from_residual.result c.from_residual.ensures.1 in
    let contents = g.W.Write.contents in
    let told = c.args.named.now in
    let f = c.in_err-write_name.ensures.front in
    rw (p.1, p.2) (f.0, front_more (contents c.args.writer.now) (contents c.write_name.new.writer) (name_bytes told.name ++ 32 ∷ []) (answer_bytes told.answer) f.1)

pub returns-clause-front : goal.returns-clause-front
returns-clause-front g c =
    let contents = g.W.Write.contents in
    let told = c.args.named.now in
    IfErr-weaker c.write_answer.result _ _
    (λ e f. (f.0, front_after (contents c.args.writer.now) (contents c.write_name.new.writer) (contents c.write_answer.new.writer) (name_bytes told.name ++ 32 ∷ []) (answer_bytes told.answer) c.in_ok-write_name.ensures.all f.1))
    c.write_answer.ensures.front
