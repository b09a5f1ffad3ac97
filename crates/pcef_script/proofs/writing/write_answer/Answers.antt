use Rattle.std.proofs.Common.{◌∷◌, [], string_bytes, subst}
use Rattle.std.specs.Io.KnownBytes.{Appends}
use Rattle.std.proofs.lemmas.Result.{IfErr-weaker, err_from_is_err_and}
use Rattle.pcef_base.specs.Writing.{AppendsFront}
use Rattle.pcef_base.proofs.Fronts.{front_after, front_more}
use Rattle.pcef_script.proofs.writing.write_answer.Goals as goal

pub returns-in_err-put_all-clause-front : goal.returns-in_err-put_all-clause-front
returns-in_err-put_all-clause-front g c =
    let p = err_from_is_err_and c.from_residual.result c.from_residual.ensures.1 in
    let contents = g.W.Write.contents in
    let old = contents c.args.writer.now in
    let new = contents c.put_all.new.writer in
    let f = c.in_err-put_all.ensures.front in
    rw (p.1, p.2) (f.0, front_more old new (string_bytes c.args.answer.now.text) (10 ∷ []) (subst (AppendsFront old new) c.as_bytes.ensures.value f.1))

pub returns-clause-front : goal.returns-clause-front
returns-clause-front g c =
    let contents = g.W.Write.contents in
    let old = contents c.args.writer.now in
    let between = contents c.put_all.new.writer in
    let new = contents c.put_all-2.new.writer in
    let text = string_bytes c.args.answer.now.text in
    let all = subst (Appends old between) c.as_bytes.ensures.value c.in_ok-put_all.ensures.all in
    IfErr-weaker c.put_all-2.result _ _ (λ e f. (f.0, front_after old between new text (10 ∷ []) all f.1)) c.put_all-2.ensures.front
