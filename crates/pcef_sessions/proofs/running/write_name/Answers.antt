use Rattle.std.proofs.Common.{◌∙◌, ◌∷◌, [], subst}
use Rattle.std.specs.Io.KnownBytes.{Appends}
use Rattle.std.proofs.lemmas.Result.{IfErr-weaker, err_from_is_err_and}
use Rattle.pcef_base.specs.Writing.{AppendsFront}
use Rattle.pcef_base.proofs.Fronts.{front_after, front_more}
use Rattle.pcef_sessions.specs.Served.{name_bytes}
use Rattle.pcef_sessions.proofs.running.write_name.Goals as goal

pub returns-in_err-put_all-clause-front : goal.returns-in_err-put_all-clause-front
returns-in_err-put_all-clause-front g c =
    let p = err_from_is_err_and c.from_residual.result c.from_residual.ensures.1 in
    let contents = g.W.Write.contents in
    let old = contents c.args.writer.now in
    let new = contents c.put_all.new.writer in
    let f = c.in_err-put_all.ensures.front in
    rw (p.1, p.2) (f.0, front_more old new (name_bytes c.args.name.now) (32 ∷ []) (subst (AppendsFront old new) (c.as_bytes.ensures.value ∙ c.name_text.ensures) f.1))

pub returns-clause-front : goal.returns-clause-front
returns-clause-front g c =
    let contents = g.W.Write.contents in
    let old = contents c.args.writer.now in
    let between = contents c.put_all.new.writer in
    let new = contents c.put_all-2.new.writer in
    let text = name_bytes c.args.name.now in
    let all = subst (Appends old between) (c.as_bytes.ensures.value ∙ c.name_text.ensures) c.in_ok-put_all.ensures.all in
    IfErr-weaker c.put_all-2.result _ _ (λ e f. (f.0, front_after old between new text (32 ∷ []) all f.1)) c.put_all-2.ensures.front
