use Rattle.std.proofs.Common.{◌≡◌, [], ◌++◌, take, refl, ◌∙◌, ap, sym, subst, append_assoc, append-nil, take-append-drop}
use Rattle.std.proofs.lemmas.List.{nil_from_length}
use Rattle.std.proofs.lemmas.Bool.{eqb-true}
use Rattle.std.specs.Io.KnownBytes.{Appends}
use Rattle.std.proofs.KnownBytes.{Appends-nil, Appends-trans}
use Rattle.pcef_base.proofs.writing.put_all.Goals as goal

pub loop-rest-init : goal.loop-rest-init
loop-rest-init g c = ([], refl, Appends-nil (g.W.Write.contents c.args.writer.now))

pub loop-rest-preserved : goal.loop-rest-preserved
loop-rest-preserved g c =
    let contents = g.W.Write.contents in
    let h = c.loop-rest.invariant in
    let r = c.loop-rest.rest.now in
    let n = c.in-Ok.n in
    (h.0 ++ take n r, h.1 ∙ ap (λ t. h.0 ++ t) (sym (take-append-drop n r) ∙ ap (λ t. take n r ++ t) (sym c.split_at.ensures.back)) ∙ sym (append_assoc h.0 (take n r) c.split_at.result.1.now), Appends-trans (contents c.args.writer.now) (contents c.loop-rest.writer) (contents c.write.new.self) h.0 (take n r) h.2 c.in-Ok.ensures.bytes)

pub returns : goal.returns
returns g c =
    let contents = g.W.Write.contents in
    let h = c.loop-rest.invariant in
    let none : c.loop-rest.rest.now ≡ [] = nil_from_length c.loop-rest.rest.now (eqb-true _ _ (sym c.is_empty.ensures ∙ c.loop-rest-test.false)) in
    let all : h.0 ≡ c.args.bytes.now = sym (h.1 ∙ ap (λ t. h.0 ++ t) none ∙ append-nil h.0) in
    record { all = subst (Appends (contents c.args.writer.now) (contents c.loop-rest.writer)) all h.2; front = tt }
