use Rattle.std.proofs.Common.{◌≡◌, ◌∙◌, ◌-◌, [], ◌++◌, ap, append-nil, append_assoc, arith, length, refl, subst, sym, take}
use Rattle.std.proofs.lemmas.Bool.{eqb-true}
use Rattle.std.proofs.lemmas.List.{length-drop, nil_from_length}
use Rattle.std.proofs.lemmas.Result.{err_from_is_err_and}
use Rattle.pcef_script.specs.Running.{IsAfter}
use Rattle.pcef_script.proofs.ScriptSteps.{front_more, stopped_later}
use Rattle.pcef_script.proofs.running.take_block.Goals as goal

pub loop-rest-init : goal.loop-rest-init
loop-rest-init g c = record {
  front = [];
  whole = refl;
  after = λ p start input h. subst (IsAfter p start (g.W.Write.contents c.args.writer.now) c.args.script.now.line c.args.script.now.faults c.args.script.now.world) (sym (append-nil input)) h;
  offers = refl;
}

pub take_some-requires-clause-offered : goal.take_some-requires-clause-offered
take_some-requires-clause-offered g c = c.requires ∙ sym c.loop-rest.invariant.offers

pub returns-in_err-taken-clause-err : goal.returns-in_err-taken-clause-err
returns-in_err-taken-clause-err g c = λ p start input h.
    let q = err_from_is_err_and c.from_residual.result c.from_residual.ensures.1 in
    let i = c.loop-rest.invariant in
    rw (q.1, q.2) (stopped_later p c.in_err-taken.field-0.0 start (g.W.Write.contents c.take_some.new.writer) input i.front c.loop-rest.rest.now c.args.block.now i.whole
    (c.in_err-taken.ensures.err p start (input ++ i.front) (i.after p start input h)))

pub returns-in_err-taken-clause-offers : goal.returns-in_err-taken-clause-offers
returns-in_err-taken-clause-offers g c = c.take_some.ensures.offers ∙ c.loop-rest.invariant.offers

pub loop-rest-preserved : goal.loop-rest-preserved
loop-rest-preserved g c =
    let i = c.loop-rest.invariant in
    let r = c.loop-rest.rest.now in
    let n = c.in_ok-taken.taken in
    let script = c.take_some.new.script in
    record {
      front = i.front ++ take n r;
      whole = front_more c.args.block.now i.front r c.split_at.result.1.now n i.whole c.split_at.ensures.back;
      after = λ p start input h.
          subst (IsAfter p start (g.W.Write.contents c.take_some.new.writer) script.line script.faults script.world) (append_assoc input i.front (take n r))
          (c.in_ok-taken.ensures.ok p start (input ++ i.front) (i.after p start input h));
      offers = c.take_some.ensures.offers ∙ i.offers;
    }

pub loop-rest-smaller : goal.loop-rest-smaller
loop-rest-smaller g c =
    let r = c.loop-rest.rest.now in
    let n = c.in_ok-taken.taken in
    let len : length c.split_at.result.1.now ≡ length r - n = ap length c.split_at.ensures.back ∙ length-drop n r in
    omega (arith, len, c.in_ok-taken.ensures.goes_on)

pub returns-clause-ok : goal.returns-clause-ok
returns-clause-ok g c = λ p start input h.
    let i = c.loop-rest.invariant in
    let none : c.loop-rest.rest.now ≡ [] = nil_from_length c.loop-rest.rest.now (eqb-true _ _ (sym c.is_empty.ensures ∙ c.loop-rest-test.false)) in
    let all : i.front ≡ c.args.block.now = sym (i.whole ∙ ap (λ t. i.front ++ t) none ∙ append-nil i.front) in
    let script = c.loop-rest.script in
    subst (λ t. IsAfter p start (g.W.Write.contents c.loop-rest.writer) script.line script.faults script.world (input ++ t)) all (i.after p start input h)

pub returns-clause-offers : goal.returns-clause-offers
returns-clause-offers g c = c.loop-rest.invariant.offers
