use Rattle.std.proofs.Common.{◌≡◌, ◌∙◌, ◌++◌, ◌∷◌, ◌+◌, ◌<◌, [], List, None, append-nil, append_assoc, ap, arith, drop, false, get_or, length, refl, subst, sym, take, ℕ}
use Rattle.std.proofs.lemmas.Bool.{eqb-true}
use Rattle.std.proofs.lemmas.List.{take_all}
use Rattle.std.proofs.lemmas.Result.{err_from_is_err_and}
use Rattle.pcef_script.specs.declared.fault.ScriptFault.TheVariants.{NoMemory}
use Rattle.pcef_script.specs.ScriptLines.{has_feed}
use Rattle.pcef_script.proofs.Feeds.{before_feed, feed_found}
use Rattle.pcef_script.proofs.ScriptSteps.{around}
use Rattle.pcef_sessions.specs.private.Running.{IsAfter}
use Rattle.pcef_sessions.proofs.Servings.{fed, runs_on, stopped_first, stopped_later}
use Rattle.pcef_sessions.proofs.running.take_block.Goals as goal

pub take_line-requires : goal.take_line-requires
take_line-requires g c =
    let r = c.lines.rest.now in
    ap has_feed c.split_at.ensures.front ∙ before_feed r r (length r) c.in-Some.place (sym (take_all (length r) r (omega arith))) (omega arith) refl c.in-Some.ensures

pub returns-in_err-take_line-clause-err : goal.returns-in_err-take_line-clause-err
returns-in_err-take_line-clause-err g c = λ p start input h.
    let q = err_from_is_err_and c.from_residual.result c.from_residual.ensures.1 in
    let i = c.lines.invariant in
    let r = c.lines.rest.now in
    let n = c.in-Some.place in
    let front = c.split_at.result.0.now in
    let whole = i.whole ∙ ap (λ t. i.front ++ t) (fed r n front c.split_at.ensures.front c.in-Some.ensures) in
    rw (q.1, q.2) (stopped_later p c.in_err-take_line.field-0.0 start (g.W.Write.contents c.take_line.new.writer) input i.front (front ++ 10 ∷ []) (drop (n + 1) r) c.args.block.now whole
    (c.in_err-take_line.ensures.err p start (input ++ i.front) (i.after p start input h)))

pub lines-preserved : goal.lines-preserved
lines-preserved g c =
    let i = c.lines.invariant in
    let r = c.lines.rest.now in
    let n = c.in-Some.place in
    let front = c.split_at.result.0.now in
    let s = c.take_line.new.serving in
    record {
      front = i.front ++ (front ++ 10 ∷ []);
      whole = i.whole ∙ ap (λ t. i.front ++ t) (fed r n front c.split_at.ensures.front c.in-Some.ensures) ∙ sym (append_assoc i.front (front ++ 10 ∷ []) (drop (n + 1) r))
          ∙ ap (λ t. (i.front ++ (front ++ 10 ∷ [])) ++ t) (sym c.split_at-in-Some.ensures.back);
      after = λ p start input h.
          subst (IsAfter p start (g.W.Write.contents c.take_line.new.writer) s.line.items s.sessions s.any_fault) (append_assoc input i.front (front ++ 10 ∷ []))
          (c.in_ok-take_line.ensures.ok p start (input ++ i.front) (i.after p start input h));
    }

pub returns-in_err-keep-clause-err : goal.returns-in_err-keep-clause-err
returns-in_err-keep-clause-err g c = λ p start input h.
    let q = err_from_is_err_and c.from_residual-in_err-keep.result c.from_residual-in_err-keep.ensures.1 in
    let i = c.lines.invariant in
    let r = c.lines.rest.now in
    let s = c.lines.serving in
    let now = g.W.Write.contents c.lines.writer in
    rw (q.1, q.2, c.in_err-keep.ensures.err) (stopped_later p NoMemory start now input i.front r [] c.args.block.now (i.whole ∙ ap (λ t. i.front ++ t) (sym (append-nil r)))
    (stopped_first p start now s.line.items s.sessions s.any_fault (input ++ i.front) r (i.after p start input h)))

pub returns-clause-ok : goal.returns-clause-ok
returns-clause-ok g c = λ p start input h.
    let i = c.lines.invariant in
    let r = c.lines.rest.now in
    let s = c.lines.serving in
    let now = g.W.Write.contents c.lines.writer in
    let none : has_feed r ≡ false = sym (feed_found r None c.in_default.ensures) in
    subst (λ t. IsAfter p start now c.keep.new.line.items s.sessions s.any_fault t) (append_assoc input i.front r ∙ ap (λ t. input ++ t) (sym i.whole))
    (runs_on p start now s.line.items c.keep.new.line.items s.sessions s.any_fault (input ++ i.front) r (i.after p start input h) none c.in_ok-keep.ensures.ok)
