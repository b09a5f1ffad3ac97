use Rattle.std.proofs.Common.{rules, ◌≡◌, ◌∙◌, ◌+◌, ◌++◌, ◌∷◌, [], List, ℕ, length, length-append, append_assoc, ap, arith, refl, subst, sym}
use Rattle.std.specs.Prelude.{Some, None, option_map}
use Rattle.pcef_script.specs.Scripts.{IsFirstLine, all_lines}
use Rattle.pcef_script.proofs.FirstLines.{first_then}
use Rattle.pcef_run.specs.Orders.{AreOrdered}
use Rattle.pcef_run.proofs.OrderLines.{fails_at}
use Rattle.pcef_run.proofs.orders.orders_of.Goals as goal

pub loop-untaken-init : goal.loop-untaken-init
loop-untaken-init c = record { lines = []; whole = refl; ordered = c.new-orders.ensures.items; number = refl; room = omega arith }

pub overflow_add-number : goal.overflow_add-number
overflow_add-number c = let room = c.loop-untaken.invariant.room in search rules

pub returns-in-Err-clause-fault : goal.returns-in-Err-clause-fault
returns-in-Err-clause-fault c =
    let i = c.loop-untaken.invariant in
    let line = c.first_line.result.0.now in
    let then = first_then c.loop-untaken.rest.now line _ c.first_line.ensures in
    fails_at c.args.sessions (all_lines c.args.input.now) i.lines line then.0 c.loop-untaken.orders.items _ c.in-Err.untaken c.at.result (i.whole ∙ ap (λ t. i.lines ++ t) then.1)
    (ap (λ n. n + 1) i.number) i.ordered c.in-Err.ensures.wrong c.at.ensures

pub loop-untaken-smaller : goal.loop-untaken-smaller
loop-untaken-smaller c =
    let first : IsFirstLine c.loop-untaken.rest.now c.first_line.result.0.now (Some c.in-Some.later.now) =
    subst (λ o. IsFirstLine c.loop-untaken.rest.now c.first_line.result.0.now (option_map (λ r. r.now) o)) c.in-Some.is c.first_line.ensures in
    omega (arith, first.1)

pub loop-untaken-preserved : goal.loop-untaken-preserved
loop-untaken-preserved c =
    let i = c.loop-untaken.invariant in
    let line = c.first_line.result.0.now in
    let later = c.in-Some.later.now in
    let first : IsFirstLine c.loop-untaken.rest.now line (Some later) =
    subst (λ o. IsFirstLine c.loop-untaken.rest.now line (option_map (λ r. r.now) o)) c.in-Some.is c.first_line.ensures in
    let longer : length (i.lines ++ line ∷ []) ≡ length i.lines + 1 = length-append i.lines (line ∷ []) in
    record {
      lines = i.lines ++ line ∷ [];
      whole = i.whole ∙ ap (λ t. i.lines ++ t) first.0 ∙ sym (append_assoc i.lines (line ∷ []) (all_lines later));
      ordered = c.in-Ok.ensures.taken i.lines i.ordered;
      number = ap (λ n. n + 1) i.number ∙ sym longer;
      room = omega (arith, i.room, first.1);
    }

pub returns-in-None-clause-orders : goal.returns-in-None-clause-orders
returns-in-None-clause-orders c =
    let i = c.loop-untaken.invariant in
    let line = c.first_line.result.0.now in
    let first : IsFirstLine c.loop-untaken.rest.now line None =
    subst (λ o. IsFirstLine c.loop-untaken.rest.now line (option_map (λ r. r.now) o)) c.in-None.is c.first_line.ensures in
    let whole : all_lines c.args.input.now ≡ i.lines ++ line ∷ [] = i.whole ∙ ap (λ t. i.lines ++ t) first in
    subst (λ ls. AreOrdered c.args.sessions ls c.take_line.new.orders.items) (sym whole) (c.in-Ok.ensures.taken i.lines i.ordered)
