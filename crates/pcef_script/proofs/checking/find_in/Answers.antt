use Rattle.std.proofs.Common.{rules, ◌≡◌, ◌∙◌, ◌+◌, ◌++◌, ◌∷◌, [], length, length-append, append_assoc, ap, arith, refl, subst, sym}
use Rattle.std.specs.Prelude.{Some, None, option_map}
use Rattle.pcef_script.specs.Scripts.{IsFirstLine, all_lines}
use Rattle.pcef_world.specs.Steps.{standing_of}
use Rattle.pcef_script.specs.Findings.{Finds}
use Rattle.pcef_script.proofs.Findings.{finds_added}
use Rattle.pcef_script.proofs.checking.find_in.Goals as goal

pub loop-lines-init : goal.loop-lines-init
loop-lines-init g c = record { lines = []; whole = refl; finds = (c.new-found.ensures.items, refl); number = refl; room = omega arith; setting = refl }

pub overflow_add-number : goal.overflow_add-number
overflow_add-number g c = let room = c.loop-lines.invariant.room in search rules

pub loop-lines-smaller : goal.loop-lines-smaller
loop-lines-smaller g c =
    let first : IsFirstLine c.loop-lines.rest.now c.first_line.result.0.now (Some c.in-Some.later.now) =
    subst (λ o. IsFirstLine c.loop-lines.rest.now c.first_line.result.0.now (option_map (λ r. r.now) o)) c.in-Some.is c.first_line.ensures in
    omega (arith, first.1)

pub loop-lines-preserved : goal.loop-lines-preserved
loop-lines-preserved g c =
    let i = c.loop-lines.invariant in
    let w = c.args.world in
    let line = c.first_line.result.0.now in
    let later = c.in-Some.later.now in
    let first : IsFirstLine c.loop-lines.rest.now line (Some later) =
    subst (λ o. IsFirstLine c.loop-lines.rest.now line (option_map (λ r. r.now) o)) c.in-Some.is c.first_line.ensures in
    let longer : length (i.lines ++ line ∷ []) ≡ length i.lines + 1 = length-append i.lines (line ∷ []) in
    record {
      lines = i.lines ++ line ∷ [];
      whole = i.whole ∙ ap (λ t. i.lines ++ t) first.0 ∙ sym (append_assoc i.lines (line ∷ []) (all_lines later));
      finds = finds_added w c.loop-lines.world c.play.new.world (c.loop-lines.number + 1) i.lines line c.loop-lines.found.items c.push.new.found.items c.in_ok-next.next
          i.setting (omega (arith, i.number)) i.finds c.in_ok-next.ensures.found c.in_ok-push.ensures;
      number = ap (λ n. n + 1) i.number ∙ sym longer;
      room = omega (arith, i.room, first.1);
      setting = c.play.ensures.setting ∙ i.setting;
    }

pub returns-in-None : goal.returns-in-None
returns-in-None g c =
    let i = c.loop-lines.invariant in
    let w = c.args.world in
    let line = c.first_line.result.0.now in
    let first : IsFirstLine c.loop-lines.rest.now line None =
    subst (λ o. IsFirstLine c.loop-lines.rest.now line (option_map (λ r. r.now) o)) c.in-None.is c.first_line.ensures in
    let whole : all_lines c.args.input.now ≡ i.lines ++ line ∷ [] = i.whole ∙ ap (λ t. i.lines ++ t) first in
    let after = standing_of c.play.new.world in (
      after,
      subst (λ ls. Finds w.session.setting (standing_of w) 1 ls c.push.new.found.items after) (sym whole)
          (finds_added w c.loop-lines.world c.play.new.world (c.loop-lines.number + 1) i.lines line c.loop-lines.found.items c.push.new.found.items c.in_ok-next.next
          i.setting (omega (arith, i.number)) i.finds c.in_ok-next.ensures.found c.in_ok-push.ensures),
    )
