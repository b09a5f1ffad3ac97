use Rattle.std.proofs.Common.{◌≡◌, ◌∙◌, arith, length, sym}
use Rattle.std.specs.Vec.{vec_len}
use Rattle.std.proofs.lemmas.Bool.{eqb-true}
use Rattle.pcef_index.proofs.Parting.{none_left, one_part, two_parts}
use Rattle.pcef_index.proofs.based.Based.after.Goals as goal
use Rattle.pcef_index.proofs.based.Based.after.Goals.{then-is_empty, else-is_empty+in_ok-new}

pub returns : goal.returns
returns c =
    let sources = c.args.sources.now in
    elim c.if-is_empty.branch [
      | then-is_empty w ↦
          (let none : length c.in_ok-older.rest.items ≡ 0 = (let e = eqb-true (vec_len c.in_ok-older.rest) 0 (sym c.is_empty.ensures ∙ w.if-is_empty.true) in omega (arith, e)) in
          one_part sources _ w.newer-is c.in_ok-older.ensures.part (none_left sources c.in_ok-older.older c.in_ok-older.rest.items none c.in_ok-older.ensures.rest))
      | else-is_empty+in_ok-new w ↦
          two_parts sources _ w.in_ok-new.field-0 c.in_ok-older.rest.items w.newer-is c.in_ok-older.ensures.part c.in_ok-older.ensures.rest w.in_ok-new.ensures.newer w.in_ok-new.ensures.all
    ]
