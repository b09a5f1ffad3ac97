use Rattle.std.proofs.Common.{◌≡◌, map, take}
use Rattle.pcef_model.specs.Outcomes.{judged_of}
use Rattle.pcef_session.specs.Following.{row_of}
use Rattle.pcef_session.proofs.rows.note_rows.Given as goal

abbrev pub invariant-loop-item : goal.invariant-loop-item
invariant-loop-item l = l.judged.items ≡ map judged_of (map row_of (take l.item-index l.items))
