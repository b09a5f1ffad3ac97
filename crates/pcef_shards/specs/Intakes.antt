-- What a thread's reader has left (own choice).
use Rattle.std.specs.Prelude.{ℕ, List, drop, Option}
use Rattle.rtrb.specs.Ring.{received}
use Rattle.pcef_shards.specs.declared.intake.Led.{Led}
use Rattle.pcef_shards.specs.Leading.{octets_in, to_come}

module _ {N : Type 0} where
  -- the octets that are at hand
  abbrev pub at_hand : Led N → List ℕ
  at_hand l = drop l.given l.block.items

  -- all that is still to come, where the parts are known
  abbrev pub left_of : (ℕ → Option (List ℕ)) → Led N → Option (List ℕ)
  left_of part l = to_come (part l.thread) (octets_in (received l.taker)) (at_hand l)
