use Rattle.std.proofs.Common.{List, Option, ℕ, length}
use Rattle.pcef_capture_file.specs.Streams.{StandsBehind}
use Rattle.pcef_capture_script.specs.Progress.{IsWrittenAfter}
use Rattle.pcef_capture_script.specs.Scripts.{Rota}
use Rattle.pcef_capture_script.proofs.writing.put_whole.Given as goal

-- whatever stood before stands now, behind the records or blocks so far
abbrev pub invariant-loop-packet : goal.invariant-loop-packet
invariant-loop-packet g l = record {
  after : (start : Option (List ℕ)) (rota : Rota) (input : List ℕ)
      → IsWrittenAfter l.plan.ue l.plan.pads rota start (g.W.Write.contents l.fn.writer) l.fn.written l.fn.stream l.fn.octets input
      → IsWrittenAfter l.plan.ue l.plan.pads rota start (g.W.Write.contents l.writer) l.written l.stream l.rest input;
  behind : StandsBehind l.fn.octets l.rest;
}

abbrev pub decreases-loop-packet : goal.decreases-loop-packet
decreases-loop-packet g l = length l.rest
