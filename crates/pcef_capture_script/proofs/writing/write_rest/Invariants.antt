use Rattle.std.proofs.Common.{List, [], Option, ℕ}
use Rattle.std.specs.Io.KnownBytes.{Consumes}
use Rattle.pcef_capture_script.specs.Progress.{IsWrittenAfter, Reached, rota_of}
use Rattle.pcef_capture_script.proofs.writing.write_rest.Given as goal

-- whatever was read before, so it stands after that and what was read since
abbrev pub invariant-loop : goal.invariant-loop
invariant-loop g l =
    (before : Option (List ℕ)) (first : List ℕ)
    → Consumes before (g.R.Read.remaining l.fn.reader) first
    → Reached first [] l.fn.stream l.fn.waiting.items
    → (input : List ℕ) × Consumes before (g.R.Read.remaining l.reader) input
    × IsWrittenAfter l.plan.ue l.plan.pads (rota_of l.plan) (g.W.Write.contents l.fn.writer) (g.W.Write.contents l.writer) l.written l.stream l.waiting.items input
