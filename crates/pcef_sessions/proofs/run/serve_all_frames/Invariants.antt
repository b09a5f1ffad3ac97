use Rattle.std.proofs.Common.{◌≡◌, List, length, ℕ}
use Rattle.std.specs.Io.KnownBytes.{Consumes}
use Rattle.pcef_sessions.specs.Standing.{fixed}
use Rattle.pcef_sessions.specs.private.Framing.{StandsFramed}
use Rattle.pcef_sessions.proofs.run.serve_all_frames.Given as goal

abbrev pub invariant-loop : goal.invariant-loop
invariant-loop g l = record {
  input : List ℕ;
  read : Consumes (g.R.Read.remaining l.fn.reader) (g.R.Read.remaining l.reader) input;
  after : StandsFramed (fixed l.fn.sessions) (g.W.Write.contents l.fn.writer) (g.W.Write.contents l.writer) l.framing l.pending.items input;
  room : length l.block ≡ 65536;
}
