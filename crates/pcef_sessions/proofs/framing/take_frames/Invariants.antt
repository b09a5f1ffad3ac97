use Rattle.std.proofs.Common.{◌++◌, List, Option, ℕ, length, map}
use Rattle.pcef_model.specs.Setting.{Setting}
use Rattle.pcef_sessions.specs.Framed.{AreFrames}
use Rattle.pcef_sessions.specs.Frames.{Meaning, meaning}
use Rattle.pcef_sessions.specs.private.Framing.{StandsWoven}
use Rattle.pcef_sessions.proofs.framing.take_frames.Given as goal

abbrev pub invariant-frames : goal.invariant-frames
invariant-frames g l = record {
  frames : List (List ℕ);
  taken : AreFrames l.octets frames l.rest;
  after : (p : Setting) (meant : List Meaning) (start : Option (List ℕ))
      → StandsWoven p meant start (g.W.Write.contents l.fn.writer) l.fn.framing
      → StandsWoven p (meant ++ map meaning frames) start (g.W.Write.contents l.writer) l.framing;
}

abbrev pub decreases-frames : goal.decreases-frames
decreases-frames g l = length l.rest
