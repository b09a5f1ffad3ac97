use Rattle.std.proofs.Common.{length}
use Rattle.pcef_cli.proofs.capture.following.take_whole.Given as goal

abbrev pub decreases-loop-frame : goal.decreases-loop-frame
decreases-loop-frame g l = length l.rest
