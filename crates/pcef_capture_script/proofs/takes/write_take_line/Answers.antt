use Rattle.pcef_capture_script.specs.Lines.{take_line}
use Rattle.pcef_capture_script.proofs.takes.write_take_line.Goals as goal

pub returns : goal.returns
unfolding take_line
returns g c = rw (← c.word-dir.ensures, ← c.in_ok-packet.ensures) c.writeln.ensures.bytes
