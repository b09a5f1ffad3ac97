use Rattle.std.proofs.Common.{◌≡◌, ◌+◌, ◌-◌, List, length, ℕ}
use Rattle.std.specs.Io.KnownBytes.{Consumes}
use Rattle.pcef_script.specs.ScriptLines.{script_most}
use Rattle.pcef_script.specs.Running.{IsAfter}
use Rattle.pcef_script.proofs.run.run.Given as goal

abbrev pub invariant-loop-script : goal.invariant-loop-script
invariant-loop-script g l = record {
  input : List ℕ;
  read : Consumes (g.R.Read.remaining l.fn.reader) (g.R.Read.remaining l.reader) input;
  after : IsAfter l.fn.world.session.setting (g.W.Write.contents l.fn.writer) (g.W.Write.contents l.writer) l.script.line l.script.faults l.script.world input;
  offers : l.script.world.session.setting.catalog ≡ l.fn.world.session.setting.catalog;
  room : length l.block ≡ 8192;
}

abbrev pub decreases-loop-script : goal.decreases-loop-script
decreases-loop-script g l = script_most + 1 - l.script.line.read
