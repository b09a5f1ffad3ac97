use Rattle.std.proofs.Common.{◌≡◌}
use Rattle.pcef_index.specs.private.Blocks.{IsLaid}
use Rattle.pcef_index.proofs.rows.Rows.new.Given as goal

abbrev pub invariant-loop-block : goal.invariant-loop-block
invariant-loop-block l = record {
  laid : IsLaid l.block l.layout;
  rows : l.layout.rows ≡ l.rows;
}
