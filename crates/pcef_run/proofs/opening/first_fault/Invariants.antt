use Rattle.std.proofs.Common.{◌≡◌, drop}
use Rattle.pcef_model.specs.Refusals.{first_of}
use Rattle.pcef_run.specs.Opening.{list_faults}
use Rattle.pcef_run.proofs.opening.first_fault.Given as goal

abbrev pub invariant-loop-asked : goal.invariant-loop-asked
invariant-loop-asked l = record {
  number : l.number ≡ l.asked-index;
  first : first_of (list_faults 0 l.profiles) ≡ first_of (list_faults l.number (drop l.asked-index l.profiles));
}
