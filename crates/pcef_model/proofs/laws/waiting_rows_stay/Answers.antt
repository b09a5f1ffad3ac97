use Rattle.pcef_model.specs.declared.entry.Entry.TheVariants as entry
use Rattle.pcef_model.proofs.Growth.{at_after_command}
use Rattle.std.specs.Prelude.{◌∷◌}
use Rattle.pcef_model.proofs.RowsLater.{batch_later, later_command, later_row}
use Rattle.pcef_model.proofs.SlotsLater.{counts_later}
use Rattle.pcef_model.proofs.SlotsGrow.{slots_grow_by}
use Rattle.pcef_model.proofs.laws.waiting_rows_stay.Goals as goal

pub returns : goal.returns
returns c = record {
  commands = λ p j c2 worker rs batch. batch_later p worker j (entry.Command c2 ∷ j) rs (later_command p worker j c2) batch;
  others = λ p j other worker rs differs batch. batch_later p worker j (entry.Row other ∷ j) rs (later_row p worker j other differs) batch;
  slots = λ p j c2 row own known counts.
      counts_later p j (entry.Command c2 ∷ j) row own (at_after_command p j c2 row.generation known) (slots_grow_by p j c2) counts;
}
