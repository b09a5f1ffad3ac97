use Rattle.pcef_model.proofs.Growth.{at_after_command, at_after_report, at_after_row, counted_after_row, now_after_table}
use Rattle.pcef_model.proofs.laws.journals_grow.Goals as goal

pub returns : goal.returns
returns c = record {
  earlier = at_after_command;
  next = now_after_table;
  rows = at_after_row;
  reports = at_after_report;
  counted = counted_after_row;
}
