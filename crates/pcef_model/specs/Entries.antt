-- What stands in a journal (own choice). It is the list of its entries, the newest first.
use Rattle.std.specs.Prelude.{ℕ, ◌==◌, List, Option, Some, None, filter, filter_map}
use Rattle.pcef_model.specs.declared.command.Command.{Command}
use Rattle.pcef_model.specs.declared.entry.Entry.{Entry}
use Rattle.pcef_model.specs.declared.entry.Entry.TheVariants as entry
use Rattle.pcef_model.specs.declared.report.Report.{Report}
use Rattle.pcef_model.specs.declared.row.Row.{Row}

abbrev pub Journal : Type 0
Journal = List Entry

abbrev pub as_command : Entry → Option Command
as_command (entry.Command c) = Some c
as_command _ = None

abbrev pub as_row : Entry → Option Row
as_row (entry.Row r) = Some r
as_row _ = None

abbrev pub as_report : Entry → Option Report
as_report (entry.Report r) = Some r
as_report _ = None

-- the accepted commands, the packet rows and the reports, each the newest first
abbrev pub commands : Journal → List Command
commands j = filter_map as_command j

abbrev pub rows : Journal → List Row
rows j = filter_map as_row j

abbrev pub reports : Journal → List Report
reports j = filter_map as_report j

-- the rows of a worker, the newest first
abbrev pub lane : Journal → ℕ → List Row
lane j worker = filter (λ r. r.worker == worker) (rows j)
