-- What stands in a journal, the oldest first.
use Rattle.std.specs.Prelude.{ℕ, List, map, reverse}
use Rattle.pcef_packet.specs.declared.header.Header.{Header}
use Rattle.pcef_model.specs.declared.command.Command.{Command}
use Rattle.pcef_model.specs.declared.report.Report.{Report}
use Rattle.pcef_model.specs.Entries.{Journal, commands, lane, reports}

abbrev pub commands_of : Journal → List Command
commands_of j = reverse (commands j)

abbrev pub reports_of : Journal → List Report
reports_of j = reverse (reports j)

-- the packets of a worker's rows
abbrev pub lane_headers : Journal → ℕ → List Header
lane_headers j worker = map (λ r. r.header) (reverse (lane j worker))
