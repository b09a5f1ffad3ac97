use Rattle.pcef_renewal.proofs.Counting.{new_even, new_reach_alike, packets_reach_alike}
use Rattle.pcef_renewal.proofs.Granting.{command_reach_alike}
use Rattle.pcef_renewal.proofs.Reporting.{commands_report_alike, packets_report_alike}
use Rattle.pcef_renewal.proofs.laws.alike_sessions_reach_alike.Goals as goal

pub returns-clause-begin : goal.returns-clause-begin
returns-clause-begin c = new_reach_alike

pub returns-clause-even : goal.returns-clause-even
returns-clause-even c = new_even

pub returns-clause-packets : goal.returns-clause-packets
returns-clause-packets c = packets_reach_alike

pub returns-clause-commands : goal.returns-clause-commands
returns-clause-commands c = command_reach_alike

pub returns-clause-packet_reports : goal.returns-clause-packet_reports
returns-clause-packet_reports c = packets_report_alike

pub returns-clause-command_reports : goal.returns-clause-command_reports
returns-clause-command_reports c = commands_report_alike
