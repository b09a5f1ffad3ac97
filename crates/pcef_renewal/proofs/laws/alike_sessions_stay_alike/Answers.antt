use Rattle.pcef_renewal.proofs.Calling.{numbers_called}
use Rattle.pcef_renewal.proofs.Refusing.{refuse_alike}
use Rattle.pcef_renewal.proofs.Renumbered.{numbers_apart}
use Rattle.pcef_renewal.proofs.Staying.{command_alike, like_is_alike, rows_alike, workers_alike}
use Rattle.pcef_renewal.proofs.laws.alike_sessions_stay_alike.Goals as goal

pub returns-clause-begin : goal.returns-clause-begin
returns-clause-begin c = like_is_alike

pub returns-clause-bearers : goal.returns-clause-bearers
returns-clause-bearers c = numbers_apart

pub returns-clause-commands : goal.returns-clause-commands
returns-clause-commands c = command_alike

pub returns-clause-refused : goal.returns-clause-refused
returns-clause-refused c = refuse_alike

pub returns-clause-rows : goal.returns-clause-rows
returns-clause-rows c = rows_alike

pub returns-clause-workers : goal.returns-clause-workers
returns-clause-workers c = workers_alike

pub returns-clause-called : goal.returns-clause-called
returns-clause-called c = numbers_called
