use Rattle.std.proofs.Common.{refl}
use Rattle.pcef_core.proofs.Ended.{all_told}
use Rattle.pcef_core.proofs.GoneOff.{gone_off}
use Rattle.pcef_core.proofs.Grants.{grants_reported}
use Rattle.pcef_core.proofs.Order.{ascends_in_order, permutes_in_order}
use Rattle.pcef_core.proofs.Told.{told_all}
use Rattle.pcef_core.specs.Reporting.{names_on}
use Rattle.pcef_model.specs.Reports.{in_order}
use Rattle.pcef_core.proofs.laws.reports_say_what_is_due.Goals as goal

pub returns-clause-grants : goal.returns-clause-grants
returns-clause-grants c = grants_reported

pub returns-clause-all : goal.returns-clause-all
returns-clause-all c = told_all

pub returns-clause-end : goal.returns-clause-end
returns-clause-end c = all_told

pub returns-clause-off : goal.returns-clause-off
returns-clause-off c = gone_off

pub returns-clause-order : goal.returns-clause-order
returns-clause-order c =
    λ g id. (in_order (names_on g id), refl, permutes_in_order (names_on g id), ascends_in_order (names_on g id))
