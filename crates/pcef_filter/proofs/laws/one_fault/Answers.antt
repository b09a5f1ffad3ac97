use Rattle.pcef_filter.proofs.FilterLaws.{fault_once, fault_or_filter}
use Rattle.pcef_filter.proofs.laws.one_fault.Goals as goal

pub returns-clause-unique : goal.returns-clause-unique
returns-clause-unique c = fault_once

pub returns-clause-alone : goal.returns-clause-alone
returns-clause-alone c = fault_or_filter
