use Rattle.std.proofs.Common.{◌∙◌}
use Rattle.pcef_filter.proofs.FilterLaws.{filter_again, read_found, read_fault}
use Rattle.pcef_filter.proofs.reading.read_filter.Goals as goal

pub returns-clause-found : goal.returns-clause-found
returns-clause-found c = read_found _ _ _ c.read_allowed.ensures

pub returns-clause-only : goal.returns-clause-only
returns-clause-only c = λ f s. c.read_allowed.ensures ∙ filter_again _ _ f s

pub returns-clause-fault : goal.returns-clause-fault
returns-clause-fault c = read_fault _ _ _ c.read_allowed.ensures
