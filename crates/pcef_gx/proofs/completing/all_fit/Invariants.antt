use Rattle.std.proofs.Common.{◌≡◌, drop}
use Rattle.std.specs.List.{list_all}
use Rattle.pcef_gx.specs.Completing.{fits_session}
use Rattle.pcef_gx.proofs.completing.all_fit.Given as goal

-- all fit where all of the rest do
abbrev pub invariant-loop-filter : goal.invariant-loop-filter
invariant-loop-filter l = list_all (fits_session l.ue) (drop l.filter-index l.filters) ≡ list_all (fits_session l.ue) l.filters
