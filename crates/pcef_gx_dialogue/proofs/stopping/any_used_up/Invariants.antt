use Rattle.std.proofs.Common.{◌≡◌}
use Rattle.std.specs.List.{list_any}
use Rattle.pcef_gx_dialogue.specs.Stopping.{is_used_up}
use Rattle.pcef_gx_dialogue.proofs.stopping.any_used_up.Given as goal

-- none was found so far
abbrev pub invariant-loop-report : goal.invariant-loop-report
invariant-loop-report l =
    list_any (λ r. is_used_up l.fn.key r.body) l.report-iterator ≡ list_any (λ r. is_used_up l.fn.key r.body) l.fn.reports
