use Rattle.std.proofs.Common.{◌∙◌, ℕ, List, sym, ap, subst, refl, arith}
use Rattle.pcef_usage.specs.Keys.{keys_of}
use Rattle.pcef_usage.specs.PendingReports.{KnowsAll}
use Rattle.pcef_usage.proofs.Endings.{keys_all_stopped, length_left}
use Rattle.pcef_session.proofs.applying.report_all.Goals as goal

pub append_reports-requires-clause-known : goal.append_reports-requires-clause-known
append_reports-requires-clause-known c =
    subst (λ (keys : List (List ℕ)). KnowsAll keys c.args.all_pending.now) (sym (ap keys_of c.switch_off_reported.ensures.states ∙ keys_all_stopped c.args.all_pending.now c.args.counted.now.states))
    c.requires.known

pub report_thresholds-requires : goal.report_thresholds-requires
report_thresholds-requires c =
    let many = length_left c.args.counted.now.states _ _ _ c.args.all_pending.now c.args.all_pending.now refl c.switch_off_reported.ensures.states c.append_reports.ensures.states in
    omega (arith, many, c.requires.room, c.switch_off_reported.ensures.room, c.append_reports.ensures.room)

pub returns-clause-room : goal.returns-clause-room
returns-clause-room c =
    let many = length_left c.args.counted.now.states _ _ _ c.args.all_pending.now c.args.all_pending.now refl c.switch_off_reported.ensures.states c.append_reports.ensures.states in
    omega (arith, many, c.switch_off_reported.ensures.room, c.append_reports.ensures.room, c.report_thresholds.ensures.room)
