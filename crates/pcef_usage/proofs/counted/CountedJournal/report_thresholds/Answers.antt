use Rattle.std.proofs.Common.{arith, sym, ap, subst, List, ◌∙◌, ◌≡◌, ◌≤◌, ◌<◌, ◌+◌, length}
use Rattle.std.specs.Prelude.{All}
use Rattle.pcef_model.specs.declared.pending_report.PendingReport.{PendingReport}
use Rattle.pcef_rule.specs.declared.quantity.Slot.{Slot}
use Rattle.pcef_usage.specs.declared.usage.KeyState.{KeyState}
use Rattle.pcef_usage.specs.Counted.{Counted}
use Rattle.pcef_usage.specs.PendingReports.{settled_states, threshold_reports, appended, after_reports}
use Rattle.pcef_usage.proofs.Settles.{matched, few_matched, places_known, settled_length}
use Rattle.pcef_usage.proofs.counted.CountedJournal.report_thresholds.Goals as goal

pub append_reached-requires-clause-known : goal.append_reached-requires-clause-known
append_reached-requires-clause-known c =
    subst (λ (xs : List Slot). All (λ s. s.0 < length c.settle-reached.new.self) xs) (sym c.as_slice.ensures.value)
    (places_known c.args.subscribed c.self.inside.usage c.settle-reached.new.self c.settle-reached.result.items c.settle-reached.ensures.slots
    (settled_length c.args.subscribed c.self.inside.usage c.settle-reached.new.self c.settle-reached.ensures.states))

pub append_reached-requires-clause-room : goal.append_reached-requires-clause-room
append_reached-requires-clause-room c =
    let few = few_matched c.args.subscribed c.self.inside.usage _ c.as_slice.result.now
    (matched c.args.subscribed c.self.inside.usage c.settle-reached.new.self _ _ c.settle-reached.ensures.slots c.settle-reached.ensures.states c.as_slice.ensures.value) in
    let room = subst (λ (v : Counted). length v.states ≤ v.room) (sym c.self.view_is) c.requires in omega (arith, few, room)

pub returns-clause-journal : goal.returns-clause-journal
returns-clause-journal c =
    subst (λ (v : Counted). c.append_reached.new.self.journal ≡ appended (threshold_reports c.args.subscribed v.states) (settled_states c.args.subscribed v.states) v.journal) c.self.view_is
    (c.append_reached.ensures.journal ∙ ap (λ (ts : List PendingReport). appended ts c.settle-reached.new.self c.self.inside.journal.entries)
    (matched c.args.subscribed c.self.inside.usage c.settle-reached.new.self _ _ c.settle-reached.ensures.slots c.settle-reached.ensures.states c.as_slice.ensures.value) ∙
    ap (λ (ss : List KeyState). appended (threshold_reports c.args.subscribed c.self.inside.usage) ss c.self.inside.journal.entries) c.settle-reached.ensures.states)

pub returns-clause-states : goal.returns-clause-states
returns-clause-states c =
    subst (λ (v : Counted). c.append_reached.new.self.states ≡ after_reports (threshold_reports c.args.subscribed v.states) (settled_states c.args.subscribed v.states)) c.self.view_is
    (c.append_reached.ensures.states ∙ ap (λ (ts : List PendingReport). after_reports ts c.settle-reached.new.self)
    (matched c.args.subscribed c.self.inside.usage c.settle-reached.new.self _ _ c.settle-reached.ensures.slots c.settle-reached.ensures.states c.as_slice.ensures.value) ∙
    ap (after_reports (threshold_reports c.args.subscribed c.self.inside.usage)) c.settle-reached.ensures.states)

pub returns-clause-room : goal.returns-clause-room
returns-clause-room c =
    let few = few_matched c.args.subscribed c.self.inside.usage _ c.as_slice.result.now
    (matched c.args.subscribed c.self.inside.usage c.settle-reached.new.self _ _ c.settle-reached.ensures.slots c.settle-reached.ensures.states c.as_slice.ensures.value) in
    subst (λ (v : Counted). v.room ≤ c.append_reached.new.self.room + length v.states) c.self.view_is (omega (arith, few, c.append_reached.ensures.room))
