-- Worked examples of what journals say, worked out by hand from TS 29.212 and TS 23.203. Each is proved by working the
-- definitions out.
use Rattle.std.proofs.Common.{◌≡◌, refl, ℕ, true, false, List, [], ◌∷◌, None, Some, map}
use Rattle.std.specs.Prelude.{codes}
use Rattle.pcef_packet.specs.declared.header.Dir.TheVariants.{Up}
use Rattle.pcef_rule.specs.declared.gate.Gate.TheVariants.{Enabled, EnabledUplink}
use Rattle.pcef_model.specs.declared.verdict.Verdict.TheVariants.{Gated, Passed, Stray, Unmatched}
use Rattle.pcef_model.specs.declared.command.Command.TheVariants.{Close, Install, LoseBearer, Monitor, Notice, Remove, ReportNow, Stop, Terminate, Triggers}
use Rattle.pcef_model.specs.declared.entry.Entry.TheVariants as entry
use Rattle.pcef_model.specs.declared.level.Level.TheVariants.{Rule}
use Rattle.pcef_model.specs.declared.report.Body.TheVariants.{Access, Inactive, Usage}
use Rattle.pcef_model.specs.declared.report.Cause.{Cause}
use Rattle.pcef_model.specs.declared.report.Cause.TheVariants.{Disabled, Requested, RulesGone, Terminated, Threshold}
use Rattle.pcef_model.specs.declared.report.InactiveCause.TheVariants.{BearerLost}
use Rattle.pcef_model.specs.declared.report.Report.{Report}
use Rattle.pcef_model.specs.declared.trigger.AccessKind.TheVariants.{RatChange}
use Rattle.pcef_model.specs.Entries.{Journal}
use Rattle.pcef_model.specs.Journals.{at, attach_count, attached, counted, counts_in, gen, grant, verdict_at, no_triggers, now, slots, unreported}
use Rattle.pcef_model.proofs.ExampleSession.{Event, accept, flush, history, on_default, packet_of, qos_of, row_of, rule_of, session_on, told, vid, web, worked_out}

abbrev web_rule : Event
web_rule = accept (Install (rule_of 9 Enabled web 17 vid))

-- a rule that no packet of these examples fits
abbrev idle : List ℕ → List ℕ → Event
idle name key = accept (Install (rule_of 9 Enabled name 6 key))

abbrev monitor : List ℕ → ℕ → Event
monitor key amount = accept (Monitor key amount Rule)

abbrev subscribe_usage : Event
subscribe_usage = accept (Triggers (record no_triggers { usage_report = true }))

-- the rule `web` with its key, and a packet of 28 octets
abbrev short : List Event
short = web_rule ∷ monitor vid 1000 ∷ flush (28 ∷ []) ∷ []

abbrev short_journal : Journal
short_journal = history (session_on 9) short

-- ---- generations and verdicts
-- Install and Monitor each make a generation; rows and workers make none
generations_of_the_short_journal : gen short_journal ≡ 2
unfolding worked_out
generations_of_the_short_journal = refl

-- the first generation has no rule, the others have `web`
verdicts_of_the_short_journal :
    map (λ g. verdict_at (session_on 9) (at (session_on 9) short_journal g) (packet_of 28)) (0 ∷ 1 ∷ 2 ∷ []) ≡ Unmatched ∷ on_default ∷ on_default ∷ []
unfolding worked_out
verdicts_of_the_short_journal = refl

-- the key is on in generation 2 alone
counting_of_the_short_journal :
    map (λ g. counts_in (session_on 9) (at (session_on 9) short_journal g) vid (packet_of 28)) (0 ∷ 1 ∷ 2 ∷ []) ≡ false ∷ false ∷ true ∷ []
unfolding worked_out
counting_of_the_short_journal = refl

-- what the short journal says of its key
usage_of_the_short_journal : counted (session_on 9) short_journal vid ≡ 28
unfolding worked_out
usage_of_the_short_journal = refl

grant_of_the_short_journal : grant short_journal vid ≡ Some 1000
unfolding worked_out
grant_of_the_short_journal = refl

slots_of_the_short_journal : slots (session_on 9) short_journal ≡ vid ∷ []
unfolding worked_out
slots_of_the_short_journal = refl

-- a row counts by the generation that judged it, however late it comes: before the Monitor the key was off
a_row_counts_by_its_own_generation :
    counted (session_on 9) (entry.Row (record (row_of 28) { generation = 1 }) ∷ short_journal) vid ≡ 28
unfolding worked_out
a_row_counts_by_its_own_generation = refl

another_row_counts : counted (session_on 9) (entry.Row (row_of 28) ∷ short_journal) vid ≡ 56
unfolding worked_out
another_row_counts = refl

-- a gate that is open uplink alone
a_closed_gate : verdict_at (session_on 9) (now (session_on 9) (history (session_on 9) (accept (Install (rule_of 9 EnabledUplink web 17 vid)) ∷ []))) (packet_of 28) ≡ Gated web
unfolding worked_out
a_closed_gate = refl

-- a packet that the user equipment would send from another address
a_stray_packet : verdict_at (session_on 9) (now (session_on 9) short_journal) (record (packet_of 28) { dir = Up }) ≡ Stray
unfolding worked_out
a_stray_packet = refl

-- ---- bearers
-- where the default bearer has another QCI, the rule gets the first other bearer, and goes with it
abbrev lost : Journal
lost = history (session_on 8) (web_rule ∷ accept (LoseBearer (record { 0 = 6 })) ∷ [])

a_rule_on_a_bearer_of_its_own :
    map (λ g. verdict_at (session_on 8) (at (session_on 8) lost g) (packet_of 28)) (0 ∷ 1 ∷ 2 ∷ []) ≡ Unmatched ∷ Passed web (record { 0 = 6 }) ∷ Unmatched ∷ []
unfolding worked_out
a_rule_on_a_bearer_of_its_own = refl

-- a new pair gets the least id that is free, and the others keep theirs
abbrev on_qci : ℕ → List ℕ → Event
on_qci qci name = accept (Install (rule_of qci Enabled name 17 vid))

abbrev three_bearers : Journal
three_bearers = history (session_on 9) (on_qci 6 (codes "a") ∷ on_qci 7 (codes "b") ∷ accept (Remove (codes "a")) ∷ on_qci 8 (codes "c") ∷ [])

ids_of_bearers : map (λ q. (now (session_on 9) three_bearers).id_of (qos_of q)) (9 ∷ 7 ∷ 8 ∷ []) ≡ 5 ∷ 7 ∷ 6 ∷ []
unfolding worked_out
ids_of_bearers = refl

-- ---- workers
workers_of_the_short_journal : attached short_journal ≡ 0 ∷ []
unfolding worked_out
workers_of_the_short_journal = refl

a_worker_that_left : attached (entry.Leave 0 ∷ short_journal) ≡ []
unfolding worked_out
a_worker_that_left = refl

a_worker_that_left_still_counts : attach_count (entry.Leave 0 ∷ short_journal) ≡ 1
unfolding worked_out
a_worker_that_left_still_counts = refl

-- ---- reports of usage
abbrev usage : ℕ → List ℕ → ℕ → Cause → Report
usage number key octets cause = record { number = number; body = Usage key octets cause }

-- two rows together reach a grant; the next rows have none, and a flush of no rows reports nothing
abbrev reached : Journal
reached = history (session_on 9) (web_rule ∷ monitor vid 1000 ∷ subscribe_usage ∷ flush (600 ∷ 600 ∷ []) ∷ flush (5000 ∷ []) ∷ flush [] ∷ [])

a_grant_that_a_flush_reaches : told reached ≡ usage 0 vid 1200 Threshold ∷ []
unfolding worked_out
a_grant_that_a_flush_reaches = refl

a_grant_that_was_reached_is_gone : grant reached vid ≡ None
unfolding worked_out
a_grant_that_was_reached_is_gone = refl

what_comes_after_it_is_unreported : unreported (session_on 9) reached vid ≡ 5000
unfolding worked_out
what_comes_after_it_is_unreported = refl

a_grant_that_is_not_reached :
    told (history (session_on 9) (web_rule ∷ monitor vid 1000 ∷ subscribe_usage ∷ flush (999 ∷ []) ∷ [])) ≡ []
unfolding worked_out
a_grant_that_is_not_reached = refl

-- a reached grant is reported only while usage reports are subscribed, by whatever event comes then; a report that was
-- asked for leaves the grant
a_grant_waits_for_the_subscription :
    told (history (session_on 9)
    (web_rule ∷ monitor vid 28 ∷ flush (28 ∷ []) ∷ accept (ReportNow vid) ∷ flush (40 ∷ []) ∷ subscribe_usage ∷ flush (50 ∷ []) ∷ monitor vid 50 ∷ []))
    ≡ usage 0 vid 28 Requested ∷ usage 1 vid 40 Threshold ∷ usage 2 vid 50 Threshold ∷ []
unfolding worked_out
a_grant_waits_for_the_subscription = refl

abbrev asked_for : Journal
asked_for = history (session_on 9) (web_rule ∷ monitor vid 1000 ∷ flush (28 ∷ []) ∷ accept (ReportNow vid) ∷ [])

a_report_that_is_asked_for : told asked_for ≡ usage 0 vid 28 Requested ∷ []
unfolding worked_out
a_report_that_is_asked_for = refl

it_leaves_the_grant : grant asked_for vid ≡ Some 1000
unfolding worked_out
it_leaves_the_grant = refl

it_makes_no_generation : gen asked_for ≡ 2
unfolding worked_out
it_makes_no_generation = refl

abbrev stopped : Journal
stopped = history (session_on 9) (web_rule ∷ monitor vid 1000 ∷ flush (28 ∷ []) ∷ accept (Stop vid) ∷ [])

a_key_that_is_stopped : told stopped ≡ usage 0 vid 28 Disabled ∷ []
unfolding worked_out
a_key_that_is_stopped = refl

it_is_off : (now (session_on 9) stopped).on ≡ []
unfolding worked_out
it_is_off = refl

-- a key goes off with its last rule, and is reported once
the_last_rule_of_a_key_is_removed :
    told (history (session_on 9) (web_rule ∷ monitor vid 1000 ∷ accept (Remove web) ∷ flush (28 ∷ []) ∷ [])) ≡ usage 0 vid 0 RulesGone ∷ []
unfolding worked_out
the_last_rule_of_a_key_is_removed = refl

the_last_rule_of_a_key_takes_another_key :
    told (history (session_on 9)
    (web_rule ∷ monitor vid 1000 ∷ idle (codes "second") vid ∷ flush (28 ∷ []) ∷ accept (Remove web) ∷ accept (ReportNow vid) ∷ idle (codes "second") (codes "other") ∷ []))
    ≡ usage 0 vid 28 Requested ∷ usage 1 vid 0 RulesGone ∷ []
unfolding worked_out
the_last_rule_of_a_key_takes_another_key = refl

-- ---- the end of a session
-- a key that never had a rule stays on
abbrev closed : Journal
closed = history (session_on 9) (web_rule ∷ monitor (codes "all") 10 ∷ monitor vid 1000 ∷ accept Close ∷ [])

a_close : told closed ≡ usage 0 vid 0 RulesGone ∷ []
unfolding worked_out
a_close = refl

what_a_close_leaves_on : (now (session_on 9) closed).on ≡ codes "all" ∷ []
unfolding worked_out
what_a_close_leaves_on = refl

-- by the order of slots: `vid`, which is off and has late octets, then `all`, which is on; not `idle`, which never was
the_end_reports_late_octets :
    told (history (session_on 9)
    (web_rule ∷ monitor vid 1000 ∷ monitor (codes "all") 10 ∷ idle (codes "other") (codes "idle") ∷ accept (Stop vid) ∷ flush (28 ∷ []) ∷ accept Terminate ∷ []))
    ≡ usage 0 vid 0 Disabled ∷ usage 1 vid 28 Terminated ∷ usage 2 (codes "all") 0 Terminated ∷ []
unfolding worked_out
the_end_reports_late_octets = refl

-- ---- reports of rules and of events
abbrev gone_with_its_bearer : ℕ → List ℕ → Report
gone_with_its_bearer number rule = record { number = number; body = Inactive rule BearerLost }

-- by the bytes of their names, whatever the order in which they came
rules_of_a_lost_bearer :
    told (history (session_on 8)
    (idle (codes "b") vid ∷ idle (codes "a") vid ∷ idle (codes "ab") vid ∷ idle (codes "C") vid ∷ monitor vid 9 ∷ accept (LoseBearer (record { 0 = 6 })) ∷ []))
    ≡ gone_with_its_bearer 0 (codes "C") ∷ gone_with_its_bearer 1 (codes "a") ∷ gone_with_its_bearer 2 (codes "ab") ∷ gone_with_its_bearer 3 (codes "b")
    ∷ usage 4 vid 0 RulesGone ∷ []
unfolding worked_out
rules_of_a_lost_bearer = refl

abbrev change : Event
change = accept (Notice RatChange (codes "eutran"))

a_notice_where_it_is_subscribed :
    told (history (session_on 9) (change ∷ subscribe_usage ∷ change ∷ accept (Triggers (record no_triggers { rat_change = true })) ∷ change ∷ []))
    ≡ record { number = 0; body = Access RatChange (codes "eutran") } ∷ []
unfolding worked_out
a_notice_where_it_is_subscribed = refl
