-- Worked examples of what stands after several commands, worked out by hand from TS 29.212 and TS 23.203. Each is proved by
-- working the definitions out.
use Rattle.std.proofs.Common.{◌≡◌, refl, ℕ, true, false, List, [], ◌∷◌, ◌++◌, Some}
use Rattle.std.specs.Prelude.{codes}
use Rattle.pcef_rule.specs.declared.gate.Gate.{Gate}
use Rattle.pcef_rule.specs.declared.gate.Gate.TheVariants.{Disabled, Enabled}
use Rattle.pcef_rule.specs.declared.quantity.Qos.{Qos}
use Rattle.pcef_model.specs.declared.command.Command.TheVariants.{Close, Install, Monitor, ReportNow, Triggers}
use Rattle.pcef_model.specs.declared.level.Level.TheVariants.{Rule, Session}
use Rattle.pcef_model.specs.declared.report.Body.TheVariants.{Usage}
use Rattle.pcef_model.specs.declared.report.Cause.TheVariants.{Requested, Threshold}
use Rattle.pcef_model.specs.declared.verdict.Verdict.TheVariants.{Gated, Unmatched}
use Rattle.pcef_model.specs.Entries.{Journal}
use Rattle.pcef_model.specs.Journals.{grant, no_triggers, now, subscribed, unreported, verdict_at}
use Rattle.pcef_model.specs.Reports.{after_flush}
use Rattle.pcef_model.proofs.ExampleSession.{Event, accept, flush, history, packet_of, qos_of, row_of, rule_of, session_on, told, vid, web, worked_out}

abbrev after_these : List Event → Journal
after_these events = history (session_on 9) events

-- ---- grants and subscriptions (TS 29.212, clauses 4.5.16 and 5.3.7)
a_monitor_replaces_the_older_grant : grant (after_these (accept (Monitor vid 28 Rule) ∷ accept (Monitor vid 1000 Rule) ∷ [])) vid ≡ Some 1000
unfolding worked_out
a_monitor_replaces_the_older_grant = refl

triggers_replace_the_older_ones :
    subscribed (after_these (accept (Triggers (record no_triggers { usage_report = true })) ∷ accept (Triggers (record no_triggers { rat_change = true })) ∷ []))
    ≡ record no_triggers { rat_change = true }
unfolding worked_out
triggers_replace_the_older_ones = refl

abbrev all : List ℕ
all = codes "all"

-- a key of the session and that of the rule `web`, each with a grant of 28 octets
abbrev two_grants : Journal
two_grants =
    after_these (accept (Install (rule_of 9 Enabled web 17 vid)) ∷ accept (Monitor vid 28 Rule) ∷ accept (Monitor all 28 Session)
    ∷ accept (Triggers (record no_triggers { usage_report = true })) ∷ [])

-- and one packet of 28 octets, judged by generation 3
abbrev both_reached : Journal
both_reached = after_flush (session_on 9) two_grants (record (row_of 28) { generation = 3 } ∷ [])

two_grants_that_one_packet_reaches_are_told_in_slot_order :
    told both_reached ≡ record { number = 0; body = Usage vid 28 Threshold } ∷ record { number = 1; body = Usage all 28 Threshold } ∷ []
unfolding worked_out
two_grants_that_one_packet_reaches_are_told_in_slot_order = refl

-- a key of the rule `web` with a grant of 50 octets
abbrev granted : List Event
granted =
    accept (Install (rule_of 9 Enabled web 17 vid)) ∷ accept (Monitor vid 50 Rule)
    ∷ accept (Triggers (record no_triggers { usage_report = true })) ∷ []

-- 28 octets are reported when a report is asked for, and 28 more don't reach the grant
a_report_that_is_asked_for_begins_the_grant_anew :
    told (after_these (granted ++ flush (28 ∷ []) ∷ accept (ReportNow vid) ∷ flush (28 ∷ []) ∷ []))
    ≡ record { number = 0; body = Usage vid 28 Requested } ∷ []
unfolding worked_out
a_report_that_is_asked_for_begins_the_grant_anew = refl

-- a key of the session stays on when the session is closed: packets that come late reach its grant
late_packets_reach_a_grant_after_a_close :
    told (after_these (accept (Install (rule_of 9 Enabled web 17 vid)) ∷ accept (Monitor all 28 Session)
    ∷ accept (Triggers (record no_triggers { usage_report = true })) ∷ accept Close ∷ flush (28 ∷ []) ∷ []))
    ≡ record { number = 0; body = Usage all 28 Threshold } ∷ []
unfolding worked_out
late_packets_reach_a_grant_after_a_close = refl

-- usage of the session is of what its rules pass (TS 29.212, clause 4.5.16)
an_unmatched_packet_counts_for_no_key_of_the_session :
    unreported (session_on 9)
    (after_flush (session_on 9) (after_these (accept (Monitor all 28 Session) ∷ []))
    (record (row_of 28) { generation = 1; verdict = Unmatched } ∷ []))
    all
    ≡ 0
unfolding worked_out
an_unmatched_packet_counts_for_no_key_of_the_session = refl

-- ---- decisions (TS 23.203, clause 6.2.2; TS 29.212, clause 5.3.11)
-- a rule of this name with this gate and this precedence value
abbrev with_gate : List ℕ → Gate → ℕ → Event
with_gate name gate precedence = accept (Install (record {
  properties = record (rule_of 9 gate name 17 vid).properties { precedence = precedence };
  filters = (rule_of 9 gate name 17 vid).filters;
}))

-- the open rule that comes later doesn't decide
a_closed_gate_hides_the_rules_behind_it :
    verdict_at (session_on 9) (now (session_on 9) (after_these (with_gate all Enabled 200 ∷ with_gate web Disabled 100 ∷ []))) (packet_of 28) ≡ Gated web
unfolding worked_out
a_closed_gate_hides_the_rules_behind_it = refl

-- ---- bearers (TS 23.203, clause 6.1.1.4): each part of the ARP makes another one
-- three rules of one QCI, whose ARPs differ from the default one in the level, and in one flag each
abbrev on_qos : List ℕ → Qos → Event
on_qos name qos = accept (Install (record {
  properties = record (rule_of 9 Enabled name 17 vid).properties { qos = qos };
  filters = (rule_of 9 Enabled name 17 vid).filters;
}))

abbrev with_level : Qos
with_level = record { qci = record { 0 = 9 }; arp = record { level = 7; capability = false; vulnerability = true } }

abbrev with_capability : Qos
with_capability = record { qci = record { 0 = 9 }; arp = record { level = 8; capability = true; vulnerability = true } }

abbrev without_vulnerability : Qos
without_vulnerability = record { qci = record { 0 = 9 }; arp = record { level = 8; capability = false; vulnerability = false } }

abbrev three_bearers : Journal
three_bearers = after_these (on_qos (codes "a") with_level ∷ on_qos (codes "b") with_capability ∷ on_qos (codes "c") without_vulnerability ∷ [])

their_ids : (now (session_on 9) three_bearers).id_of with_level ∷ (now (session_on 9) three_bearers).id_of with_capability
    ∷ (now (session_on 9) three_bearers).id_of without_vulnerability ∷ (now (session_on 9) three_bearers).id_of (qos_of 9) ∷ [] ≡ 6 ∷ 7 ∷ 8 ∷ 5 ∷ []
unfolding worked_out
their_ids = refl
