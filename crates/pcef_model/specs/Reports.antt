-- What an event reports, and the journal after it. What is reported is that of TS 29.212, clauses 4.5.17
-- and 5.3.7; the order of reports is an own choice.
use Rattle.std.specs.Prelude.{ℕ, ◌==◌, Bool, false, not, ◌&&◌, ◌||◌, List, [], ◌∷◌, ◌++◌, Option, Some, None, filter, map, nat_le, nat_lt, if◌then◌else◌}
use Rattle.std.specs.Ordering.{nat_cmp, is_lt}
use Rattle.std.specs.Cmp.Lexicographic.{slice_cmp}
use Rattle.pcef_model.specs.declared.command.Command.{Command}
use Rattle.pcef_model.specs.declared.command.Command.TheVariants.{Stop, ReportNow, Notice, LoseBearer, Terminate}
use Rattle.pcef_model.specs.declared.entry.Entry.TheVariants as entry
use Rattle.pcef_model.specs.declared.report.Body.{Body}
use Rattle.pcef_model.specs.declared.report.Body.TheVariants as body
use Rattle.pcef_model.specs.declared.report.Cause.TheVariants.{Threshold, Requested, Disabled, RulesGone, Terminated}
use Rattle.pcef_model.specs.declared.report.InactiveCause.TheVariants.{BearerLost}
use Rattle.pcef_model.specs.declared.row.Row.{Row}
use Rattle.pcef_model.specs.declared.pending_report.PendingReport.{PendingReport}
use Rattle.pcef_model.specs.declared.pending_report.PendingReport.TheVariants.{Inactive, Usage, Access}
use Rattle.pcef_model.specs.declared.trigger.AccessKind.{AccessKind}
use Rattle.pcef_model.specs.declared.trigger.AccessKind.TheVariants.{RatChange, PlmnChange, UserLocationChange, UeTimeZoneChange}
use Rattle.pcef_model.specs.declared.trigger.TriggerSet.{TriggerSet}
use Rattle.pcef_model.specs.Setting.{Setting}
use Rattle.pcef_model.specs.ActiveRules.{has_key}
use Rattle.pcef_model.specs.Generations.{Generation, rules_after}
use Rattle.pcef_model.specs.Commands.{is_among, switched}
use Rattle.pcef_model.specs.Entries.{Journal}
use Rattle.pcef_model.specs.Journals.{attach_count, grant, now, report_count, slots, subscribed, unreported}

-- ---- reporting
-- a usage report has all octets that are unreported just before it, zero included
abbrev pub body_of : Setting → Journal → PendingReport → Body
body_of p j (Inactive rule) = body.Inactive rule BearerLost
body_of p j (Usage key cause) = body.Usage key (unreported p j key) cause
body_of p j (Access kind value) = body.Access kind value

-- the journal with these reports at its end, numbered on
unfoldable pub with_reports : Setting → List PendingReport → Journal → Journal
with_reports p [] j = j
with_reports p (t ∷ ts) j = with_reports p ts (entry.Report (record { number = report_count j; body = body_of p j t }) ∷ j)

-- ---- what a command reports by itself
-- names in the order of their bytes
abbrev pub insert_name : List ℕ → List (List ℕ) → List (List ℕ)
insert_name name [] = name ∷ []
insert_name name (n ∷ ns) = if is_lt (slice_cmp nat_cmp name n) then name ∷ n ∷ ns else n ∷ insert_name name ns

abbrev pub in_order : List (List ℕ) → List (List ℕ)
in_order [] = []
in_order (n ∷ ns) = insert_name n (in_order ns)

-- the rules that go with a lost bearer (TS 29.212, clause 5.3.18, Charging-Rule-Report), by the bytes of their names
abbrev pub inactive : Generation → Command → List PendingReport
inactive g (LoseBearer id) =
    map Inactive (in_order (map (λ r. r.properties.name) (filter (λ r. g.id_of r.properties.qos == id.0) g.rules)))
inactive g _ = []

-- the keys that are on, had a rule and lose their last one, in slot order; or, at Terminate, all keys
-- that are on or have unreported octets (TS 29.212, clauses 4.5.16 and 4.5.17)
abbrev pub keys_ended : Setting → Journal → Command → List PendingReport
keys_ended p j Terminate = map (λ k. Usage k Terminated) (filter (λ k. is_among k (now p j).on || nat_lt 0 (unreported p j k)) (slots p j))
keys_ended p j c =
    map (λ k. Usage k RulesGone)
    (filter (λ k. is_among k (switched c (now p j).on) && has_key k (now p j).rules && not (has_key k (rules_after p (now p j) c)))
    (slots p j))

-- what a command asks for
abbrev pub requested : Command → List PendingReport
requested (Stop key) = Usage key Disabled ∷ []
requested (ReportNow key) = Usage key Requested ∷ []
requested _ = []

abbrev pub is_subscribed : TriggerSet → AccessKind → Bool
is_subscribed set RatChange = set.rat_change
is_subscribed set PlmnChange = set.plmn_change
is_subscribed set UserLocationChange = set.user_location_change
is_subscribed set UeTimeZoneChange = set.ue_time_zone_change

-- a notice of a subscribed event
abbrev pub noticed_by : TriggerSet → Command → List PendingReport
noticed_by set (Notice kind value) = if is_subscribed set kind then Access kind value ∷ [] else []
noticed_by set _ = []

abbrev pub noticed : Journal → Command → List PendingReport
noticed j c = noticed_by (subscribed j) c

-- all that a command reports by itself, in its order
abbrev pub plan : Setting → Journal → Command → List PendingReport
plan p j c = inactive (now p j) c ++ (keys_ended p j c ++ (requested c ++ noticed j c))

-- ---- thresholds
abbrev pub is_reached_by : Option ℕ → ℕ → Bool
is_reached_by None octets = false
is_reached_by (Some amount) octets = nat_le amount octets

-- a key that is on, with at least its grant unreported (own choice)
abbrev pub is_reached : Setting → Journal → List ℕ → Bool
is_reached p j key = is_among key (now p j).on && is_reached_by (grant j key) (unreported p j key)

-- at the end of an event, while usage reports are subscribed, the grants that are reached, in slot order
unfoldable pub thresholds : Setting → Journal → List PendingReport
thresholds p j =
    if (subscribed j).usage_report then map (λ k. Usage k Threshold) (filter (is_reached p j) (slots p j)) else []

abbrev pub with_thresholds : Setting → Journal → Journal
with_thresholds p j = with_reports p (thresholds p j) j

-- ---- the journal after an event
-- an accepted command: its entry, its own reports, and the thresholds
unfoldable pub after_command : Setting → Journal → Command → Journal
after_command p j c = with_thresholds p (with_reports p (plan p j c) (entry.Command c ∷ j))

unfoldable pub with_rows : List Row → Journal → Journal
with_rows [] j = j
with_rows (r ∷ rs) j = with_rows rs (entry.Row r ∷ j)

-- an accepted flush: its rows, the oldest first, and the thresholds; a flush of no rows changes nothing
abbrev pub after_flush : Setting → Journal → List Row → Journal
after_flush p j [] = j
after_flush p j (r ∷ rs) = with_thresholds p (with_rows (r ∷ rs) j)

-- a worker is attached
abbrev pub after_attach : Journal → Journal
after_attach j = entry.Attach (attach_count j) ∷ j

-- a worker leaves
abbrev pub after_leave : ℕ → Journal → Journal
after_leave worker j = entry.Leave worker ∷ j

-- a worker hands its last rows over and leaves
abbrev pub after_finish : Setting → Journal → ℕ → List Row → Journal
after_finish p j worker rows = after_leave worker (after_flush p j rows)
