-- What events leave of the numbers of generations and reports, of what is subscribed, and of the number of keys.
use Rattle.std.proofs.Common.{◌≡◌, ◌≤◌, ◌+◌, ◌∙◌, List, [], ◌∷◌, length, refl, arith}
use Rattle.std.specs.Prelude.{false}
use Rattle.pcef_model.specs.declared.command.Command.{Command}
use Rattle.pcef_model.specs.declared.command.Command.TheVariants.{Install, Activate, Remove, Monitor, Stop, ReportNow, Triggers, Notice, LoseBearer, Close, Terminate}
use Rattle.pcef_model.specs.declared.entry.Entry.TheVariants as entry
use Rattle.pcef_model.specs.declared.pending_report.PendingReport.{PendingReport}
use Rattle.pcef_model.specs.Setting.{Setting, most_keys}
use Rattle.pcef_model.specs.Commands.{key_named, level_named}
use Rattle.pcef_model.specs.Entries.{Journal}
use Rattle.pcef_model.specs.Journals.{report_count, subscribed}
use Rattle.pcef_model.specs.Reports.{after_command, plan, with_reports}
use Rattle.pcef_usage.specs.declared.usage.KeyState.{KeyState}
use Rattle.pcef_usage.specs.Commands.{entered, subscribed_by}
use Rattle.pcef_usage.specs.Keys.{finds_no_place, slot_place, started, with_slot}
use Rattle.pcef_usage.specs.PendingReports.{after_report, body_by, appended}
use Rattle.pcef_usage.proofs.Monitors.{few_with_slot}
use Rattle.pcef_usage.proofs.Places.{length-at_place}
use Rattle.pcef_model.proofs.Reports.{tell_subscribed}
use Rattle.pcef_model.proofs.AfterEvents.{subscribed_settled}

pub report_count_told : (ts : List PendingReport) (states : List KeyState) (j : Journal) → report_count (appended ts states j) ≡ length ts + report_count j
unfolding appended
report_count_told [] states j = omega arith
report_count_told (t ∷ ts) states j =
    let rest = report_count_told ts (after_report t states) (entry.Report (record { number = report_count j; body = body_by states t }) ∷ j) in omega (arith, rest)

-- ---- what is subscribed
pub subscribed_after : (j : Journal) (c : Command) → subscribed (entry.Command c ∷ j) ≡ subscribed_by c (subscribed j)
unfolding subscribed
subscribed_after j (Install rule) = refl
subscribed_after j (Activate name) = refl
subscribed_after j (Remove name) = refl
subscribed_after j (Monitor l amount level) = refl
subscribed_after j (Stop l) = refl
subscribed_after j (ReportNow l) = refl
subscribed_after j (Triggers set) = refl
subscribed_after j (Notice kind value) = refl
subscribed_after j (LoseBearer id) = refl
subscribed_after j Close = refl
subscribed_after j Terminate = refl

pub subscribed_after_command : (p : Setting) (j : Journal) (c : Command) → subscribed (after_command p j c) ≡ subscribed_by c (subscribed j)
unfolding after_command
subscribed_after_command p j c =
    subscribed_settled p (with_reports p (plan p j c) (entry.Command c ∷ j)) ∙ tell_subscribed p (plan p j c) (entry.Command c ∷ j) ∙ subscribed_after j c

-- ---- keys
pub length-entered : (p : Setting) (c : Command) (states : List KeyState) → length (entered p c states) ≡ length (with_slot (key_named p c) (level_named c) states)
length-entered p (Monitor l amount level) states = length-at_place (started amount) (slot_place l (with_slot (key_named p (Monitor l amount level)) level states)) (with_slot (key_named p (Monitor l amount level)) level states)
length-entered p (Install rule) states = refl
length-entered p (Activate name) states = refl
length-entered p (Remove name) states = refl
length-entered p (Stop l) states = refl
length-entered p (ReportNow l) states = refl
length-entered p (Triggers set) states = refl
length-entered p (Notice kind value) states = refl
length-entered p (LoseBearer id) states = refl
length-entered p Close states = refl
length-entered p Terminate states = refl

pub few_entered : (p : Setting) (c : Command) (states : List KeyState) → finds_no_place (key_named p c) states ≡ false → length states ≤ most_keys → length (entered p c states) ≤ most_keys
few_entered p c states finds few = let fits = few_with_slot (key_named p c) (level_named c) states finds few in omega (arith, fits, length-entered p c states)
