-- Sessions that are alike report the same, octets and the order in one answer aside.
use Rattle.std.specs.Prelude.{ℕ, ◌≡◌, ◌++◌, ◌∷◌, ◌↔◌, false, true, List, None, Contains}
use Rattle.pcef_model.specs.declared.command.Command.{Command}
use Rattle.pcef_model.specs.declared.entry.Entry.TheVariants as entry
use Rattle.pcef_model.specs.declared.pending_report.PendingReport.{PendingReport}
use Rattle.pcef_model.specs.declared.row.Row.{Row}
use Rattle.pcef_model.specs.Entries.{Journal}
use Rattle.pcef_model.specs.Lawful.{Lawful}
use Rattle.pcef_model.specs.Outcomes.{changes}
use Rattle.pcef_model.specs.Refusals.{first_of, is_terminate, refusals}
use Rattle.pcef_model.specs.Reports.{plan, thresholds, with_reports, with_rows}
use Rattle.pcef_model.specs.Setting.{Setting}
use Rattle.pcef_renewal.specs.Alike.{Alike, Renumbers, image}
use Rattle.pcef_renewal.specs.Counting.{EvenFor, ReachAlike, SamePackets}

-- the same reports, in whatever order
abbrev pub SameReports : List PendingReport → List PendingReport → Type 0
SameReports ts us = (t : PendingReport) → Contains ts t ↔ Contains us t

-- all that a command reports: what it does by itself, and thresholds
abbrev pub reports_of : Setting → Journal → Command → List PendingReport
reports_of p j c = plan p j c ++ thresholds p (with_reports p (plan p j c) (entry.Command c ∷ j))

-- but for a Terminate, which reports keys that are off where they have octets
abbrev pub CommandsReportAlike : Type 0
CommandsReportAlike = (p : Setting) (j k : Journal) → Lawful p j → Lawful p k → Alike p j k → ReachAlike p j k → (number : ℕ → ℕ) → Renumbers p j k number → (c : Command) →
    first_of (refusals p j c) ≡ None → changes p j c ≡ true → first_of (refusals p k (image number c)) ≡ None → EvenFor p j k c → is_terminate (entry.Command c) ≡ false →
    SameReports (reports_of p j c) (reports_of p k (image number c))

-- rows report thresholds
abbrev pub PacketsReportAlike : Type 0
PacketsReportAlike = (p : Setting) (j k : Journal) → Lawful p j → Lawful p k → Alike p j k → ReachAlike p j k → (rs ss : List Row) → SamePackets p j k rs ss →
    SameReports (thresholds p (with_rows rs j)) (thresholds p (with_rows ss k))
