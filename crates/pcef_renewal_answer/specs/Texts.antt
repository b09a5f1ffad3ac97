-- The answers to renewals: a JSON object (RFC 8259) for each, its members in the order of their keys (own choice).
use Rattle.std.specs.Prelude.{ℕ, List, codes, drop, map, reverse, true}
use Rattle.serde_json.specs.Data.{Data, array, boolean, object, member, no_members}
use Rattle.serde_json.specs.View.{items_of}
use Rattle.pcef_model.specs.declared.answer.Refusal.{Refusal}
use Rattle.pcef_model.specs.declared.answer.Refusal.TheVariants as answer
use Rattle.pcef_model.specs.declared.command.Command.TheVariants.{Terminate}
use Rattle.pcef_model.specs.declared.report.Report.{Report}
use Rattle.pcef_model.specs.Entries.{Journal, reports}
use Rattle.pcef_model.specs.Reports.{after_command}
use Rattle.pcef_model.specs.Setting.{Setting}
use Rattle.pcef_answer.specs.FaultAnswers.{count}
use Rattle.pcef_answer.specs.ReportAnswers.{reports_data}
use Rattle.pcef_renewal.specs.declared.places.BearerNumbers.{BearerNumbers}
use Rattle.pcef_renewal.specs.declared.renewing.RenewRefusal.{RenewRefusal}
use Rattle.pcef_renewal.specs.declared.renewing.RenewRefusal.TheVariants as refusal
use Rattle.pcef_renewal.specs.Maps.{bearers_again}

-- ---- it was renewed
-- a bearer by its numbers in both sessions
abbrev pub pair_data : BearerNumbers → Data
pair_data pair =
    object (member (codes "new") (count pair.new.0)
    (member (codes "old") (count pair.old.0) no_members))

abbrev pub pairs_data : List BearerNumbers → Data
pairs_data pairs = array (items_of (map pair_data pairs))

-- the reports of the old session from the number `first` on, the oldest first; those of its Terminate are the last
abbrev pub last_reports : Setting → Journal → ℕ → List Report
last_reports p j first = drop first (reverse (reports (after_command p j Terminate)))

abbrev pub renewed_data : Setting → Journal → ℕ → Data
renewed_data p j first =
    object (member (codes "bearers") (pairs_data (bearers_again p j))
    (member (codes "ok") (boolean true)
    (member (codes "reports") (reports_data (last_reports p j first)) no_members)))

-- ---- it was refused
-- the refusal of a command that has the same reason
abbrev pub reason_of : RenewRefusal → Refusal
reason_of refusal.Terminated = answer.Terminated
reason_of (refusal.WorkersAttached count) = answer.WorkersAttached count
reason_of refusal.NoCommandLeft = answer.CommandsFull
reason_of refusal.NoMemory = answer.NoMemory
