-- What is carried over of a session that is renewed, and why it isn't.
use Rattle.std.specs.Prelude.{ℕ, ◌<◌, nat_lt, List, filter, length, map}
use Rattle.pcef_model.specs.declared.report.Body.TheVariants as body
use Rattle.pcef_model.specs.declared.report.Cause.TheVariants.{Requested}
use Rattle.pcef_model.specs.declared.report.Report.{Report}
use Rattle.pcef_session.specs.SessionModel.{SessionModel}
use Rattle.pcef_usage.specs.declared.usage.KeyState.{KeyState}
use Rattle.pcef_gx_handle.specs.Dialogues.{Dialoguing}
use Rattle.pcef_gx_handle.specs.Renewing.{untold_yet}
use Rattle.pcef_gx_handle.specs.declared.renewing.GoOnRefusal.{GoOnRefusal}
use Rattle.pcef_gx_handle.specs.declared.renewing.GoOnRefusal.TheVariants as refusal

abbrev pub report_of : KeyState → Report
report_of s = record { number = 0; body = body.Usage s.key s.unreported Requested }

abbrev pub states_left : List KeyState → List Report
states_left states = map report_of (filter (λ s. nat_lt 0 s.unreported) states)

abbrev pub RefusesCarry : GoOnRefusal → Dialoguing → SessionModel → Type 0
RefusesCarry refusal.Forgotten d s = d.ccrs.told < s.forgotten
RefusesCarry refusal.ReportsDue d s = 100 < length (untold_yet s.journal d.ccrs)
RefusesCarry refusal.NoMemory d s = Unit {0}
RefusesCarry _ d s = ⊥
