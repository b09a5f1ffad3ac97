-- The renewal of a session whose dialogue goes on: the PCRF hears of nothing but its usage (own choice).
use Rattle.std.specs.Prelude.{ℕ, ◌≡◌, ◌<◌, ◌≤◌, ◌+◌, ◌-◌, ◌++◌, Bool, true, false, nat_lt, List, drop, filter, length, map, take, Option, Some, None, Result, Ok, Err}
use Rattle.pcef_diameter.specs.Spellings.{avps_octets}
use Rattle.pcef_gx_dialogue.specs.Adding.{in_turn}
use Rattle.pcef_gx_dialogue.specs.Ccrs.{Ccrs, anew, past_of}
use Rattle.pcef_gx_updates.specs.Updates.{most_reports, update_avps}
use Rattle.pcef_handle.specs.Renewing.{IsRenewedInPlace}
use Rattle.pcef_handle.specs.declared.held.Handle.{Handle}
use Rattle.pcef_handle.specs.declared.held.OpenSession.{OpenSession}
use Rattle.pcef_model.specs.Entries.{Journal}
use Rattle.pcef_model.specs.Journals.{slots, unreported}
use Rattle.pcef_model.specs.Setting.{Setting}
use Rattle.pcef_model.specs.declared.report.Body.TheVariants as body
use Rattle.pcef_model.specs.declared.report.Cause.TheVariants.{Requested}
use Rattle.pcef_model.specs.declared.report.Report.{Report}
use Rattle.pcef_renewal_answer.specs.Renewed.{renews}
use Rattle.pcef_gx_handle.specs.Dialogues.{Dialoguing, Place, absent, another, place_of, there}
use Rattle.pcef_gx_handle.specs.declared.renewing.GoOnRefusal.{GoOnRefusal}
use Rattle.pcef_gx_handle.specs.declared.renewing.GoOnRefusal.TheVariants as refusal

-- ---- what is due of the old session
-- the usage of a key that isn't reported, as a report of it; the number of a report isn't told
abbrev pub usage_report : Setting → Journal → List ℕ → Report
usage_report p j key = record { number = 0; body = body.Usage key (unreported p j key) Requested }

abbrev pub has_unreported : Setting → Journal → List ℕ → Bool
has_unreported p j key = nat_lt 0 (unreported p j key)

-- one for each key that has such usage, in slot order
abbrev pub usage_left : Setting → Journal → List Report
usage_left p j = map (usage_report p j) (filter (has_unreported p j) (slots p j))

-- the reports that the PCRF wasn't told of: those of the CCR that is out, and those behind them
abbrev pub untold_yet : Journal → Ccrs → List Report
untold_yet j c = drop c.told (in_turn j)

abbrev pub count_out : Ccrs → ℕ
count_out c = past_of c c.out - c.told

abbrev pub reports_out : Journal → Ccrs → List Report
reports_out j c = take (count_out c) (untold_yet j c)

abbrev pub reports_behind : Journal → Ccrs → List Report
reports_behind j c = drop (count_out c) (untold_yet j c)

-- as octets: before what is due already, where the answer to the CCR that is out takes them away, and behind it
abbrev pub due_before : Journal → Dialoguing → List ℕ
due_before j d = avps_octets (update_avps d.watches_loss (reports_out j d.ccrs))

abbrev pub due_behind : Setting → Journal → Dialoguing → List ℕ
due_behind p j d = avps_octets (update_avps d.watches_loss (reports_behind j d.ccrs ++ usage_left p j))

-- ---- the dialogue goes on with a session of this number, of which nothing is told yet
abbrev pub goes_on : Setting → Journal → ℕ → Dialoguing → Dialoguing
goes_on p j number d = record d {
  ccrs = anew d.ccrs;
  session = Some number;
  due = (due_before j d ++ d.due) ++ due_behind p j d;
  due_out = length (due_before j d) + d.due_out;
}

-- ---- reports that are forgotten can't be told any more, and more than a CCR tells are told first
abbrev pub AreForgotten : Dialoguing → OpenSession → Type 0
AreForgotten d s = d.ccrs.told < s.world.session.forgotten

abbrev pub AreTooMany : Dialoguing → OpenSession → Type 0
AreTooMany d s = most_reports < length (untold_yet s.world.session.journal d.ccrs)

abbrev pub CanBeTold : Dialoguing → OpenSession → Type 0
CanBeTold d s =
    (s.world.session.forgotten ≤ d.ccrs.told) × (length (untold_yet s.world.session.journal d.ccrs) ≤ most_reports)

-- ---- in the session of the dialogue
abbrev pub Stays : Dialoguing → OpenSession → ℕ → Dialoguing → OpenSession → ℕ → Type 0
Stays d s next e t then = (e ≡ d) × IsRenewedInPlace s next false t then

-- It is renewed, and the dialogue goes on with it. Or it stays, and so does the dialogue.
abbrev pub RenewsIn : Dialoguing → OpenSession → ℕ → Result (Unit {0}) GoOnRefusal → Dialoguing → OpenSession → ℕ → Type 0
RenewsIn d s next (Ok done) e t then =
    CanBeTold d s × IsRenewedInPlace s next true t then
    × (e ≡ goes_on s.world.session.setting s.world.session.journal t.number d)
RenewsIn d s next (Err refusal.Forgotten) e t then = AreForgotten d s × Stays d s next e t then
RenewsIn d s next (Err refusal.ReportsDue) e t then = AreTooMany d s × Stays d s next e t then
RenewsIn d s next (Err refusal.SessionRefuses) e t then = (renews s.world ≡ false) × Stays d s next e t then
RenewsIn d s next (Err refusal.NoMemory) e t then = Stays d s next e t then
RenewsIn d s next (Err other) e t then = ⊥

abbrev pub RenewsTo : Dialoguing → OpenSession → ℕ → Result (Unit {0}) GoOnRefusal → Dialoguing → Option OpenSession → ℕ → Type 0
RenewsTo d s next result e None then = ⊥
RenewsTo d s next result e (Some t) then = RenewsIn d s next result e t then

abbrev pub IsOther : Dialoguing → Handle → Result (Unit {0}) GoOnRefusal → Dialoguing → Handle → Type 0
IsOther d old result e new = (result ≡ Err refusal.OtherSession) × (e ≡ d) × (new ≡ old)

abbrev pub RenewsAt : Place → Dialoguing → Handle → Result (Unit {0}) GoOnRefusal → Dialoguing → Handle → Type 0
RenewsAt (there s) d old result e new = RenewsTo d s old.next_number result e new.session new.next_number
RenewsAt absent d old result e new = IsOther d old result e new
RenewsAt another d old result e new = IsOther d old result e new

abbrev pub RenewsGx : Option Dialoguing → Handle → Result (Unit {0}) GoOnRefusal → Option Dialoguing → Handle → Type 0
RenewsGx None old result None new = (result ≡ Err refusal.NoDialogue) × (new ≡ old)
RenewsGx (Some d) old result (Some e) new = RenewsAt (place_of d.session old.session) d old result e new
RenewsGx d old result e new = ⊥
