-- The text of a session's reports from a number on, and reports that are forgotten (own choice).
use Rattle.std.specs.Prelude.{ℕ, ◌≡◌, ◌<◌, ◌≤◌, List, drop, reverse, Option, Some, None, Result, Ok, Err}
use Rattle.serde_json.specs.Written.{compact_text}
use Rattle.pcef_model.specs.Entries.{Journal, reports}
use Rattle.pcef_model.specs.Journals.{report_count}
use Rattle.pcef_world.specs.Steps.{standing_of}
use Rattle.pcef_answer.specs.ReportAnswers.{reports_data}
use Rattle.pcef_handle.specs.Answering.{CopiesFront, InOpenSession}
use Rattle.pcef_handle.specs.declared.held.Handle.{Handle}
use Rattle.pcef_handle.specs.declared.held.OpenSession.{OpenSession}
use Rattle.pcef_handle.specs.declared.line.CallRefusal.{CallRefusal}
use Rattle.pcef_handle.specs.declared.line.CallRefusal.TheVariants.{Forgotten, NoMemory, NoSession}

-- a JSON array (RFC 8259) of the reports from a number on, the oldest first
abbrev pub text_from : ℕ → Journal → List ℕ
text_from first journal = compact_text (reports_data (drop first (reverse (reports journal))))

-- they are written unless one of them is forgotten; where they aren't, nothing is written
abbrev pub ReportsInto : OpenSession → ℕ → List ℕ → Result ℕ CallRefusal → List ℕ → Type 0
ReportsInto s first before (Ok octets) after =
    (s.world.session.forgotten ≤ first) × CopiesFront (text_from first s.world.session.journal) before after octets
ReportsInto s first before (Err Forgotten) after = (first < s.world.session.forgotten) × (after ≡ before)
ReportsInto s first before (Err NoMemory) after = (s.world.session.forgotten ≤ first) × (after ≡ before)
ReportsInto s first before (Err NoSession) after = ⊥

abbrev pub ReportsOf : Option OpenSession → ℕ → List ℕ → Result ℕ CallRefusal → List ℕ → Type 0
ReportsOf (Some s) first before result after = ReportsInto s first before result after
ReportsOf None first before result after = (result ≡ Err NoSession) × (after ≡ before)

abbrev pub ReportsHandle : Handle → ℕ → List ℕ → Result ℕ CallRefusal → List ℕ → Type 0
ReportsHandle h first before result after = ReportsOf h.session first before result after

-- the reports so far are forgotten, and their number is returned: that of the next one; nothing else changes
pub record ForgetsReports (old : OpenSession) (number : ℕ) (new : OpenSession) : Type 0 where
  pub number_is : number ≡ report_count old.world.session.journal
  pub forgotten_is : new.world.session.forgotten ≡ number
  pub setting_stays : new.world.session.setting ≡ old.world.session.setting
  pub standing_stays : standing_of new.world ≡ standing_of old.world
  pub number_stays : new.number ≡ old.number

abbrev pub ForgetsHandle : Handle → Result ℕ CallRefusal → Handle → Type 0
ForgetsHandle old (Ok number) new = InOpenSession old.session new.session (λ s t. ForgetsReports s number t) ⊥
ForgetsHandle old (Err NoSession) new = (old.session ≡ None) × (new.session ≡ None)
ForgetsHandle old (Err other) new = ⊥
