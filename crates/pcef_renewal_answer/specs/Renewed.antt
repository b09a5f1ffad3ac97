-- What a renewal answers, and the session that is there then (own choice).
use Rattle.std.specs.Prelude.{ℕ, ◌≡◌, ◌⊎◌, Bool, true, false, List, [], Option, Some, None, is_none}
use Rattle.serde_json.specs.Written.{compact_text}
use Rattle.pcef_model.specs.Entries.{Journal}
use Rattle.pcef_model.specs.Refusals.{first_of}
use Rattle.pcef_model.specs.Setting.{Setting}
use Rattle.pcef_world.specs.Steps.{Standing, standing_of}
use Rattle.pcef_world.specs.Worlds.{World}
use Rattle.pcef_answer.specs.RefusalAnswers.{refusal_text}
use Rattle.pcef_renewal.specs.declared.renewing.RenewRefusal.{RenewRefusal}
use Rattle.pcef_renewal.specs.Accepting.{AreTaken, entered}
use Rattle.pcef_renewal.specs.Likeness.{Like}
use Rattle.pcef_renewal.specs.Renewal.{renewal}
use Rattle.pcef_renewal.specs.Renewing.{Renews, renew_refusals}
use Rattle.pcef_renewal_answer.specs.Texts.{reason_of, renewed_data}

-- how a session and its workers stand, and how many of its reports are forgotten
pub record Kept : Type 0 where
  pub standing : Standing
  pub forgotten : ℕ

abbrev pub kept_of : World → Kept
kept_of w = record { standing = standing_of w; forgotten = w.session.forgotten }

-- the new session: its journal has the renewal of the old one and nothing else, and no worker was ever attached
abbrev pub renewed : Setting → Journal → Kept
renewed p j = record { standing = record { journal = entered (renewal p j) []; workers = [] }; forgotten = 0 }

-- the answer, and what is there then: the new session, or where there is a reason against it the old one as it was. The
-- answer has all reports of the old session that aren't forgotten.
abbrev pub outcome_by : Setting → Kept → Option RenewRefusal → List ℕ × Kept
outcome_by p s None = (compact_text (renewed_data p s.standing.journal s.forgotten), renewed p s.standing.journal)
outcome_by p s (Some reason) = (refusal_text (reason_of reason), s)

unfoldable pub renew_outcome : Setting → Kept → List ℕ × Kept
renew_outcome p s = outcome_by p s (first_of (renew_refusals p s.standing.journal))

-- ---- before and after
-- whether nothing refuses it
abbrev pub renews : World → Bool
renews w = is_none (first_of (renew_refusals w.session.setting w.session.journal))

-- it was renewed, which nothing refuses, or it is as it was
abbrev pub IsRenewedOrNot : World → Bool → World → Type 0
IsRenewedOrNot old true new = Renews old.session × (kept_of new ≡ renewed old.session.setting old.session.journal)
IsRenewedOrNot old false new = kept_of new ≡ kept_of old

abbrev pub AnswersRenew : World → List ℕ → World → Type 0
AnswersRenew old text new = (text, kept_of new) ≡ renew_outcome old.session.setting (kept_of old)

-- memory was lacking: all is as before, or as after the renewal, and the answer alone is lacking
abbrev pub LacksForRenew : World → World → Type 0
LacksForRenew old new = (kept_of new ≡ kept_of old) ⊎ (kept_of new ≡ (renew_outcome old.session.setting (kept_of old)).1)

-- the new session took the whole renewal, command by command, and is like the old one
pub record GoesOnLike (old new : World) : Type 0 where
  pub taken : AreTaken old.session.setting [] (renewal old.session.setting old.session.journal)
  pub like : Like old.session.setting old.session.journal new.session.journal
