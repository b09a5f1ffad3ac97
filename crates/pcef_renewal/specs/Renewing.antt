-- A session is ended, and a new one begun in its place (own choice).
use Rattle.std.specs.Prelude.{ℕ, ◌≡◌, ◌+◌, [], ◌∷◌, None, length, nat_le, nat_lt, if◌then◌else◌}
use Rattle.pcef_model.specs.Entries.{Journal}
use Rattle.pcef_model.specs.Journals.{attached, now, subscribed}
use Rattle.pcef_model.specs.Outcomes.{IsFirstFault}
use Rattle.pcef_model.specs.Refusals.{Conditions, first_of, was_terminated}
use Rattle.pcef_model.specs.Setting.{Setting}
use Rattle.pcef_session.specs.SessionModel.{SessionModel}
use Rattle.pcef_renewal.specs.declared.renewing.RenewRefusal.{RenewRefusal}
use Rattle.pcef_renewal.specs.declared.renewing.RenewRefusal.TheVariants as refusal
use Rattle.pcef_renewal.specs.Accepting.{entered}
use Rattle.pcef_renewal.specs.Renewal.{is_any, keys_on, renewal}

-- how many commands of its budget the new session needs: one for each key that is on, one for the subscriptions, and one
-- for each active rule
abbrev pub commands_needed : Setting → Journal → ℕ
commands_needed p j = length (keys_on p j) + (if is_any (subscribed j) then 1 else 0) + length (now p j).rules

-- why a session isn't renewed
abbrev pub renew_refusals : Setting → Journal → Conditions RenewRefusal
renew_refusals p j =
    (was_terminated j, refusal.Terminated) ∷
    (nat_lt 0 (length (attached j)), refusal.WorkersAttached (length (attached j))) ∷
    (nat_le p.commands (commands_needed p j), refusal.NoCommandLeft) ∷ []

-- nothing refuses it
abbrev pub Renews : SessionModel → Type 0
Renews s = first_of (renew_refusals s.setting s.journal) ≡ None

-- it is refused, for this reason
abbrev pub RefusesRenewal : SessionModel → RenewRefusal → Type 0
RefusesRenewal s reason = IsFirstFault (first_of (renew_refusals s.setting s.journal)) refusal.NoMemory reason

-- the new session: the same is fixed for it, and its journal has the commands of the renewal and nothing else
pub record IsRenewed (old new : SessionModel) : Type 0 where
  pub setting : new.setting ≡ old.setting
  pub journal : new.journal ≡ entered (renewal old.setting old.journal) []
  pub forgotten : new.forgotten ≡ 0
