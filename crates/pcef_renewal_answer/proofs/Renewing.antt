-- What a renewal leaves, and what it answers.
use Rattle.std.proofs.Common.{◌≡◌, ◌≢◌, ◌∙◌, ℕ, List, [], ◌∷◌, Option, Some, None, Result, Ok, Err, IfOk, OnOk, length, refl, sym, ap, inl, inr, string_bytes}
use Rattle.std.specs.Prelude.{OnErr, String, false, true}
use Rattle.std.specs.declared.alloc.AllocError.{AllocError}
use Rattle.std.specs.declared.alloc.Global.{Global}
use Rattle.json.specs.Print.{escape_byte}
use Rattle.pcef_model.specs.declared.answer.Accepted.{Accepted}
use Rattle.pcef_model.specs.declared.answer.Refusal.{Refusal}
use Rattle.pcef_model.specs.declared.command.Command.TheVariants.{Terminate}
use Rattle.pcef_model.specs.Entries.{Journal}
use Rattle.pcef_model.specs.Journals.{attach_count}
use Rattle.pcef_model.specs.Lawful.{Lawful}
use Rattle.pcef_model.specs.Outcomes.{Gives, command_outcome, command_outcome_by}
use Rattle.pcef_model.specs.Refusals.{first_of, refusals}
use Rattle.pcef_model.specs.Reports.{after_command}
use Rattle.pcef_model.specs.Setting.{Setting}
use Rattle.pcef_world.specs.Steps.{standing_of}
use Rattle.pcef_world.specs.Worlds.{Waiting, World}
use Rattle.pcef_answer.specs.RefusalAnswers.{refusal_text}
use Rattle.pcef_renewal.specs.declared.places.BearerNumbers.{BearerNumbers}
use Rattle.pcef_renewal.specs.declared.renewing.RenewRefusal.{RenewRefusal}
use Rattle.pcef_renewal.specs.declared.renewing.RenewRefusal.TheVariants as refusal
use Rattle.pcef_renewal.specs.Maps.{bearers_again}
use Rattle.pcef_renewal.specs.Renewing.{IsRenewed, RefusesRenewal, Renews, renew_refusals}
use Rattle.pcef_renewal.proofs.Anew.{begins_anew}
use Rattle.pcef_renewal_answer.specs.Renewed.{AnswersRenew, LacksForRenew, kept_of, renew_outcome, renewed, renews}
use Rattle.pcef_renewal_answer.specs.Texts.{reason_of}
use Rattle.pcef_renewal_answer.specs.private.Pieces.{pieces_of, reports_text}

-- ---- it was renewed
-- the journal of a session that was ended
pub ended_by : (p : Setting) (j k : Journal) (a : Accepted) → Gives (command_outcome p j Terminate) (Ok a) k → k ≡ after_command p j Terminate
unfolding command_outcome
ended_by p j k a gives = from (first_of (refusals p j Terminate)) gives
  where
    from : (o : Option Refusal) → Gives (command_outcome_by p j Terminate o) (Ok a) k → k ≡ after_command p j Terminate
    from (Some f) given = absurd (let e = given.0 in cc)
    from None given = given.1

no_one : (workers : List (Option Waiting)) → 0 ≡ length workers → workers ≡ []
no_one [] none = refl
no_one (w ∷ workers) none = absurd cc

-- the new session
pub new_kept : (old new : World) → Lawful old.session.setting old.session.journal → IsRenewed old.session new.session → attach_count new.session.journal ≡ length new.workers
    → kept_of new ≡ renewed old.session.setting old.session.journal
new_kept old new lawful made places =
    let anew = begins_anew old.session.setting old.session.journal lawful in
    let none : 0 ≡ length new.workers = sym anew.no_workers ∙ sym (ap attach_count made.journal) ∙ places in
    rw (made.journal, made.forgotten, no_one new.workers none) refl

-- and its answer, from the session that was ended
pub renewed_answer : (old ended new : World) (a : Accepted) (pairs : List BearerNumbers) (text : List ℕ) → Lawful old.session.setting old.session.journal → Renews old.session
    → Gives (command_outcome old.session.setting old.session.journal Terminate) (Ok a) ended.session.journal → ended.session.forgotten ≡ old.session.forgotten
    → pairs ≡ bearers_again old.session.setting old.session.journal → kept_of new ≡ renewed old.session.setting old.session.journal
    → text ≡ pieces_of pairs (reports_text ended.session) → AnswersRenew old text new
unfolding renew_outcome escape_byte
renewed_answer old ended new a pairs text lawful none gives forgotten paired kept told =
    let journal = ended_by old.session.setting old.session.journal ended.session.journal a gives in
    rw none (rw (kept, told, paired, forgotten, journal) refl)

pub on_err : {A E : Type 0} (r : Result A E) (P : Type 0) → P → OnErr r P
on_err (Ok x) P p = tt
on_err (Err e) P p = p

-- its answer alone may be lacking
pub renewed_lacks : (old new : World) → Renews old.session → kept_of new ≡ renewed old.session.setting old.session.journal → LacksForRenew old new
unfolding renew_outcome
renewed_lacks old new none kept = inr (rw none kept)

-- ---- it was refused
pub refused_for : (old : World) (reason : RenewRefusal) → RefusesRenewal old.session reason → reason ≢ refusal.NoMemory
    → first_of (renew_refusals old.session.setting old.session.journal) ≡ Some reason
refused_for old reason (inl is) other = is
refused_for old reason (inr lacks) other = absurd (other lacks.1)

pub refused_answer : (old new : World) (reason : RenewRefusal) (text : List ℕ) → RefusesRenewal old.session reason → reason ≢ refusal.NoMemory → kept_of new ≡ kept_of old
    → text ≡ refusal_text (reason_of reason) → AnswersRenew old text new
unfolding renew_outcome
refused_answer old new reason text refuses other kept told = rw (refused_for old reason refuses other) (rw (kept, told) refl)

pub not_renewed : (old : World) (reason : RenewRefusal) → RefusesRenewal old.session reason → reason ≢ refusal.NoMemory → false ≡ renews old
not_renewed old reason refuses other = rw (refused_for old reason refuses other) refl

pub is_renewed : (old : World) → Renews old.session → true ≡ renews old
is_renewed old none = rw none refl

pub kept_same : (old new : World) → standing_of new ≡ standing_of old → new.session.forgotten ≡ old.session.forgotten → kept_of new ≡ kept_of old
kept_same old new standing forgotten = rw (standing, forgotten) refl

pub refused_told : (r : Result (String Global) AllocError) (old new : World) (reason : RenewRefusal) → RefusesRenewal old.session reason → kept_of new ≡ kept_of old
    → IfOk r (λ t. string_bytes t ≡ refusal_text (reason_of reason)) → OnOk r (reason ≢ refusal.NoMemory) → IfOk r (λ t. AnswersRenew old (string_bytes t) new)
refused_told (Ok t) old new reason refuses kept told other = refused_answer old new reason (string_bytes t) refuses other kept told
refused_told (Err e) old new reason refuses kept told other = tt
