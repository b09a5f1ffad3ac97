-- Commands that are played one after the other.
use Rattle.std.proofs.Common.{◌≡◌, ◌∙◌, ◌<◌, ◌+◌, ℕ, suc, List, ◌∷◌, Ok, Err, Some, None, add-one, drop, get_or, length, sym, ap, subst, inl, inr}
use Rattle.std.specs.Prelude.{Bool, Option, true, false, if◌then◌else◌}
use Rattle.std.proofs.Math.Seq.{drop-cons}
use Rattle.pcef_model.specs.declared.answer.Accepted.{Accepted}
use Rattle.pcef_model.specs.declared.answer.Refusal.{Refusal}
use Rattle.pcef_model.specs.declared.command.Command.{Command}
use Rattle.pcef_model.specs.declared.entry.Entry.TheVariants as entry
use Rattle.pcef_model.specs.Entries.{Journal}
use Rattle.pcef_model.specs.Outcomes.{CommandStep, Gives, accepted, changes, command_outcome, command_outcome_by}
use Rattle.pcef_model.specs.Refusals.{first_of, refusals}
use Rattle.pcef_model.specs.Reports.{after_command}
use Rattle.pcef_model.specs.Setting.{Setting}
use Rattle.pcef_model.specs.Lawful.{Lawful}
use Rattle.pcef_session.specs.Answers.{IsOpened}
use Rattle.pcef_session.specs.SessionModel.{SessionModel}
use Rattle.pcef_renewal.specs.Accepting.{AreTaken, IsTaken, entered}
use Rattle.pcef_renewal.specs.Renewal.{renewal}
use Rattle.pcef_renewal.proofs.Accepted.{renewal_taken}

-- so many of the commands were played
pub record IsPlayed (first now : SessionModel) (list : List Command) (i : ℕ) : Type 0 where
  pub setting : now.setting ≡ first.setting
  pub forgotten : now.forgotten ≡ first.forgotten
  pub taken : AreTaken now.setting now.journal (drop i list)
  pub ahead : entered (drop i list) now.journal ≡ entered list first.journal

-- an accepted command that changes something comes into the journal
pub done_by : (p : Setting) (c : Command) (j k : Journal) (a : Accepted) → IsTaken p j c → CommandStep p c j (Ok a) k → k ≡ entry.Command c ∷ j
unfolding command_outcome
done_by p c j k a taken step =
    elim step [
      | inl gives ↦ (rw (taken.accepted, taken.changing) at gives.1) ∙ taken.quiet
      | inr lacks ↦ absurd (let e = lacks.1.0 in cc)
    ]

pub one_more : (first old new : SessionModel) (list : List Command) (i : ℕ) (c copy : Command) (a : Accepted) → i < length list → c ≡ get_or list i c → copy ≡ c →
    IsPlayed first old list i → CommandStep old.setting copy old.journal (Ok a) new.journal → new.setting ≡ old.setting → new.forgotten ≡ old.forgotten → IsPlayed first new list (i + 1)
one_more first old new list i c copy a below is copied played step setting forgotten =
    let rest : List Command = drop (i + 1) list in
    let ahead : drop i list ≡ c ∷ rest = drop-cons list i c below ∙ ap (λ x. x ∷ drop (suc i) list) (sym is) ∙ ap (λ m. c ∷ drop m list) (sym (add-one i)) in
    let taken : AreTaken old.setting old.journal (c ∷ rest) = subst (AreTaken old.setting old.journal) ahead played.taken in
    let own : CommandStep old.setting c old.journal (Ok a) new.journal = subst (λ (x : Command). CommandStep old.setting x old.journal (Ok a) new.journal) copied step in
    let journal : new.journal ≡ entry.Command c ∷ old.journal = done_by old.setting c old.journal new.journal a taken.0 own in
    record {
      setting = setting ∙ played.setting;
      forgotten = forgotten ∙ played.forgotten;
      taken =
          subst (λ (p : Setting). AreTaken p new.journal rest) (sym setting) (subst (λ (j : Journal). AreTaken old.setting j rest) (sym journal) taken.1);
      ahead = ap (entered rest) journal ∙ sym (ap (λ cs. entered cs old.journal) ahead) ∙ played.ahead;
    }

-- ---- the new session
pub opened_takes : (old new : SessionModel) (list : List Command) → Lawful old.setting old.journal → IsOpened old.setting new → list ≡ renewal old.setting old.journal →
    AreTaken new.setting new.journal list
opened_takes old new list lawful opened is =
    rw (opened.0, opened.1, is) (renewal_taken old.setting old.journal lawful)

-- ---- a command that isn't done
pub not_done : (p : Setting) (c : Command) (j k : Journal) (r : Refusal) → CommandStep p c j (Err r) k → k ≡ j
unfolding command_outcome
not_done p c j k r step = elim step [ inl gives ↦ from (first_of (refusals p j c)) gives | inr lacks ↦ lacks.1.1 ]
  where
    from : (o : Option Refusal) → Gives (command_outcome_by p j c o) (Err r) k → k ≡ j
    from (Some f) gives = gives.1
    from None gives = from_change (changes p j c) gives
      where
        from_change : (b : Bool) → Gives (if b then (Ok (accepted p c j (after_command p j c) false), after_command p j c) else (Ok (accepted p c j j true), j)) (Err r) k → k ≡ j
        from_change true gives = absurd (let e = gives.0 in cc)
        from_change false gives = absurd (let e = gives.0 in cc)

-- what is done is due
pub due_by : (p : Setting) (c : Command) (j k : Journal) (a : Accepted) → CommandStep p c j (Ok a) k → Gives (command_outcome p j c) (Ok a) k
due_by p c j k a step = elim step [ inl gives ↦ gives | inr lacks ↦ absurd (let e = lacks.1.0 in cc) ]

-- a command that was answered as due
pub by_answer : (p : Setting) (c : Command) (j k : Journal) (a : Accepted) → Gives (command_outcome p j c) (Ok a) k → CommandStep p c j (Ok a) k
by_answer p c j k a gives = inl gives
