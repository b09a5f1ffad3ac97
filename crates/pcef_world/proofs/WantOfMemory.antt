-- Out of memory is never due: it comes only where nothing refuses.
use Rattle.std.proofs.Common.{◌≡◌, ◌∙◌, ℕ, Bool, true, false, not, List, [], ◌∷◌, length, refl, sym, ap, inl, inr, Some, None, Err}
use Rattle.std.specs.Prelude.{Option, Result, ◌&&◌, if◌then◌else◌}
use Rattle.std.specs.List.{list_all}
use Rattle.pcef_catalog.specs.declared.listing.Offer.{Offer}
use Rattle.pcef_model.specs.declared.answer.Accepted.{Accepted}
use Rattle.pcef_model.specs.declared.answer.AttachFault.{AttachFault}
use Rattle.pcef_model.specs.declared.answer.AttachFault.TheVariants as attach
use Rattle.pcef_model.specs.declared.answer.FlushRefusal.{FlushRefusal}
use Rattle.pcef_model.specs.declared.answer.FlushRefusal.TheVariants as flush
use Rattle.pcef_model.specs.declared.answer.Refusal.{Refusal}
use Rattle.pcef_model.specs.declared.answer.Refusal.TheVariants as refusal
use Rattle.pcef_model.specs.declared.command.Command.{Command}
use Rattle.pcef_model.specs.declared.command.Command.TheVariants as command
use Rattle.pcef_model.specs.declared.row.Row.{Row}
use Rattle.pcef_model.specs.Setting.{Setting, offer_named}
use Rattle.pcef_model.specs.Entries.{Journal}
use Rattle.pcef_model.specs.Outcomes.{AttachStep, CommandStep, FinishStep, FlushStep, GivesOrLacks, Outcome, FlushAnswer, attach_outcome, attach_outcome_by, changes, command_outcome, command_outcome_by, finish_outcome, finish_outcome_by, flush_outcome, flush_outcome_by}
use Rattle.pcef_model.specs.Refusals.{Conditions, attach_faults, becoming_active_if, first_of, flush_refusals, is_active, refusals}
use Rattle.pcef_world.specs.Steps.{is_error}

-- ---- outcomes
-- what is due was given, unless out of memory
given : {A R : Type 0} (first : Option R) (want : R) (due : Outcome A R) (before after : Journal) (r : Result A R) →
    GivesOrLacks first want due before r after → (r ≡ Err want → ⊥) → due ≡ (r, after)
given first want due before after r (inl done) other = rw (done.0, done.1) refl
given first want due before after r (inr none) other = absurd (other none.1.0)

-- memory was wanting where nothing refuses, and nothing changed
lacking : {A R : Type 0} (o : Option R) (want : R) (due : Option R → Outcome A R) (before after : Journal) →
    ((r : R) → due (Some r) ≡ (Err r, before)) → is_error (due None).0 ≡ false → (o ≡ Some want → ⊥) →
    GivesOrLacks o want (due o) before (Err want) after → (is_error (due o).0 ≡ false) × (after ≡ before)
lacking None want due before after refused accepted never (inl done) =
    absurd (let e : true ≡ false = ap is_error done.0 ∙ accepted in cc)
lacking None want due before after refused accepted never (inr none) = (accepted, none.1.1)
lacking (Some r) want due before after refused accepted never (inl done) =
    absurd (never (let e : Err want ≡ Err r = done.0 ∙ ap (λ o. o.0) (refused r) in cc))
lacking (Some r) want due before after refused accepted never (inr none) = absurd (let e = none.0 in cc)

-- ---- commands
abbrev is_lack : Refusal → Bool
is_lack refusal.NoMemory = true
is_lack _ = false

abbrev none_lack : Conditions Refusal → Bool
none_lack cs = list_all (λ c. not (is_lack c.1)) cs

both_true : (a b : Bool) → (a && b) ≡ true → (a ≡ true) × (b ≡ true)
both_true true b is = (refl, is)
both_true false b is = absurd cc

never : (cs : Conditions Refusal) → none_lack cs ≡ true → first_of cs ≡ Some refusal.NoMemory → ⊥
never [] all is = cc
never ((false, r) ∷ cs) all is = never cs (both_true (not (is_lack r)) (none_lack cs) all).1 is
never ((true, r) ∷ cs) all is =
    let same : r ≡ refusal.NoMemory = cc in
    absurd (let e : false ≡ true = ap (λ x. not (is_lack x)) (sym same) ∙ (both_true (not (is_lack r)) (none_lack cs) all).0 in cc)

-- of all conditions of a command none answers it
activate_none : (p : Setting) (j : Journal) (o : Option Offer) → none_lack (becoming_active_if p j o) ≡ true
activate_none p j None = refl
activate_none p j (Some o) = refl

none_refuses : (p : Setting) (j : Journal) (c : Command) → none_lack (refusals p j c) ≡ true
none_refuses p j (command.Install rule) = refl
none_refuses p j (command.Activate name) = with_is (is_active p j name)
  where
    with_is : (b : Bool) → none_lack (if b then [] else becoming_active_if p j (offer_named p name)) ≡ true
    with_is true = refl
    with_is false = activate_none p j (offer_named p name)
none_refuses p j (command.Remove name) = refl
none_refuses p j (command.Monitor key amount level) = refl
none_refuses p j (command.Stop key) = refl
none_refuses p j (command.ReportNow key) = refl
none_refuses p j (command.Triggers set) = refl
none_refuses p j (command.Notice kind value) = refl
none_refuses p j (command.LoseBearer id) = refl
none_refuses p j command.Close = refl
none_refuses p j command.Terminate = refl

pub command_given : (p : Setting) (c : Command) (j k : Journal) (r : Result Accepted Refusal) → CommandStep p c j r k → (r ≡ Err refusal.NoMemory → ⊥) → command_outcome p j c ≡ (r, k)
command_given p c j k r does other = given (first_of (refusals p j c)) refusal.NoMemory (command_outcome p j c) j k r does other

pub command_lacking : (p : Setting) (c : Command) (j k : Journal) → CommandStep p c j (Err refusal.NoMemory) k → (is_error (command_outcome p j c).0 ≡ false) × (k ≡ j)
unfolding command_outcome
command_lacking p c j k does =
    lacking (first_of (refusals p j c)) refusal.NoMemory (command_outcome_by p j c) j k (λ r. refl) (accepted p j c (changes p j c) refl) (never (refusals p j c) (none_refuses p j c)) does
  where
    accepted : (p : Setting) (j : Journal) (c : Command) (b : Bool) → changes p j c ≡ b → is_error (command_outcome_by p j c None).0 ≡ false
    accepted p j c true is = rw is refl
    accepted p j c false is = rw is refl

-- ---- workers
pub attach_given : (j k : Journal) (r : Result ℕ AttachFault) → AttachStep j r k → (r ≡ Err attach.NoMemory → ⊥) → attach_outcome j ≡ (r, k)
attach_given j k r attaches other = given (first_of (attach_faults j)) attach.NoMemory (attach_outcome j) j k r attaches other

never_attach : (a b : Bool) → first_of ((a, attach.NoPlace) ∷ (b, attach.Closed) ∷ []) ≡ Some attach.NoMemory → ⊥
never_attach true b is = cc
never_attach false true is = cc
never_attach false false is = cc

pub attach_lacking : (j k : Journal) → AttachStep j (Err attach.NoMemory) k → (is_error (attach_outcome j).0 ≡ false) × (k ≡ j)
unfolding attach_outcome
attach_lacking j k attaches =
    lacking (first_of (attach_faults j)) attach.NoMemory (attach_outcome_by j) j k (λ r. refl) refl (never_attach _ _) attaches

never_flush : (a b : Bool) → first_of ((a, flush.NotAttached) ∷ (b, flush.RowsFull) ∷ []) ≡ Some flush.NoMemory → ⊥
never_flush true b is = cc
never_flush false true is = cc
never_flush false false is = cc

pub flush_given : (p : Setting) (j k : Journal) (worker : ℕ) (rs : List Row) (r : Result FlushAnswer FlushRefusal) → FlushStep p worker rs j r k → (r ≡ Err flush.NoMemory → ⊥) → flush_outcome p j worker rs ≡ (r, k)
flush_given p j k worker rs r flushes other = given (first_of (flush_refusals p j worker (length rs))) flush.NoMemory (flush_outcome p j worker rs) j k r flushes other

pub flush_lacking : (p : Setting) (j k : Journal) (worker : ℕ) (rs : List Row) → FlushStep p worker rs j (Err flush.NoMemory) k → (is_error (flush_outcome p j worker rs).0 ≡ false) × (k ≡ j)
unfolding flush_outcome
flush_lacking p j k worker rs flushes =
    lacking (first_of (flush_refusals p j worker (length rs))) flush.NoMemory (flush_outcome_by p j rs) j k (λ r. refl) refl (never_flush _ _) flushes

pub finish_given : (p : Setting) (j k : Journal) (worker : ℕ) (rs : List Row) (r : Result (FlushAnswer × ℕ) FlushRefusal) → FinishStep p worker rs j r k → (r ≡ Err flush.NoMemory → ⊥) → finish_outcome p j worker rs ≡ (r, k)
finish_given p j k worker rs r finishes other = given (first_of (flush_refusals p j worker (length rs))) flush.NoMemory (finish_outcome p j worker rs) j k r finishes other

pub finish_lacking : (p : Setting) (j k : Journal) (worker : ℕ) (rs : List Row) → FinishStep p worker rs j (Err flush.NoMemory) k → (is_error (finish_outcome p j worker rs).0 ≡ false) × (k ≡ j)
unfolding finish_outcome
finish_lacking p j k worker rs finishes =
    lacking (first_of (flush_refusals p j worker (length rs))) flush.NoMemory (finish_outcome_by p j worker rs) j k (λ r. refl) refl (never_flush _ _) finishes
