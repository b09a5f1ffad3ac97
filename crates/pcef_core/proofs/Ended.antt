-- Nothing comes after a Terminate.
use Rattle.std.proofs.Common.{◌≡◌, ℕ, Bool, true, false, List, Some, None, length, refl, sym, subst}
use Rattle.std.specs.Prelude.{if◌then◌else◌}
use Rattle.pcef_model.specs.declared.answer.FlushRefusal.TheVariants as flush
use Rattle.pcef_model.specs.declared.command.Command.TheVariants.{Terminate}
use Rattle.pcef_model.specs.Setting.{Setting}
use Rattle.pcef_model.specs.Commands.{is_among}
use Rattle.pcef_model.specs.Entries.{Journal}
use Rattle.pcef_model.specs.Journals.{slots, unreported}
use Rattle.pcef_model.specs.Lawful.{Lawful}
use Rattle.pcef_model.specs.Laws.{IsOver}
use Rattle.pcef_model.specs.Refusals.{attach_faults, first_of, flush_refusals, is_attached, refusals}
use Rattle.pcef_model.specs.Reports.{after_command}
use Rattle.pcef_model.proofs.Ending.{nothing_follows, nothing_unreported}
use Rattle.pcef_core.specs.Reporting.{Later, at_once, by_attach, by_command, by_flush, by_leave}

-- where rows are refused as of a worker that isn't there, it isn't
not_there : (full : Bool) → (if full then Some flush.RowsFull else None) ≡ Some flush.NotAttached → ⊥
not_there true told = cc
not_there false told = cc

-- nothing is accepted once a session is over, so its journal stays
stays : (p : Setting) (a k : Journal) → IsOver p a → Later p a k → k ≡ a
stays p a _ over at_once = refl
stays p a _ over (by_command j c later accepted changing) =
    let same = stays p a j over later in
    let none : first_of (refusals p a c) ≡ None = subst (λ (i : Journal). first_of (refusals p i c) ≡ None) same accepted in
    absurd (let e = over.no_command c in cc)
stays p a _ over (by_attach j later accepted) =
    let same = stays p a j over later in
    absurd (over.no_worker (subst (λ (i : Journal). first_of (attach_faults i) ≡ None) same accepted))
stays p a _ over (by_leave j worker later attached) =
    let same = stays p a j over later in
    let there : is_attached a worker ≡ true = subst (λ (i : Journal). is_attached i worker ≡ true) same attached in
    let e : first_of (flush_refusals p a worker 0) ≡ Some flush.NotAttached = over.no_row worker 0 in
    absurd (not_there _ (rw there at e))
stays p a _ over (by_flush j worker rows later accepted) =
    let same = stays p a j over later in
    let none : first_of (flush_refusals p a worker (length rows)) ≡ None = subst (λ (i : Journal). first_of (flush_refusals p i worker (length rows)) ≡ None) same accepted in
    let e : first_of (flush_refusals p a worker (length rows)) ≡ Some flush.NotAttached = over.no_row worker (length rows) in
    absurd cc

pub all_told : (p : Setting) (j k : Journal) → Lawful p j → first_of (refusals p j Terminate) ≡ None → Later p (after_command p j Terminate) k →
    (key : List ℕ) → is_among key (slots p j) ≡ true → unreported p k key ≡ 0
all_told p j k lawful accepted later key there =
    subst (λ (i : Journal). unreported p i key ≡ 0) (sym (stays p (after_command p j Terminate) k (nothing_follows p j accepted) later)) (nothing_unreported p j lawful key there)
