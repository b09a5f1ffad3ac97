-- A renewal of a handle's session, with its answer in a caller's buffer (own choice).
use Rattle.std.specs.Prelude.{ℕ, ◌≡◌, Bool, true, false, List, Option, Some, None, Result, Ok, Err}
use Rattle.pcef_renewal_answer.specs.Renewed.{AnswersRenew, GoesOnLike, IsRenewedOrNot, renews}
use Rattle.pcef_handle.specs.Answering.{CopiesFront, InOpenSession}
use Rattle.pcef_handle.specs.Opening.{number_after}
use Rattle.pcef_handle.specs.declared.held.Handle.{Handle}
use Rattle.pcef_handle.specs.declared.held.OpenSession.{OpenSession}
use Rattle.pcef_handle.specs.declared.line.CallRefusal.{CallRefusal}
use Rattle.pcef_handle.specs.declared.line.CallRefusal.TheVariants.{NoMemory, NoSession}

-- a session that was renewed is like the old one and has the number `next`, and the next session gets the one behind it; one
-- that wasn't keeps its own
abbrev pub GetsNumber : OpenSession → ℕ → Bool → OpenSession → ℕ → Type 0
GetsNumber old next true new then = GoesOnLike old.world new.world × (new.number ≡ next) × (then ≡ number_after next)
GetsNumber old next false new then = (new.number ≡ old.number) × (then ≡ next)

-- it is renewed or not, and what is fixed for it stays
pub record IsRenewedInPlace (old : OpenSession) (next : ℕ) (renewed : Bool) (new : OpenSession) (then : ℕ) : Type 0 where
  pub world : IsRenewedOrNot old.world renewed new.world
  pub number : GetsNumber old next renewed new then
  pub setting : new.world.session.setting ≡ old.world.session.setting

-- the answer is put into a buffer; when out of memory nothing is written, and the session is renewed or as before
abbrev pub RenewsInto : OpenSession → ℕ → List ℕ → Result ℕ CallRefusal → OpenSession → ℕ → List ℕ → Type 0
RenewsInto old next before (Ok octets) new then after =
    IsRenewedInPlace old next (renews old.world) new then
    × ((text : List ℕ) × AnswersRenew old.world text new.world × CopiesFront text before after octets)
RenewsInto old next before (Err NoMemory) new then after =
    ((renewed : Bool) × IsRenewedInPlace old next renewed new then) × (after ≡ before)
RenewsInto old next before (Err other) new then after = ⊥

abbrev pub RenewsHandle : Handle → List ℕ → Result ℕ CallRefusal → Handle → List ℕ → Type 0
RenewsHandle old before result new after =
    InOpenSession old.session new.session (λ s t. RenewsInto s old.next_number before result t new.next_number after)
    ((result ≡ Err NoSession) × (after ≡ before) × (new.next_number ≡ old.next_number))
