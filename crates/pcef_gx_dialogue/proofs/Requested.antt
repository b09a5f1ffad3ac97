-- What a request asks for, by the AVPs that it has.
use Rattle.std.proofs.Common.{◌≡◌, ◌∙◌, ℕ, List, Result, Ok, Err, refl, sym, ap}
use Rattle.pcef_diameter.specs.Avps.{Shown}
use Rattle.pcef_diameter.specs.declared.header.MessageHeader.{MessageHeader}
use Rattle.pcef_filter.specs.Reading.{reading_of}
use Rattle.pcef_line.proofs.LineLaws.{reading_exact}
use Rattle.pcef_gx.specs.Messages.{Asked, RarOf, asked, message_of, of_rar}
use Rattle.pcef_gx.specs.Readings.{Fault}
use Rattle.pcef_gx.specs.declared.order.Orders.{Orders}
use Rattle.pcef_gx_messages.specs.Identities.{Speaker}
use Rattle.pcef_gx_messages.specs.Sent.{Told, told_of}
use Rattle.pcef_base.specs.Readings.{◌>>=◌, under}
use Rattle.pcef_gx_dialogue.specs.Requests.{RequestDue, Tells, TellsHalt, addressed_avps, request_due, told_fault}
use Rattle.pcef_gx_dialogue.specs.declared.halt.Halt.{Halt}
use Rattle.pcef_gx_dialogue.specs.declared.halt.Halt.TheVariants as halt

-- its AVPs are at fault, or not for this session
pub refused_avps : (s : Speaker) (h : MessageHeader) (message : List ℕ) (e : Halt) → TellsHalt e (addressed_avps s h message) →
    (due : Result Asked Told) × RequestDue s h message due × TellsHalt e due
refused_avps s h message (halt.Refused told) is =
    (Err (told_of told), (reading_of, reading_exact, sym (ap (λ avps. avps >>= λ a. under told_fault (message_of of_rar reading_of a)) is)), refl)
refused_avps s h message halt.NoMemory is = (request_due reading_of s h message, (reading_of, reading_exact, refl), tt)

-- its AVPs ask for something, or are at fault
pub asked_by_avps : (s : Speaker) (h : MessageHeader) (message : List ℕ) (avps : List Shown) (result : Result Orders Halt) → addressed_avps s h message ≡ Ok avps →
    ((due : Result Asked Fault) × RarOf avps due × Tells asked result (under told_fault due)) →
    (due : Result Asked Told) × RequestDue s h message due × Tells asked result due
asked_by_avps s h message avps result is (due, (reads, exact, same), tells) =
    (under told_fault due, (reads, exact, ap (under told_fault) same ∙ sym (ap (λ avps. avps >>= λ a. under told_fault (message_of of_rar reads a)) is)), tells)
