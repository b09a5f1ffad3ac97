-- What an answer of the PCRF says, by its AVPs.
use Rattle.std.proofs.Common.{◌≡◌, ◌∙◌, ℕ, Bool, true, false, List, Option, Some, None, Result, Ok, Err, refl, sym, ap}
use Rattle.pcef_diameter.specs.Avps.{Shown}
use Rattle.pcef_diameter.specs.declared.header.MessageHeader.{MessageHeader}
use Rattle.pcef_filter.specs.Reading.{reading_of}
use Rattle.pcef_line.proofs.LineLaws.{reading_exact}
use Rattle.pcef_gx.specs.Messages.{Asked, CcaOf, asked}
use Rattle.pcef_gx.specs.Readings.{Fault}
use Rattle.pcef_gx.specs.declared.order.Orders.{Orders}
use Rattle.pcef_gx_messages.specs.Identities.{Speaker}
use Rattle.pcef_base.specs.Readings.{◌>>=◌, under}
use Rattle.pcef_gx_dialogue.specs.Ccas.{AvpsDue, CcaDue, DropsAs, Dropped, Hears, SaidBy, Saying, SaysSo, at_fault, cca_due, failed, failure_of, granted, heard_due, is_success, said, saying_of}
use Rattle.pcef_gx_dialogue.specs.Ccrs.{Out}
use Rattle.pcef_gx_dialogue.specs.declared.cca.CcaDrop.{CcaDrop}
use Rattle.pcef_gx_dialogue.specs.declared.cca.CcaDrop.TheVariants as cca_drop
use Rattle.pcef_gx_dialogue.specs.declared.cca.Says.{Says}
use Rattle.pcef_gx_dialogue.specs.declared.cca.Says.TheVariants as says

-- the CCR failed
pub said_failed : (code : Option ℕ) (avps : List Shown) → is_success code ≡ false → (due : Result Saying Dropped) × SaysSo code avps due × (due ≡ Ok (failed code))
said_failed code avps no_success = (Ok (failed code), (reading_of, reading_exact, rw no_success refl), refl)

-- it was granted, and its orders are these
pub said_granted : (code : Option ℕ) (avps : List Shown) (orders : Orders) → is_success code ≡ true → (d : Result Asked Fault) × CcaOf avps d × (under at_fault d ≡ Ok (asked orders)) →
    (due : Result Saying Dropped) × SaysSo code avps due × (due ≡ Ok (granted (asked orders)))
said_granted code avps orders passes (d, (reads, exact, same), is) =
    (said reads code avps, (reads, exact, refl), rw passes (ap (λ m. under at_fault m >>= (λ a. Ok (granted a))) (sym same) ∙ ap (λ r. r >>= (λ a. Ok (granted a))) is))

-- it was granted, and its AVPs are at fault
pub said_dropped : (code : Option ℕ) (avps : List Shown) (e : CcaDrop) → is_success code ≡ true → (d : Result Asked Fault) × CcaOf avps d × DropsAs e (under at_fault d) →
    (due : Result Saying Dropped) × SaysSo code avps due × DropsAs e due
said_dropped code avps cca_drop.NotOurs passes (d, (reads, exact, same), is) =
    (said reads code avps, (reads, exact, refl), rw passes (ap (λ m. under at_fault m >>= (λ a. Ok (granted a))) (sym same) ∙ ap (λ r. r >>= (λ a. Ok (granted a))) is))
said_dropped code avps (cca_drop.Fault f) passes (d, (reads, exact, same), is) =
    (said reads code avps, (reads, exact, refl), rw passes (ap (λ m. under at_fault m >>= (λ a. Ok (granted a))) (sym same) ∙ ap (λ r. r >>= (λ a. Ok (granted a))) is))
said_dropped code avps cca_drop.NoMemory passes (d, (reads, exact, same), is) = (said reads code avps, (reads, exact, refl), tt)

-- it is dropped before its Result-Code is looked at
pub heard_dropped : (s : Speaker) (out : Option Out) (h : MessageHeader) (message : List ℕ) (e : CcaDrop) → DropsAs e (heard_due s out h message) →
    (due : Result Saying Dropped) × AvpsDue s out h message due × DropsAs e due
heard_dropped s out h message cca_drop.NotOurs is =
    (cca_due reading_of s out h message, (reading_of, reading_exact, refl), ap (λ r. r >>= λ heard. said reading_of heard.1 heard.0) is)
heard_dropped s out h message (cca_drop.Fault f) is =
    (cca_due reading_of s out h message, (reading_of, reading_exact, refl), ap (λ r. r >>= λ heard. said reading_of heard.1 heard.0) is)
heard_dropped s out h message cca_drop.NoMemory is = (cca_due reading_of s out h message, (reading_of, reading_exact, refl), tt)

-- something is due, whatever came
due_by : (failure : Option (Option ℕ)) (s : Speaker) (out : Option Out) (h : MessageHeader) (message : List ℕ) →
    (due : Result Saying Dropped) × SaidBy failure s out h message due × Unit {0}
due_by (Some code) s out h message = (Ok (failed code), refl, tt)
due_by None s out h message = (cca_due reading_of s out h message, (reading_of, reading_exact, refl), tt)

pub some_due : (s : Speaker) (out : Option Out) (h : MessageHeader) (message : List ℕ) → (due : Result Saying Dropped) × CcaDue s out h message due × Unit {0}
some_due s out h message = due_by (failure_of out h message) s out h message
