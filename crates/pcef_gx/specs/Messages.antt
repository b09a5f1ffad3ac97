-- What a RAR and a CCA ask of a session (TS 29.212, clauses 5.6.4 and 5.6.3).
use Rattle.std.specs.Prelude.{◌≡◌, ℕ, Bool, true, List, [], ◌∷◌, ◌++◌, Option, Some, None, Result, Ok, Err}
use Rattle.pcef_base.specs.Readings.{◌>>=◌}
use Rattle.pcef_diameter.specs.Avps.{Shown}
use Rattle.pcef_line.specs.FilterReads.{FilterReading, IsExact}
use Rattle.pcef_rule.specs.declared.quantity.Qos.{Qos}
use Rattle.pcef_gx.specs.Codes.{auth_application_id, cc_request_number, cc_request_type, default_eps_bearer_qos, destination_host, destination_realm, origin_host, origin_realm, re_auth_request_type, session_id, session_release_cause}
use Rattle.pcef_gx.specs.Installs.{installs_after, removes_after}
use Rattle.pcef_gx.specs.Monitors.{monitors_after}
use Rattle.pcef_gx.specs.Qualities.{qos_of}
use Rattle.pcef_gx.specs.Readings.{Fault, group_of, only_number_of, only_of, required_of, where_there}
use Rattle.pcef_gx.specs.Triggers.{others_of, set_of, triggers_after}
use Rattle.pcef_gx.specs.declared.code.Code.{Code}
use Rattle.pcef_gx.specs.declared.order.Order.{Order}
use Rattle.pcef_gx.specs.declared.order.Order.TheVariants.{Triggers}
use Rattle.pcef_gx.specs.declared.order.Orders.{Orders}

-- what is asked, wherever its lists lie in memory
pub record Asked : Type 0 where
  pub orders : List Order
  pub others : List ℕ
  pub default_qos : Option Qos
  pub release : Option ℕ

abbrev pub asked : Orders → Asked
asked o = record { orders = o.orders.items; others = o.others.items; default_qos = o.default_qos; release = o.release }

-- ---- the AVPs that a message has, once
abbrev pub of_rar : List Code
of_rar =
    session_id ∷ auth_application_id ∷ origin_host ∷ origin_realm ∷ destination_realm ∷ destination_host
    ∷ re_auth_request_type ∷ []

abbrev pub of_cca : List Code
of_cca = session_id ∷ auth_application_id ∷ origin_host ∷ origin_realm ∷ cc_request_type ∷ cc_request_number ∷ []

abbrev pub all_stand : List Code → List Shown → Result Bool Fault
all_stand [] avps = Ok true
all_stand (code ∷ codes) avps = required_of code avps >>= λ a. all_stand codes avps

-- ---- what they ask for
abbrev pub flattened : {X : Type 0} → Option (Option X) → Option X
flattened (Some (Some x)) = Some x
flattened _ = None

unfoldable pub default_in : Shown → Result (Option Qos) Fault
default_in a = do
  parts ← group_of a.octets
  qos_of parts

-- Default-EPS-Bearer-QoS (clause 5.3.48)
unfoldable pub default_of : List Shown → Result (Option Qos) Fault
default_of avps = do
  found ← only_of default_eps_bearer_qos avps
  qos ← where_there default_in found
  Ok (flattened qos)

-- The events of a message are all that are subscribed from then on; without an Event-Trigger they stay (clause 4.5.3).
abbrev pub trigger_orders : List ℕ → List Order
trigger_orders [] = []
trigger_orders (number ∷ numbers) = Triggers (set_of (number ∷ numbers)) ∷ []

-- Rules are removed before others are installed, and events are subscribed to before keys are switched on (own choice).
-- The first fault refuses the message as a whole.
unfoldable pub asked_of : FilterReading → List Shown → Result Asked Fault
asked_of reads avps = do
  qos ← default_of avps
  release ← only_number_of session_release_cause avps
  removed ← removes_after [] avps
  installed ← installs_after reads removed avps
  numbers ← triggers_after [] avps
  all ← monitors_after (installed ++ trigger_orders numbers) avps
  Ok (record { orders = all; others = others_of numbers; default_qos = qos; release = release })

unfoldable pub message_of : List Code → FilterReading → List Shown → Result Asked Fault
message_of codes reads avps = do
  _ ← all_stand codes avps
  asked_of reads avps

-- with each Flow-Description read as its grammar says
abbrev pub RarOf : List Shown → Result Asked Fault → Type 0
RarOf avps due = (reads : FilterReading) × IsExact reads × (due ≡ message_of of_rar reads avps)

abbrev pub CcaOf : List Shown → Result Asked Fault → Type 0
CcaOf avps due = (reads : FilterReading) × IsExact reads × (due ≡ message_of of_cca reads avps)

-- One thing is due to the AVPs of a message, and no two things are.
abbrev pub OneIsDue : (List Shown → Result Asked Fault → Type 0) → Type 0
OneIsDue Due =
    (avps : List Shown)
    → ((due : Result Asked Fault) × Due avps due) × ((d e : Result Asked Fault) → Due avps d → Due avps e → d ≡ e)
