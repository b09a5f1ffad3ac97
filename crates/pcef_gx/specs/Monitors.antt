-- Usage-Monitoring-Information (TS 29.212, clauses 5.3.59, 5.3.60, 5.3.61, 5.3.62 and 5.3.63).
use Rattle.std.specs.Prelude.{ℕ, ◌<◌, ◌==◌, nat_lt, Bool, true, false, List, [], ◌∷◌, ◌++◌, length, is_some, Option, Some, None, Result, Ok, Err, if◌then◌else◌}
use Rattle.pcef_base.specs.Readings.{◌>>=◌, or_fault, passing}
use Rattle.pcef_diameter.specs.Avps.{Shown}
use Rattle.pcef_model.specs.declared.level.Level.{Level}
use Rattle.pcef_model.specs.declared.level.Level.TheVariants as level
use Rattle.pcef_gx.specs.Codes.{cc_total_octets, granted_service_unit, has_code, monitoring_key, usage_monitoring_information, usage_monitoring_level, usage_monitoring_report, usage_monitoring_support}
use Rattle.pcef_gx.specs.Names.{name_of}
use Rattle.pcef_gx.specs.Qualities.{is_word}
use Rattle.pcef_gx.specs.Readings.{Fault, group_of, long_number_of, only_of, only_word_of, where_there}
use Rattle.pcef_gx.specs.declared.fault.Problem.TheVariants as problem
use Rattle.pcef_gx.specs.declared.monitoring.Wish.{Wish}
use Rattle.pcef_gx.specs.declared.order.Order.{Order}
use Rattle.pcef_gx.specs.declared.order.Order.TheVariants as order

-- a Granted-Service-Unit is octets of both directions together: no time, no one direction
abbrev pub total_granted : Shown → ℕ → Option Shown → Result ℕ Fault
total_granted unit count None = Err (problem.UnableToComply, unit)
total_granted unit count (Some total) =
    if count == 1 then long_number_of total >>= (λ octets. passing (nat_lt 0) (problem.InvalidAvpValue, total) octets)
    else Err (problem.UnableToComply, unit)

unfoldable pub grant_of : Shown → Result ℕ Fault
grant_of unit = do
  parts ← group_of unit.octets
  total ← only_of cc_total_octets parts
  total_granted unit (length parts) total

-- Usage-Monitoring-Level: SESSION_LEVEL is 0. Without one a key counts for rules.
abbrev pub level_of : Option ℕ → Level
level_of word = if is_word 0 word then level.Session else level.Rule

unfoldable pub key_of : Shown → Result (List ℕ) Fault
key_of a = or_fault (problem.UnableToComply, a) (name_of a.octets)

-- what one asks for: a report now, an end of monitoring, a grant
unfoldable pub wish_of : List Shown → Result Wish Fault
wish_of parts = do
  report ← only_word_of usage_monitoring_report 0 parts
  support ← only_word_of usage_monitoring_support 0 parts
  word ← only_word_of usage_monitoring_level 1 parts
  unit ← only_of granted_service_unit parts
  grant ← where_there grant_of unit
  Ok (record { report = is_some report; stop = is_some support; level = level_of word; grant = grant })

abbrev pub reported : List ℕ → Bool → List Order
reported key true = order.ReportNow key ∷ []
reported key false = []

abbrev pub switched : List ℕ → Wish → Bool → Option ℕ → List Order
switched key wish true grant = order.Stop key ∷ []
switched key wish false (Some grant) = order.Monitor key grant wish.level ∷ []
switched key wish false None = []

-- The report is made before a new grant is set.
abbrev pub of_key : List Order → List ℕ → Wish → List Order
of_key orders key wish = orders ++ (reported key wish.report ++ switched key wish wish.stop wish.grant)

-- Without a key only a report may be asked for: of each key that is on.
abbrev pub of_all : Shown → List Order → Wish → Bool → Bool → Option ℕ → Result (List Order) Fault
of_all a orders wish true false None = Ok (orders ++ order.ReportAll ∷ [])
of_all a orders wish _ _ _ = Err (problem.UnableToComply, a)

abbrev pub by_key : Shown → List Order → Wish → Option (List ℕ) → Result (List Order) Fault
by_key a orders wish (Some key) = Ok (of_key orders key wish)
by_key a orders wish None = of_all a orders wish wish.report wish.stop wish.grant

unfoldable pub monitor_after : List Order → Shown → Result (List Order) Fault
monitor_after orders a = do
  parts ← group_of a.octets
  wish ← wish_of parts
  named ← only_of monitoring_key parts
  key ← where_there key_of named
  by_key a orders wish key

-- all of a message
abbrev pub monitors_after : List Order → List Shown → Result (List Order) Fault
monitors_after orders [] = Ok orders
monitors_after orders (a ∷ avps) =
    if has_code usage_monitoring_information a then monitor_after orders a >>= (λ more. monitors_after more avps)
    else monitors_after orders avps
