-- Event triggers (TS 29.212, clause 5.3.7).
use Rattle.std.specs.Prelude.{ℕ, ◌&&◌, not, Bool, List, [], ◌∷◌, ◌++◌, Result, Ok, if◌then◌else◌}
use Rattle.std.specs.List.{filter}
use Rattle.pcef_base.specs.Readings.{◌>>=◌, is_from_to, passing}
use Rattle.pcef_diameter.specs.Avps.{Shown}
use Rattle.pcef_gx.specs.Codes.{event_trigger, has_code}
use Rattle.pcef_gx.specs.Known.{is_one_of}
use Rattle.pcef_gx.specs.Readings.{Fault, number_of}
use Rattle.pcef_gx.specs.declared.fault.Problem.TheVariants.{InvalidAvpValue}
use Rattle.pcef_model.specs.Journals.{no_triggers}
use Rattle.pcef_model.specs.declared.trigger.TriggerSet.{TriggerSet}

-- 0 to 60, but those that no trigger has
abbrev pub is_trigger : ℕ → Bool
is_trigger number = is_from_to 0 60 number && not (is_one_of (8 ∷ 9 ∷ 10 ∷ 31 ∷ 32 ∷ 38 ∷ 41 ∷ []) number)

unfoldable pub trigger_of : Shown → Result ℕ Fault
trigger_of a = do
  number ← number_of a
  passing is_trigger (InvalidAvpValue, a) number

-- the numbers of all Event-Triggers of some AVPs, behind others
abbrev pub triggers_after : List ℕ → List Shown → Result (List ℕ) Fault
triggers_after found [] = Ok found
triggers_after found (a ∷ avps) =
    if has_code event_trigger a then trigger_of a >>= (λ number. triggers_after (found ++ number ∷ []) avps)
    else triggers_after found avps

-- A session has those with these numbers: USAGE_REPORT 33, RAT_CHANGE 2, PLMN_CHANGE 4, USER_LOCATION_CHANGE 13,
-- UE_TIMEZONE_CHANGE 25. It has none where NO_EVENT_TRIGGERS, 14, is among the numbers.
unfoldable pub set_of : List ℕ → TriggerSet
set_of numbers =
    if is_one_of numbers 14 then no_triggers
    else record {
      usage_report = is_one_of numbers 33;
      rat_change = is_one_of numbers 2;
      plmn_change = is_one_of numbers 4;
      user_location_change = is_one_of numbers 13;
      ue_time_zone_change = is_one_of numbers 25;
    }

-- The others are the gateway's to watch.
abbrev pub others_of : List ℕ → List ℕ
others_of numbers = filter (λ number. not (is_one_of (2 ∷ 4 ∷ 13 ∷ 14 ∷ 25 ∷ 33 ∷ []) number)) numbers
