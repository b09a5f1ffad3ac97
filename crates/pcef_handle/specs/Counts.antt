-- What a session has counted, and what is left of its limits (own choice).
use Rattle.std.specs.Prelude.{ℕ, ◌≡◌, ◌-◌, List, Option, Some, None, Result, Ok, Err, length, slice_get}
use Rattle.std.specs.Option.{option_map}
use Rattle.pcef_model.specs.Entries.{commands, rows}
use Rattle.pcef_usage.specs.declared.usage.KeyState.{KeyState}
use Rattle.pcef_session.specs.Agreement.{KeysAgree}
use Rattle.pcef_session.specs.Answers.{workers_left as left_of_workers}
use Rattle.pcef_handle.specs.declared.held.OpenSession.{OpenSession}
use Rattle.pcef_handle.specs.declared.counts.KeyUsage.{KeyUsage}
use Rattle.pcef_handle.specs.declared.counts.UsageRefusal.{UsageRefusal}
use Rattle.pcef_handle.specs.declared.counts.UsageRefusal.TheVariants.{NoKey, NoSession}

-- those that the profile allows, less those that the journal has
abbrev pub rows_left : OpenSession → ℕ
rows_left s = s.world.session.setting.rows - length (rows s.world.session.journal)

abbrev pub commands_left : OpenSession → ℕ
commands_left s = s.world.session.setting.commands - length (commands s.world.session.journal)

-- those of the session's life, less the workers that were ever attached
abbrev pub handle_workers_left : OpenSession → ℕ
handle_workers_left s = left_of_workers s.world.session.journal

abbrev pub rows_left_in : Option OpenSession → Option ℕ
rows_left_in s = option_map rows_left s

abbrev pub commands_left_in : Option OpenSession → Option ℕ
commands_left_in s = option_map commands_left s

abbrev pub workers_left_in : Option OpenSession → Option ℕ
workers_left_in s = option_map handle_workers_left s

-- the usage of the key that stands at a place among those that have a slot, each as the journal says
abbrev pub IsUsageOf : Option KeyState → Result KeyUsage UsageRefusal → Type 0
IsUsageOf (Some k) r = r ≡ Ok (record { reported = k.reported; unreported = k.unreported })
IsUsageOf None r = r ≡ Err NoKey

abbrev pub UsageIn : Option OpenSession → ℕ → Result KeyUsage UsageRefusal → Type 0
UsageIn None slot r = r ≡ Err NoSession
UsageIn (Some s) slot r =
    (keys : List KeyState) × KeysAgree s.world.session.setting s.world.session.journal keys × IsUsageOf (slice_get keys slot) r
