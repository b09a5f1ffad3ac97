-- What the program does with its words and its profiles, from a reader with `before` still to come and a writer
-- with `old` written, to `left` and `new` (own choice).
use Rattle.std.specs.Prelude.{ℕ, ◌≡◌, ◌⊎◌, ◌==◌, List, [], ◌∷◌, length, String, Vec, string_bytes, Option, Some, None, is_some, Result, Ok, Err, if◌then◌else◌}
use Rattle.std.specs.declared.alloc.Global.{Global}
use Rattle.std.specs.Io.KnownBytes.{Consumes, IsAtEnd, Keeps}
use Rattle.std.specs.IoError.{error_kind}
use Rattle.pcef_catalog.specs.declared.listing.Offer.{Offer}
use Rattle.pcef_rule.specs.declared.quantity.Sums.{Sums}
use Rattle.pcef_model.specs.Setting.{Setting}
use Rattle.pcef_model.specs.ProfileModel.{ProfileModel, setting_of}
use Rattle.pcef_profile.specs.ProfileOf.{GivesProfile, ProfileOf}
use Rattle.pcef_profile.specs.declared.fault.ReadProfileFault.{ReadProfileFault}
use Rattle.pcef_script.specs.declared.fault.ScriptFault.{ScriptFault}
use Rattle.pcef_script.specs.Runs.{Runs}
use Rattle.pcef_script.specs.Scripts.{Opened, Wrote, all_lines}
use Rattle.pcef_run.specs.declared.end.End.{End}
use Rattle.pcef_run.specs.declared.end.End.TheVariants as ending
use Rattle.pcef_run.specs.Ends.{profile_end, script_end, unread_end}
use Rattle.pcef_run.specs.PlanRuns.{RanPlan}
use Rattle.pcef_run.specs.PoolEnds.{EndsPool, IsWholePool, Text}
use Rattle.pcef_run.specs.Words.{path_of, paths_of, pool_of, workers_of}

-- ---- what the words ask for
-- that of the profile that is named, where it is the only one
abbrev pub asked : List (Vec ℕ Global) → List Text → Option Text
asked words (profile ∷ []) = if is_some (path_of words) then Some profile else None
asked words profiles = None

-- the capacity of the pool, where all profiles that are named are there
abbrev pub asked_pool : List (Vec ℕ Global) → List Text → Option Sums
asked_pool words profiles = if length profiles == length (paths_of words) then pool_of words else None

-- ---- what is done
abbrev pub IsUntouched : Option (List ℕ) → Option (List ℕ) → Option (List ℕ) → Option (List ℕ) → Type 0
IsUntouched before left old new = Keeps before left × Keeps old new

-- a script was run, what it wrote stayed so, and its end is the program's, unless the answers couldn't be flushed
abbrev pub RanScript : Setting → End → Option (List ℕ) → Option (List ℕ) → Option (List ℕ) → Option (List ℕ) → Type 0
RanScript p end before left old new =
    (result : Result ℕ ScriptFault) × Opened p result × (written : Option (List ℕ)) × Runs p result before left old written × Keeps written new
    × ((end ≡ script_end result) ⊎ (end ≡ ending.Write))

-- a script, or a plan with `workers` workers
abbrev pub RanScriptOrPlan : Option ℕ → Setting → End → Option (List ℕ) → Option (List ℕ) → Option (List ℕ) → Option (List ℕ) → Type 0
RanScriptOrPlan None p end before left old new = RanScript p end before left old new
RanScriptOrPlan (Some workers) p end before left old new = RanPlan p workers end before left old new

abbrev pub EndsBy : List Offer → Option ℕ → Result ProfileModel ReadProfileFault → End → Option (List ℕ) → Option (List ℕ) → Option (List ℕ) → Option (List ℕ) → Type 0
EndsBy offers workers (Ok profile) end before left old new =
    RanScriptOrPlan workers (setting_of profile offers) end before left old new
EndsBy offers workers (Err fault) end before left old new = (end ≡ profile_end fault) × IsUntouched before left old new

-- that is run on the session of its profile, or the end is the profile's
abbrev pub EndsOne : List Offer → Option ℕ → Option Text → End → Option (List ℕ) → Option (List ℕ) → Option (List ℕ) → Option (List ℕ) → Type 0
EndsOne offers workers None end before left old new = (end ≡ ending.Usage) × IsUntouched before left old new
EndsOne offers workers (Some (Err error)) end before left old new = (end ≡ unread_end (error_kind error)) × IsUntouched before left old new
EndsOne offers workers (Some (Ok text)) end before left old new =
    (read : Result ProfileModel ReadProfileFault) × GivesProfile read (ProfileOf (string_bytes text)) × EndsBy offers workers read end before left old new

-- sessions on a pool of this capacity, or else a script or a run
abbrev pub EndsAsked : List Offer → Option Sums → List (Vec ℕ Global) → List Text → End → Option (List ℕ) → Option (List ℕ) → Option (List ℕ) → Option (List ℕ) → Type 0
EndsAsked offers (Some capacity) words profiles end before left old new = EndsPool offers capacity profiles end before left old new
EndsAsked offers None words profiles end before left old new =
    EndsOne offers (workers_of words) (asked words profiles) end before left old new

-- what the words ask for is done
abbrev pub Ends : List Offer → List (Vec ℕ Global) → List Text → End → Option (List ℕ) → Option (List ℕ) → Option (List ℕ) → Option (List ℕ) → Type 0
Ends offers words profiles end before left old new = EndsAsked offers (asked_pool words profiles) words profiles end before left old new

-- ---- status 0
-- a script was asked for whose profile has no fault; all its input was read, no line is at fault, and the
-- answers to all lines are written
abbrev pub IsWholeScript : List Offer → Option Text → Option (List ℕ) → Option (List ℕ) → Option (List ℕ) → Option (List ℕ) → Type 0
IsWholeScript offers asked before left old new =
    (text : String Global) × (profile : ProfileModel) × (input : List ℕ)
    × (asked ≡ Some (Ok text)) × GivesProfile (Ok profile) (ProfileOf (string_bytes text))
    × Consumes before left input × IsAtEnd left × Wrote (setting_of profile offers) (all_lines input) 0 old new

-- or a run: the session of its profile ran the plan that the input is, and the summary of the run is written
abbrev pub IsWholeRun : List Offer → ℕ → Option Text → Option (List ℕ) → Option (List ℕ) → Option (List ℕ) → Option (List ℕ) → Type 0
IsWholeRun offers workers asked before left old new =
    (text : String Global) × (profile : ProfileModel)
    × (asked ≡ Some (Ok text)) × GivesProfile (Ok profile) (ProfileOf (string_bytes text))
    × RanPlan (setting_of profile offers) workers ending.Done before left old new

abbrev pub IsWholeOne : List Offer → Option ℕ → Option Text → Option (List ℕ) → Option (List ℕ) → Option (List ℕ) → Option (List ℕ) → Type 0
IsWholeOne offers None asked before left old new = IsWholeScript offers asked before left old new
IsWholeOne offers (Some workers) asked before left old new = IsWholeRun offers workers asked before left old new

-- or sessions on a pool
abbrev pub IsWholeAsked : List Offer → Option Sums → List (Vec ℕ Global) → List Text → Option (List ℕ) → Option (List ℕ) → Option (List ℕ) → Option (List ℕ) → Type 0
IsWholeAsked offers (Some capacity) words profiles before left old new = IsWholePool offers capacity profiles before left old new
IsWholeAsked offers None words profiles before left old new = IsWholeOne offers (workers_of words) (asked words profiles) before left old new

abbrev pub IsWhole : List Offer → List (Vec ℕ Global) → List Text → Option (List ℕ) → Option (List ℕ) → Option (List ℕ) → Option (List ℕ) → Type 0
IsWhole offers words profiles before left old new = IsWholeAsked offers (asked_pool words profiles) words profiles before left old new
