-- Why a line doesn't fit a run, or sessions on a pool (own choice).
use Rattle.std.specs.Prelude.{ℕ, ◌≡◌, ◌⊎◌, List, [], ◌∷◌, ◌++◌, codes, string_bytes}
use Rattle.pcef_line.specs.LineFaults.{fault_name}
use Rattle.pcef_line.specs.declared.fault.LineFault.{LineFault}
use Rattle.pcef_line.specs.declared.fault.LineFault.TheVariants as fault
use Rattle.pcef_explain.specs.Plain.{IsPlain}
use Rattle.pcef_run.specs.declared.fault.PlanFault.{PlanFault}
use Rattle.pcef_run.specs.declared.fault.PlanFault.TheVariants as plan
use Rattle.pcef_run.specs.declared.unfit.Unfit.{Unfit}
use Rattle.pcef_run.specs.declared.unfit.Unfit.TheVariants as unfit
use Rattle.pcef_run.specs.declared.unfit.Untaken.{Untaken}
use Rattle.pcef_run.specs.declared.unfit.Untaken.TheVariants as untaken

abbrev pub unfit_name : Unfit → List ℕ
unfit_name (unfit.AtFault fault) = fault_name fault
unfit_name unfit.NotOfRun = codes "NotOfRun"
unfit_name (unfit.NoWorker workers) = codes "NoWorker"
unfit_name unfit.NoNumber = codes "NoNumber"
unfit_name (unfit.NoSession sessions) = codes "NoSession"
unfit_name unfit.NotOfPool = codes "NotOfPool"

-- one line of printable ASCII that begins with the name of the reason
abbrev pub NamesReason : Unfit → List ℕ → Type 0
NamesReason why text = (words : List ℕ) × IsPlain words × (text ≡ unfit_name why ++ (codes ": " ++ (words ++ 10 ∷ [])))

-- the message for a line that doesn't fit, or nothing where there was no memory for it
abbrev pub SaysReason : Unfit → List ℕ → Type 0
SaysReason why text = (text ≡ []) ⊎ NamesReason why text

-- why a line with this fault isn't taken
abbrev pub untaken_by : LineFault → Untaken
untaken_by fault.NoMemory = untaken.NoMemory
untaken_by fault = untaken.Unfit (unfit.AtFault fault)

-- of a line that isn't taken: its reason is one of these, unless memory lacks
abbrev pub IsFor : (Unfit → Type 0) → Untaken → Type 0
IsFor Is (untaken.Unfit why) = Is why
IsFor Is untaken.NoMemory = Unit {0}

-- the fault of an input with a line of this number that isn't taken
abbrev pub IsFaultAt : ℕ → Untaken → PlanFault → Type 0
IsFaultAt number (untaken.Unfit why) (plan.Line first) = (first.number ≡ number) × (first.why ≡ why) × SaysReason why (string_bytes first.explanation)
IsFaultAt number untaken.NoMemory plan.NoMemory = Unit {0}
IsFaultAt number other fault = ⊥
