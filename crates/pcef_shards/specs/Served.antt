-- What threads write for the lines of an input (own choice).
use Rattle.std.specs.Prelude.{ℕ, suc, List, [], ◌∷◌, Bool, Option, Result}
use Rattle.pcef_model.specs.Setting.{Setting}
use Rattle.pcef_script.specs.declared.fault.ScriptFault.{ScriptFault}
use Rattle.pcef_sessions.specs.Served.{Serves}
use Rattle.pcef_shards.specs.declared.shard.Ended.{Ended}

-- a thread that is led a part writes what one thread writes for that part, from `old` to `new`
abbrev pub ServesPart : Setting → Result Bool ScriptFault → Option (List ℕ) → Option (List ℕ) → Option (List ℕ) → Type 0
ServesPart p end part old new = (left : Option (List ℕ)) × Serves p end part left old new

-- so does each thread, from this number on, with its writer
abbrev pub EachServes : {W : Type 0} → Setting → (W → Option (List ℕ)) → (ℕ → Option (List ℕ)) → ℕ → List W → List (Ended W) → Type 0
EachServes p contents part t [] [] = Unit {0}
EachServes p contents part t (writer ∷ writers) (ended ∷ more) =
    ServesPart p ended.end (part t) (contents writer) (contents ended.writer) × EachServes p contents part (suc t) writers more
EachServes p contents part t [] (ended ∷ more) = ⊥
EachServes p contents part t (writer ∷ writers) [] = ⊥
