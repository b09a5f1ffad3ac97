-- How lines of many sessions stand while they are served.
use Rattle.std.specs.Prelude.{ℕ, ◌≡◌, Bool, List, ◌++◌, take, Option, Result, IfErr, OnOk}
use Rattle.std.specs.Io.KnownBytes.{Appends}
use Rattle.pcef_model.specs.Setting.{Setting}
use Rattle.pcef_script.specs.declared.fault.ScriptFault.{ScriptFault}
use Rattle.pcef_script.specs.declared.fault.ScriptFault.TheVariants as fault
use Rattle.pcef_script.specs.ScriptAnswers.{answered}
use Rattle.pcef_script.specs.Scripts.{all_lines, ended_lines, last_line}
use Rattle.pcef_sessions.specs.declared.running.Serving.{Serving}
use Rattle.pcef_sessions.specs.declared.sessions.Sessions.{Sessions}
use Rattle.pcef_sessions.specs.Sayings.{Said}
use Rattle.pcef_sessions.specs.Served.{AreSaid, WroteNamed, WroteNamedFront, all_bytes, any_fault}
use Rattle.pcef_sessions.specs.Standing.{fixed, held}

-- so much of a line is kept: a name of 64 octets, a space, and one octet more than a script's line may have
abbrev pub most_kept : ℕ
most_kept = 262210

-- what is kept of a line is kept of it and more
abbrev pub KeepsMore : List ℕ → List ℕ → List ℕ → Type 0
KeepsMore old bytes new = (whole : List ℕ) → old ≡ take most_kept whole → new ≡ take most_kept (whole ++ bytes)

-- these lines were answered, from `start` on
pub record HasSaid (p : Setting) (lines : List (List ℕ)) (start now : Option (List ℕ)) (sessions : Sessions) (any : Bool) : Type 0 where
  pub setting : fixed sessions ≡ p
  pub saids : List Said
  pub said : AreSaid p lines saids (held sessions)
  pub any_is : any ≡ any_fault saids
  pub written : Appends start now (all_bytes saids)

-- so it stands after some input: the lines that ended are answered, and the rest is kept
pub record IsAfter (p : Setting) (start now : Option (List ℕ)) (line : List ℕ) (sessions : Sessions) (any : Bool) (input : List ℕ) : Type 0 where
  pub kept : line ≡ take most_kept (last_line input)
  pub has_said : HasSaid p (answered (ended_lines input)) start now sessions any

abbrev pub StandsAfter : Setting → Option (List ℕ) → Option (List ℕ) → Serving → List ℕ → Type 0
StandsAfter p start now s input = IsAfter p start now s.line.items s.sessions s.any_fault input

-- so the last line is answered, too
abbrev pub StandsAtEnd : Setting → Option (List ℕ) → Option (List ℕ) → Serving → List ℕ → Type 0
StandsAtEnd p start now s input = HasSaid p (answered (all_lines input)) start now s.sessions s.any_fault

-- the answer to the last line wasn't written whole
abbrev pub EndFails : Setting → ScriptFault → Option (List ℕ) → Option (List ℕ) → List ℕ → Type 0
EndFails p fault.Write start now input = WroteNamedFront p (answered (all_lines input)) start now
EndFails p fault.NoMemory start now input = (any : Bool) × WroteNamed p (answered (ended_lines input)) any start now
EndFails p other start now input = ⊥

-- it ended after this input
abbrev pub Stopped : Setting → ScriptFault → Option (List ℕ) → Option (List ℕ) → List ℕ → Type 0
Stopped p fault.Write start now input = WroteNamedFront p (answered (ended_lines input)) start now
Stopped p fault.NoMemory start now input = (any : Bool) × WroteNamed p (answered (ended_lines input)) any start now
Stopped p other start now input = ⊥

abbrev pub StoppedIn : Setting → ScriptFault → Option (List ℕ) → Option (List ℕ) → List ℕ → List ℕ → Type 0
StoppedIn p e start now input block =
    (front rest : List ℕ) × (block ≡ front ++ rest) × Stopped p e start now (input ++ front)

-- ---- before and after, whatever was read before
abbrev pub EndsAll : {A : Type 0} → Result A ScriptFault → Option (List ℕ) → Serving → Option (List ℕ) → Serving → Type 0
EndsAll result old before new after =
    (p : Setting) (start : Option (List ℕ)) (input : List ℕ) → StandsAfter p start old before input →
    OnOk result (StandsAtEnd p start new after input)

abbrev pub FailsAtEnd : {A : Type 0} → Result A ScriptFault → Option (List ℕ) → Serving → Option (List ℕ) → Type 0
FailsAtEnd result old before new =
    (p : Setting) (start : Option (List ℕ)) (input : List ℕ) → StandsAfter p start old before input →
    IfErr result (λ e. EndFails p e start new input)

abbrev pub ReadsAll : {A : Type 0} → Result A ScriptFault → Option (List ℕ) → Serving → Option (List ℕ) → Serving → List ℕ → Type 0
ReadsAll result old before new after bytes =
    (p : Setting) (start : Option (List ℕ)) (input : List ℕ) → StandsAfter p start old before input →
    OnOk result (StandsAfter p start new after (input ++ bytes))

abbrev pub StopsIn : {A : Type 0} → Result A ScriptFault → Option (List ℕ) → Serving → Option (List ℕ) → List ℕ → Type 0
StopsIn result old before new bytes =
    (p : Setting) (start : Option (List ℕ)) (input : List ℕ) → StandsAfter p start old before input →
    IfErr result (λ e. StoppedIn p e start new input bytes)
