-- How a script stands while it runs: for private clauses.
use Rattle.std.specs.Prelude.{◌≡◌, ◌≤◌, ◌<◌, ◌+◌, ◌^◌, ℕ, List, [], ◌∷◌, ◌++◌, length, take, Option, Result, IfErr, IfOk, OnOk}
use Rattle.std.specs.Io.KnownBytes.{Appends}
use Rattle.pcef_catalog.specs.declared.listing.Offer.{Offer}
use Rattle.pcef_model.specs.Setting.{Setting}
use Rattle.pcef_world.specs.Worlds.{World}
use Rattle.pcef_script.specs.declared.fault.ScriptFault.{ScriptFault}
use Rattle.pcef_script.specs.declared.fault.ScriptFault.TheVariants as fault
use Rattle.pcef_script.specs.declared.running.Running.{Running}
use Rattle.pcef_script.specs.ScriptAnswers.{Answers, answered}
use Rattle.pcef_world.specs.Steps.{Standing, at_start, standing_of}
use Rattle.pcef_script.specs.ScriptLines.{ForLine, KeptLine, kept_of, script_most}
use Rattle.pcef_base.specs.Writing.{AppendsFront}
use Rattle.pcef_script.specs.Scripts.{Wrote, WroteFront, all_lines, ended_lines, last_line}

-- a session that can't be opened
abbrev pub OpenFails : ScriptFault → Type 0
OpenFails (fault.Profile f) = Unit {0}
OpenFails fault.NoMemory = Unit {0}
OpenFails other = ⊥

-- a line that ended was answered, or is blank
abbrev pub EndsLine : Setting → World → World → List ℕ → ℕ → ℕ → Option (List ℕ) → Option (List ℕ) → Type 0
EndsLine p before after line faults result old new =
    (text : List ℕ) × (more : ℕ) × Answers p (standing_of before) (answered (line ∷ [])) text more (standing_of after)
    × (more ≤ 1) × (result ≡ faults + more) × Appends old new text

-- its answer wasn't written whole
abbrev pub EndFails : Setting → World → List ℕ → ScriptFault → Option (List ℕ) → Option (List ℕ) → Type 0
EndFails p before line fault.Write old new =
    (text : List ℕ) × (more : ℕ) × (after : Standing) × Answers p (standing_of before) (answered (line ∷ [])) text more after × AppendsFront old new text
EndFails p before line fault.NoMemory old new = Appends old new []
EndFails p before line other old new = ⊥

-- so much was read, and the lines that ended are answered
pub record IsAfter (p : Setting) (start now : Option (List ℕ)) (line : KeptLine) (faults : ℕ) (world : World) (input : List ℕ) : Type 0 where
  pub kept : line ≡ kept_of (last_line input) (length input)
  pub most : length input ≤ script_most
  pub few : faults ≤ length input
  pub setting : world.session.setting ≡ p
  pub text : List ℕ
  pub answers : Answers p at_start (answered (ended_lines input)) text faults (standing_of world)
  pub written : Appends start now text

-- the next byte ended it
abbrev pub Stopped : Setting → ScriptFault → ℕ → Option (List ℕ) → Option (List ℕ) → List ℕ → Type 0
Stopped p fault.Write b start now input = (b ≡ 10) × WroteFront p (all_lines input) start now
Stopped p fault.TooMuch b start now input = (length input ≡ script_most) × (faults : ℕ) × Wrote p (ended_lines input) faults start now
Stopped p fault.NoMemory b start now input = (faults : ℕ) × Wrote p (ended_lines input) faults start now
Stopped p other b start now input = ⊥

-- one of the bytes ended it
abbrev pub StoppedIn : Setting → ScriptFault → Option (List ℕ) → Option (List ℕ) → List ℕ → List ℕ → Type 0
StoppedIn p e start now input block =
    (front : List ℕ) × (b : ℕ) × (rest : List ℕ) × (block ≡ front ++ b ∷ rest) × Stopped p e b start now (input ++ front)

-- ---- a script that runs, before and after
-- the rules that its session is offered
abbrev pub script_offers : Running → List Offer
script_offers script = script.world.session.setting.catalog

-- so it stands after some input, whose answers were written from `start` on
abbrev pub StandsAfter : Setting → Option (List ℕ) → Option (List ℕ) → Running → List ℕ → Type 0
StandsAfter p start now script input = IsAfter p start now script.line script.faults script.world input

-- whatever it had read, it has read these bytes too
abbrev pub ReadsAll : {A E : Type 0} → Result A E → Option (List ℕ) → Running → Option (List ℕ) → Running → List ℕ → Type 0
ReadsAll result old before new after bytes =
    (p : Setting) (start : Option (List ℕ)) (input : List ℕ) → StandsAfter p start old before input →
    OnOk result (StandsAfter p start new after (input ++ bytes))

-- whatever it had read, it has read the first of these bytes too, as many as the result says
abbrev pub ReadsSome : {E : Type 0} → Result ℕ E → Option (List ℕ) → Running → Option (List ℕ) → Running → List ℕ → Type 0
ReadsSome result old before new after bytes =
    (p : Setting) (start : Option (List ℕ)) (input : List ℕ) → StandsAfter p start old before input →
    IfOk result (λ n. StandsAfter p start new after (input ++ take n bytes))

-- whatever it had read, this byte ended it
abbrev pub StopsAt : {A : Type 0} → Result A ScriptFault → Option (List ℕ) → Running → Option (List ℕ) → ℕ → Type 0
StopsAt result old before new byte =
    (p : Setting) (start : Option (List ℕ)) (input : List ℕ) → StandsAfter p start old before input →
    IfErr result (λ e. Stopped p e byte start new input)

-- whatever it had read, one of these bytes ended it
abbrev pub StopsIn : {A : Type 0} → Result A ScriptFault → Option (List ℕ) → Running → Option (List ℕ) → List ℕ → Type 0
StopsIn result old before new bytes =
    (p : Setting) (start : Option (List ℕ)) (input : List ℕ) → StandsAfter p start old before input →
    IfErr result (λ e. StoppedIn p e start new input bytes)

-- ---- the end of a line
-- the line that this is kept of was answered, or is blank
abbrev pub EndsKept : KeptLine → ℕ → World → Result ℕ ScriptFault → World → Option (List ℕ) → Option (List ℕ) → Type 0
EndsKept kept faults before result after old new =
    ForLine kept (λ line. faults < 2 ^ 63 →
    IfOk result (λ n. EndsLine before.session.setting before after line faults n old new))

-- its answer wasn't written whole
abbrev pub FailsKept : KeptLine → World → Result ℕ ScriptFault → Option (List ℕ) → Option (List ℕ) → Type 0
FailsKept kept before result old new =
    ForLine kept (λ line. IfErr result (λ e. EndFails before.session.setting before line e old new))
