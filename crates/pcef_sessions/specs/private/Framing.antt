-- How frames of many sessions stand while they are served.
use Rattle.std.specs.Prelude.{ℕ, ◌≡◌, ◌⊎◌, ◌≤◌, Bool, List, [], ◌∷◌, ◌++◌, drop, length, map, Option, Some, None, Result, Err, IfErr, IfOk, MatchBool, OnOk}
use Rattle.std.specs.Io.KnownBytes.{Appends}
use Rattle.pcef_model.specs.Setting.{Setting}
use Rattle.pcef_script.specs.declared.fault.ScriptFault.{ScriptFault}
use Rattle.pcef_script.specs.declared.fault.ScriptFault.TheVariants as fault
use Rattle.pcef_sessions.specs.declared.frame_fault.FrameFault.TheVariants.{BadLength, CutFrame}
use Rattle.pcef_sessions.specs.declared.framing.Framing.{Framing}
use Rattle.pcef_sessions.specs.declared.sessions.Sessions.{Sessions}
use Rattle.pcef_sessions.specs.Framed.{AreFrames, HasBadLength, IsPart, IsUnfinished}
use Rattle.pcef_sessions.specs.Frames.{Meaning, meaning}
use Rattle.pcef_sessions.specs.FramesServed.{WroteFrames, WroteFramesFront, lines_meant, woven}
use Rattle.pcef_sessions.specs.Sayings.{Said}
use Rattle.pcef_sessions.specs.Served.{AreSaid, all_bytes, any_fault}
use Rattle.pcef_sessions.specs.Standing.{fixed, held}

-- frames of these meanings were answered, from `start` on
pub record HasWoven (p : Setting) (meant : List Meaning) (start now : Option (List ℕ)) (sessions : Sessions) (any : Bool) : Type 0 where
  pub setting : fixed sessions ≡ p
  pub saids : List Said
  pub said : AreSaid p (lines_meant meant) saids (held sessions)
  pub any_is : any ≡ any_fault (woven meant saids)
  pub written : Appends start now (all_bytes (woven meant saids))

abbrev pub StandsWoven : Setting → List Meaning → Option (List ℕ) → Option (List ℕ) → Framing → Type 0
StandsWoven p meant start now f = HasWoven p meant start now f.sessions f.any_fault

-- the answer to one frame more wasn't written whole
abbrev pub MoreFails : Setting → ScriptFault → List Meaning → Meaning → Option (List ℕ) → Option (List ℕ) → Type 0
MoreFails p fault.Write meant more start now = WroteFramesFront p (meant ++ more ∷ []) start now
MoreFails p fault.NoMemory meant more start now = (any : Bool) × WroteFrames p meant any start now
MoreFails p other meant more start now = ⊥

-- ---- before and after, whatever was answered before
abbrev pub SaysMore : {A : Type 0} → Result A ScriptFault → Option (List ℕ) → Framing → Option (List ℕ) → Framing → Meaning → Type 0
SaysMore result old before new after more =
    (p : Setting) (meant : List Meaning) (start : Option (List ℕ)) → StandsWoven p meant start old before →
    OnOk result (StandsWoven p (meant ++ more ∷ []) start new after)

abbrev pub FailsMore : {A : Type 0} → Result A ScriptFault → Option (List ℕ) → Framing → Option (List ℕ) → Meaning → Type 0
FailsMore result old before new more =
    (p : Setting) (meant : List Meaning) (start : Option (List ℕ)) → StandsWoven p meant start old before →
    IfErr result (λ e. MoreFails p e meant more start new)

-- the frames at the front of some octets were answered; of so many octets, or up to a length that no frame has
abbrev pub TakenTo : Option ℕ → List ℕ → List ℕ → List Meaning → Type 0
TakenTo (Some many) octets rest last = (many ≤ length octets) × (rest ≡ drop many octets) × IsUnfinished rest × (last ≡ [])
TakenTo None octets rest last = HasBadLength rest × (last ≡ Err BadLength ∷ [])

abbrev pub TakesFrames : Result (Option ℕ) ScriptFault → Option (List ℕ) → Framing → Option (List ℕ) → Framing → List ℕ → Type 0
TakesFrames result old before new after octets =
    (p : Setting) (meant : List Meaning) (start : Option (List ℕ)) → StandsWoven p meant start old before →
    IfOk result (λ taken.
    (frames : List (List ℕ)) × (rest : List ℕ) × (last : List Meaning) × AreFrames octets frames rest × TakenTo taken octets rest last
    × StandsWoven p (meant ++ (map meaning frames ++ last)) start new after)

-- it ended among these octets
abbrev pub Stopped : Setting → ScriptFault → List Meaning → Option (List ℕ) → Option (List ℕ) → List ℕ → Type 0
Stopped p fault.Write meant start now octets =
    (frames : List (List ℕ)) × (rest : List ℕ) × (last : List Meaning) × AreFrames octets frames rest
    × ((last ≡ []) ⊎ (HasBadLength rest × (last ≡ Err BadLength ∷ []))) × WroteFramesFront p (meant ++ (map meaning frames ++ last)) start now
Stopped p fault.NoMemory meant start now octets =
    (frames : List (List ℕ)) × (rest : List ℕ) × (any : Bool) × AreFrames octets frames rest × WroteFrames p (meant ++ map meaning frames) any start now
Stopped p other meant start now octets = ⊥

abbrev pub StopsFrames : {A : Type 0} → Result A ScriptFault → Option (List ℕ) → Framing → Option (List ℕ) → List ℕ → Type 0
StopsFrames result old before new octets =
    (p : Setting) (meant : List Meaning) (start : Option (List ℕ)) → StandsWoven p meant start old before →
    IfErr result (λ e. Stopped p e meant start new octets)

-- ---- the input that was read, and what is left of it
abbrev pub StandsFramed : Setting → Option (List ℕ) → Option (List ℕ) → Framing → List ℕ → List ℕ → Type 0
StandsFramed p start now f pending input =
    (frames : List (List ℕ)) × AreFrames input frames pending × IsUnfinished pending × StandsWoven p (map meaning frames) start now f

-- so it stands where a length came that no frame has
abbrev pub StandsLost : Setting → Option (List ℕ) → Option (List ℕ) → Framing → List ℕ → Type 0
StandsLost p start now f input =
    (frames : List (List ℕ)) × (rest : List ℕ) × AreFrames input frames rest × HasBadLength rest
    × StandsWoven p (map meaning frames ++ Err BadLength ∷ []) start now f

abbrev pub ReadsFrames : Result Bool ScriptFault → Option (List ℕ) → Framing → List ℕ → Option (List ℕ) → Framing → List ℕ → List ℕ → Type 0
ReadsFrames result old before pending new after left block =
    (p : Setting) (start : Option (List ℕ)) (input : List ℕ) → StandsFramed p start old before pending input →
    IfOk result (λ goes_on. MatchBool goes_on (StandsFramed p start new after left (input ++ block)) (StandsLost p start new after (input ++ block)))

abbrev pub StopsReading : {A : Type 0} → Result A ScriptFault → Option (List ℕ) → Framing → List ℕ → Option (List ℕ) → List ℕ → Type 0
StopsReading result old before pending new block =
    (p : Setting) (start : Option (List ℕ)) (input : List ℕ) → StandsFramed p start old before pending input →
    IfErr result (λ e. Stopped p e [] start new (input ++ block))

-- ---- the end of the input
abbrev pub IsCut : List ℕ → List Meaning → Type 0
IsCut rest last = ((rest ≡ []) × (last ≡ [])) ⊎ (IsPart rest × (last ≡ Err CutFrame ∷ []))

abbrev pub EndsFrames : {A : Type 0} → Result A ScriptFault → Option (List ℕ) → Framing → List ℕ → Option (List ℕ) → Framing → Type 0
EndsFrames result old before pending new after =
    (p : Setting) (start : Option (List ℕ)) (input : List ℕ) → StandsFramed p start old before pending input →
    OnOk result
    ((frames : List (List ℕ)) × (last : List Meaning) × AreFrames input frames pending × IsCut pending last × StandsWoven p (map meaning frames ++ last) start new after)

abbrev pub EndStopped : Setting → ScriptFault → Option (List ℕ) → Option (List ℕ) → List ℕ → List ℕ → Type 0
EndStopped p fault.Write start now pending input =
    (frames : List (List ℕ)) × AreFrames input frames pending × IsPart pending × WroteFramesFront p (map meaning frames ++ Err CutFrame ∷ []) start now
EndStopped p fault.NoMemory start now pending input =
    (frames : List (List ℕ)) × (any : Bool) × AreFrames input frames pending × WroteFrames p (map meaning frames) any start now
EndStopped p other start now pending input = ⊥

abbrev pub EndStops : {A : Type 0} → Result A ScriptFault → Option (List ℕ) → Framing → List ℕ → Option (List ℕ) → Type 0
EndStops result old before pending new =
    (p : Setting) (start : Option (List ℕ)) (input : List ℕ) → StandsFramed p start old before pending input →
    IfErr result (λ e. EndStopped p e start new pending input)
