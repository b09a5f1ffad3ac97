-- How a run over frames ends.
use Rattle.std.proofs.Common.{◌≡◌, ℕ, Bool, true, false, List, [], ◌∷◌, Option, None, Err, refl, inl, inr}
use Rattle.std.specs.Prelude.{◌⊎◌, MatchBool}
use Rattle.std.specs.Io.KnownBytes.{IsAtEnd}
use Rattle.std.proofs.KnownBytes.{Appends-nil}
use Rattle.std.proofs.lemmas.List.Elements.{All-nil}
use Rattle.pcef_model.specs.Setting.{Setting}
use Rattle.pcef_model.specs.Refusals.{first_of, open_faults}
use Rattle.pcef_script.specs.declared.fault.ScriptFault.{ScriptFault}
use Rattle.pcef_script.specs.declared.fault.ScriptFault.TheVariants as fault
use Rattle.pcef_script.specs.Running.{OpenFails}
use Rattle.pcef_script.specs.Scripts.{Opened}
use Rattle.pcef_sessions.specs.declared.frame_fault.FrameFault.TheVariants.{BadLength, CutFrame}
use Rattle.pcef_sessions.specs.Framed.{HasBadLength}
use Rattle.pcef_sessions.specs.Frames.{Meaning}
use Rattle.pcef_sessions.specs.FramesServed.{EndsWith, ServedFrames}
use Rattle.pcef_sessions.specs.private.Framing.{EndStopped, IsCut, Stopped}

-- ---- whether frames may follow
pub goes_on : (A B : Type 0) (test : Bool) → test ≡ true → MatchBool test A B → A
goes_on A B true is h = h
goes_on A B false is h = absurd (cc)

pub is_over : (A B : Type 0) (test : Bool) → test ≡ false → MatchBool test A B → B
is_over A B true is h = absurd (cc)
is_over A B false is h = h

-- ---- the end of the input
pub ends_with : (rest : List ℕ) (left : Option (List ℕ)) (last : List Meaning) → IsAtEnd left → IsCut rest last → EndsWith rest left last
ends_with rest left last end (inl (none, is)) = inl (none, end, is)
ends_with rest left last end (inr (part, is)) = inr (inl (part, end, is))

pub end_stops : (p : Setting) (e : ScriptFault) (start b left : Option (List ℕ)) (pending input : List ℕ) → IsAtEnd left → EndStopped p e start b pending input → ServedFrames p (Err e) start b left input
end_stops p fault.Write start b left pending input end h = (h.0, pending, Err CutFrame ∷ [], h.1, inr (inr (inl (h.2, end, refl))), h.3)
end_stops p fault.NoMemory start b left pending input end h = (h.0, pending, h.1, h.2, h.3)
end_stops p fault.Read start b left pending input end h = absurd h
end_stops p fault.TooMuch start b left pending input end h = absurd h
end_stops p (fault.Profile _) start b left pending input end h = absurd h

-- ---- a block
length_ends : (rest : List ℕ) (left : Option (List ℕ)) (last : List Meaning) → ((last ≡ []) ⊎ (HasBadLength rest × (last ≡ Err BadLength ∷ []))) → ((last ≡ []) ⊎ EndsWith rest left last)
length_ends rest left last (inl none) = inl none
length_ends rest left last (inr bad) = inr (inr (inr bad))

pub block_stops : (p : Setting) (e : ScriptFault) (start b left : Option (List ℕ)) (input : List ℕ) → Stopped p e [] start b input → ServedFrames p (Err e) start b left input
block_stops p fault.Write start b left input h = (h.0, h.1, h.2, h.3, length_ends h.1 left h.2 h.4, h.5)
block_stops p fault.NoMemory start b left input h = h
block_stops p fault.Read start b left input h = absurd h
block_stops p fault.TooMuch start b left input h = absurd h
block_stops p (fault.Profile _) start b left input h = absurd h

-- ---- whether a session was opened
pub opened_block : (p q : Setting) (e : ScriptFault) (start b : Option (List ℕ)) (input : List ℕ) → Stopped p e [] start b input → first_of (open_faults q) ≡ None → Opened {A = Bool} q (Err e)
opened_block p q fault.Write start b input h is = is
opened_block p q fault.NoMemory start b input h is = tt
opened_block p q fault.Read start b input h is = absurd h
opened_block p q fault.TooMuch start b input h is = absurd h
opened_block p q (fault.Profile _) start b input h is = absurd h

pub opened_end : (p q : Setting) (e : ScriptFault) (start b : Option (List ℕ)) (pending input : List ℕ) → EndStopped p e start b pending input → first_of (open_faults q) ≡ None → Opened {A = Bool} q (Err e)
opened_end p q fault.Write start b pending input h is = is
opened_end p q fault.NoMemory start b pending input h is = tt
opened_end p q fault.Read start b pending input h is = absurd h
opened_end p q fault.TooMuch start b pending input h is = absurd h
opened_end p q (fault.Profile _) start b pending input h is = absurd h

-- no session can be opened
pub frames_open_fails : (p : Setting) (e : ScriptFault) (old left : Option (List ℕ)) → OpenFails e → ServedFrames p (Err e) old old left []
frames_open_fails p (fault.Profile f) old left fails = (refl, Appends-nil old)
frames_open_fails p fault.NoMemory old left fails =
    ([], [], false, refl, ([], λ name. None, record { names = refl; nameless = All-nil _; each = λ name. (refl, refl) }, refl, Appends-nil old))
frames_open_fails p fault.Read old left fails = absurd fails
frames_open_fails p fault.Write old left fails = absurd fails
frames_open_fails p fault.TooMuch old left fails = absurd fails
