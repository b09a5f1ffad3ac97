-- Frames at the front of octets, and what was answered where a run of them ends.
use Rattle.std.proofs.Common.{◌≡◌, ◌∙◌, ℕ, ◌-◌, ◌==◌, ◌<◌, ◌≤◌, true, List, [], ◌∷◌, ◌++◌, length, drop, map, Option, Some, Err, refl, sym, ap, subst, inl, inr, arith, append_assoc, append-nil, length-append}
use Rattle.std.proofs.Math.Seq.{drop-append_seam}
use Rattle.std.proofs.lemmas.Bool.{eqb-true}
use Rattle.std.proofs.lemmas.List.{map-append}
use Rattle.pcef_model.specs.Setting.{Setting}
use Rattle.pcef_script.specs.declared.fault.ScriptFault.{ScriptFault}
use Rattle.pcef_script.specs.declared.fault.ScriptFault.TheVariants as fault
use Rattle.pcef_sessions.specs.declared.frame_fault.FrameFault.TheVariants.{BadLength, CutFrame}
use Rattle.pcef_sessions.specs.declared.framing.Framing.{Framing}
use Rattle.pcef_sessions.specs.Framed.{AreFrames, BeginsWith, HasBadLength, IsPart, IsUnfinished}
use Rattle.pcef_sessions.specs.Frames.{Meaning, meaning}
use Rattle.pcef_sessions.specs.FramesServed.{WroteFrames, WroteFramesFront}
use Rattle.pcef_sessions.specs.private.Framing.{EndStopped, MoreFails, StandsFramed, StandsWoven, Stopped, TakenTo}

abbrev Frames : Type 0
Frames = List (List ℕ)

-- ---- frames
pub frames_more : (octets rest frame others : List ℕ) (frames : Frames) → AreFrames octets frames rest → BeginsWith rest frame others → AreFrames octets (frames ++ frame ∷ []) others
frames_more octets rest frame others [] h begins = (others, subst (λ t. BeginsWith t frame others) (sym h) begins, refl)
frames_more octets rest frame others (f ∷ fs) h begins = (h.0, h.1, frames_more h.0 rest frame others fs h.2 begins)

pub frames_both : (a b c : List ℕ) (fs gs : Frames) → AreFrames a fs b → AreFrames b gs c → AreFrames a (fs ++ gs) c
frames_both a b c [] gs h g = subst (λ t. AreFrames t gs c) (sym h) g
frames_both a b c (f ∷ fs) gs h g = (h.0, h.1, frames_both h.0 b c fs gs h.2 g)

pub frames_on : (a b x : List ℕ) (fs : Frames) → AreFrames a fs b → AreFrames (a ++ x) fs (b ++ x)
frames_on a b x [] h = ap (λ t. t ++ x) h
frames_on a b x (f ∷ fs) h =
    let begins = h.1 in
    let whole : a ++ x ≡ begins.0 ++ (f ++ (h.0 ++ x)) =
    ap (λ t. t ++ x) begins.4 ∙ append_assoc begins.0 (f ++ h.0) x ∙ ap (λ t. begins.0 ++ t) (append_assoc f h.0 x) in
    (h.0 ++ x, (begins.0, begins.1, begins.2, begins.3, whole), frames_on h.0 b x fs h.2)

in_front : (octets rest : List ℕ) (frames : Frames) → AreFrames octets frames rest → (front : List ℕ) × (octets ≡ front ++ rest)
in_front octets rest [] h = ([], h)
in_front octets rest (f ∷ fs) h =
    let begins = h.1 in
    let more = in_front h.0 rest fs h.2 in (
      begins.0 ++ (f ++ more.0),
      begins.4 ∙ ap (λ t. begins.0 ++ (f ++ t)) more.1 ∙ ap (λ t. begins.0 ++ t) (sym (append_assoc f more.0 rest)) ∙ sym (append_assoc begins.0 (f ++ more.0) rest),
    )

pub no_longer : (octets rest : List ℕ) (frames : Frames) → AreFrames octets frames rest → length rest ≤ length octets
no_longer octets rest frames h =
    let p = in_front octets rest frames h in
    let len = ap length p.1 ∙ length-append p.0 rest in
    omega (arith, len)

pub what_is_left : (octets rest : List ℕ) (frames : Frames) → AreFrames octets frames rest → rest ≡ drop (length octets - length rest) octets
what_is_left octets rest frames h =
    let p = in_front octets rest frames h in
    let len = ap length p.1 ∙ length-append p.0 rest in
    let many : length octets - length rest ≡ length p.0 = omega (arith, len) in
    sym (drop-append_seam p.0 rest) ∙ ap (drop (length p.0)) (sym p.1) ∙ ap (λ n. drop n octets) (sym many)

pub shorter : (octets frame others : List ℕ) → BeginsWith octets frame others → length others < length octets
shorter octets frame others begins =
    let len = ap length begins.4 ∙ length-append begins.0 (frame ++ others) in
    let more = length-append frame others in
    omega (arith, len, more, begins.1)

-- ---- meanings
pub one_more : (meant : List Meaning) (frames : Frames) (frame : List ℕ) → (meant ++ map meaning frames) ++ meaning frame ∷ [] ≡ meant ++ map meaning (frames ++ frame ∷ [])
one_more meant frames frame = append_assoc meant (map meaning frames) (meaning frame ∷ []) ∙ ap (λ t. meant ++ t) (sym (map-append meaning frames (frame ∷ [])))

pub no_last : (meant : List Meaning) (frames : Frames) → meant ++ map meaning frames ≡ meant ++ (map meaning frames ++ [])
no_last meant frames = ap (λ t. meant ++ t) (sym (append-nil (map meaning frames)))

pub frames_then : (fs gs : Frames) (last : List Meaning) → map meaning fs ++ (map meaning gs ++ last) ≡ map meaning (fs ++ gs) ++ last
frames_then fs gs last = sym (append_assoc (map meaning fs) (map meaning gs) last) ∙ ap (λ t. t ++ last) (sym (map-append meaning fs gs))

-- ---- where it goes on
pub framed_on : (p : Setting) (start now : Option (List ℕ)) (f : Framing) (input octets rest : List ℕ) (many : ℕ) (last : List Meaning) (before fs : Frames) → AreFrames input before octets → AreFrames octets fs rest
    → TakenTo (Some many) octets rest last → StandsWoven p (map meaning before ++ (map meaning fs ++ last)) start now f → StandsFramed p start now f rest input
framed_on p start now f input octets rest many last before fs are more taken h = (
  before ++ fs,
  frames_both input octets rest before fs are more,
  taken.2,
  subst (λ ms. StandsWoven p ms start now f) (ap (λ l. map meaning before ++ (map meaning fs ++ l)) taken.3 ∙ frames_then before fs [] ∙ append-nil (map meaning (before ++ fs))) h,
)

-- ---- where it ends early
pub one_stops : (p : Setting) (e : ScriptFault) (meant : List Meaning) (start now : Option (List ℕ)) (octets rest frame others : List ℕ) (frames : Frames) → AreFrames octets frames rest → BeginsWith rest frame others
    → MoreFails p e (meant ++ map meaning frames) (meaning frame) start now → Stopped p e meant start now octets
one_stops p fault.Write meant start now octets rest frame others frames taken begins h = (
  frames ++ frame ∷ [],
  others,
  [],
  frames_more octets rest frame others frames taken begins,
  inl refl,
  subst (λ ms. WroteFramesFront p ms start now) (one_more meant frames frame ∙ no_last meant (frames ++ frame ∷ [])) h,
)
one_stops p fault.NoMemory meant start now octets rest frame others frames taken begins h = (frames, rest, h.0, taken, h.1)
one_stops p fault.Read meant start now octets rest frame others frames taken begins h = absurd h
one_stops p fault.TooMuch meant start now octets rest frame others frames taken begins h = absurd h
one_stops p (fault.Profile _) meant start now octets rest frame others frames taken begins h = absurd h

pub length_stops : (p : Setting) (e : ScriptFault) (meant : List Meaning) (start now : Option (List ℕ)) (octets rest : List ℕ) (frames : Frames) → AreFrames octets frames rest → HasBadLength rest
    → MoreFails p e (meant ++ map meaning frames) (Err BadLength) start now → Stopped p e meant start now octets
length_stops p fault.Write meant start now octets rest frames taken bad h =
    (frames, rest, Err BadLength ∷ [], taken, inr (bad, refl), subst (λ ms. WroteFramesFront p ms start now) (append_assoc meant (map meaning frames) (Err BadLength ∷ [])) h)
length_stops p fault.NoMemory meant start now octets rest frames taken bad h = (frames, rest, h.0, taken, h.1)
length_stops p fault.Read meant start now octets rest frames taken bad h = absurd h
length_stops p fault.TooMuch meant start now octets rest frames taken bad h = absurd h
length_stops p (fault.Profile _) meant start now octets rest frames taken bad h = absurd h

-- frames were answered before
pub stopped_after : (p : Setting) (e : ScriptFault) (start now : Option (List ℕ)) (input octets : List ℕ) (before : Frames) → AreFrames input before octets → Stopped p e (map meaning before) start now octets
    → Stopped p e [] start now input
stopped_after p fault.Write start now input octets before are h = (
  before ++ h.0,
  h.1,
  h.2,
  frames_both input octets h.1 before h.0 are h.3,
  h.4,
  subst (λ ms. WroteFramesFront p ms start now) (frames_then before h.0 h.2) h.5,
)
stopped_after p fault.NoMemory start now input octets before are h = (
  before ++ h.0,
  h.1,
  h.2,
  frames_both input octets h.1 before h.0 are h.3,
  subst (λ ms. WroteFrames p ms h.2 start now) (sym (map-append meaning before h.0)) h.4,
)
stopped_after p fault.Read start now input octets before are h = absurd h
stopped_after p fault.TooMuch start now input octets before are h = absurd h
stopped_after p (fault.Profile _) start now input octets before are h = absurd h

-- ---- the end of the input
pub cut_stops : (p : Setting) (e : ScriptFault) (start now : Option (List ℕ)) (pending input : List ℕ) (frames : Frames) → AreFrames input frames pending → IsPart pending
    → MoreFails p e (map meaning frames) (Err CutFrame) start now → EndStopped p e start now pending input
cut_stops p fault.Write start now pending input frames are part h = (frames, are, part, h)
cut_stops p fault.NoMemory start now pending input frames are part h = (frames, h.0, are, h.1)
cut_stops p fault.Read start now pending input frames are part h = absurd h
cut_stops p fault.TooMuch start now pending input frames are part h = absurd h
cut_stops p (fault.Profile _) start now pending input frames are part h = absurd h

pub is_part : (octets : List ℕ) → IsUnfinished octets → (octets ≡ [] → ⊥) → IsPart octets
is_part octets (inl none) some = absurd (some none)
is_part octets (inr part) some = part

pub is_nothing : (octets : List ℕ) → (length octets == 0) ≡ true → octets ≡ []
is_nothing [] none = refl
is_nothing (b ∷ octets) none = absurd (omega (arith, eqb-true (length (b ∷ octets)) 0 none))
