-- The answers to one frame more.
use Rattle.std.proofs.Common.{◌≡◌, ◌∙◌, ℕ, Bool, false, List, [], ◌∷◌, ◌++◌, length, Option, None, Ok, Err, refl, sym, ap, subst, arith, append-nil}
use Rattle.std.specs.Prelude.{◌||◌}
use Rattle.std.specs.Io.KnownBytes.{Appends}
use Rattle.std.proofs.KnownBytes.{Appends-kept, Appends-nil, Appends-trans}
use Rattle.std.specs.Io.KnownBytes.{Keeps}
use Rattle.std.proofs.lemmas.List.{length-map}
use Rattle.std.proofs.lemmas.List.Elements.{All-nil}
use Rattle.pcef_model.specs.Setting.{Setting}
use Rattle.pcef_base.specs.Writing.{AppendsFront}
use Rattle.pcef_base.proofs.Fronts.{front_after}
use Rattle.pcef_sessions.specs.declared.frame_fault.FrameFault.{FrameFault}
use Rattle.pcef_sessions.specs.declared.sessions.Sessions.{Sessions}
use Rattle.pcef_sessions.specs.Addressed.{addressed_name, lines_of}
use Rattle.pcef_sessions.specs.Frames.{Meaning}
use Rattle.pcef_sessions.specs.FrameSayings.{SaysToFrame, malformed}
use Rattle.pcef_sessions.specs.FramesServed.{WroteFrames, WroteFramesFront, lines_meant, woven}
use Rattle.pcef_sessions.specs.Sayings.{Said}
use Rattle.pcef_sessions.specs.Served.{AreSaid, Under, all_bytes, any_fault, said_bytes, said_under}
use Rattle.pcef_sessions.specs.Standing.{fixed, held}
use Rattle.pcef_sessions.specs.Under.{Session}
use Rattle.pcef_sessions.specs.private.Framing.{HasWoven}
use Rattle.pcef_sessions.proofs.Saids.{bytes_more, fault_more, one_said}

-- ---- lists
meant_more : (meant more : List Meaning) → lines_meant (meant ++ more) ≡ lines_meant meant ++ lines_meant more
meant_more [] more = refl
meant_more (Ok line ∷ meant) more = ap (λ t. line ∷ t) (meant_more meant more)
meant_more (Err why ∷ meant) more = meant_more meant more

woven_line : (meant : List Meaning) (line : List ℕ) (saids : List Said) (said : Said) → length saids ≡ length (lines_meant meant) → woven (meant ++ Ok line ∷ []) (saids ++ said ∷ []) ≡ woven meant saids ++ said ∷ []
woven_line [] line [] said same = refl
woven_line [] line (s ∷ saids) said same = absurd (omega (arith, same))
woven_line (Ok other ∷ meant) line [] said same = absurd (omega (arith, same))
woven_line (Ok other ∷ meant) line (s ∷ saids) said same = ap (λ t. s ∷ t) (woven_line meant line saids said (omega (arith, same)))
woven_line (Err why ∷ meant) line saids said same = ap (λ t. malformed why ∷ t) (woven_line meant line saids said same)

woven_fault : (meant : List Meaning) (why : FrameFault) (saids : List Said) → length saids ≡ length (lines_meant meant) → woven (meant ++ Err why ∷ []) saids ≡ woven meant saids ++ malformed why ∷ []
woven_fault [] why [] same = refl
woven_fault [] why (s ∷ saids) same = absurd (omega (arith, same))
woven_fault (Ok other ∷ meant) why [] same = absurd (omega (arith, same))
woven_fault (Ok other ∷ meant) why (s ∷ saids) same = ap (λ t. s ∷ t) (woven_fault meant why saids (omega (arith, same)))
woven_fault (Err other ∷ meant) why saids same = ap (λ t. malformed other ∷ t) (woven_fault meant why saids same)

-- ---- one frame more
-- there is an answer for each line
pub as_many : (p : Setting) (lines : List (List ℕ)) (saids : List Said) (after : List ℕ → Option Session) → AreSaid p lines saids after → length saids ≡ length lines
as_many p lines saids after h =
    sym (length-map saids (λ (s : Said). s.name)) ∙ ap (λ (t : List (Option (List ℕ))). length t) h.names ∙ length-map lines addressed_name

-- what it adds to the answers to lines
abbrev pub added : Meaning → Said → List Said
added (Ok line) said = said ∷ []
added (Err why) said = []

pub woven_more : (p : Setting) (old new : List ℕ → Option Session) (meant : List Meaning) (more : Meaning) (saids : List Said) (said : Said) → AreSaid p (lines_meant meant) saids old → SaysToFrame p old more said new
    → woven (meant ++ more ∷ []) (saids ++ added more said) ≡ woven meant saids ++ said ∷ []
woven_more p old new meant (Ok line) saids said h says = woven_line meant line saids said (as_many p (lines_meant meant) saids old h)
woven_more p old new meant (Err why) saids said h says =
    ap (woven (meant ++ Err why ∷ [])) (append-nil saids) ∙ woven_fault meant why saids (as_many p (lines_meant meant) saids old h) ∙ ap (λ s. woven meant saids ++ s ∷ []) (sym says.0)

said_same : (p : Setting) (old new : List ℕ → Option Session) (lines : List (List ℕ)) (saids : List Said) → AreSaid p lines saids old → ((any : List ℕ) → new any ≡ old any) → AreSaid p lines saids new
said_same p old new lines saids h same = record {
  names = h.names;
  nameless = h.nameless;
  each = λ name. subst (λ o. Under p None (lines_of name lines) (said_under name saids) o) (sym (same name)) (h.each name);
}

pub said_more : (p : Setting) (old new : List ℕ → Option Session) (meant : List Meaning) (more : Meaning) (saids : List Said) (said : Said) → AreSaid p (lines_meant meant) saids old → SaysToFrame p old more said new
    → AreSaid p (lines_meant (meant ++ more ∷ [])) (saids ++ added more said) new
said_more p old new meant (Ok line) saids said h says =
    subst (λ ls. AreSaid p ls (saids ++ said ∷ []) new) (sym (meant_more meant (Ok line ∷ []))) (one_said p old new (lines_meant meant) line saids said h says)
said_more p old new meant (Err why) saids said h says =
    subst (λ ls. AreSaid p ls (saids ++ []) new) (sym (meant_more meant (Err why ∷ []) ∙ append-nil (lines_meant meant)))
    (subst (λ ss. AreSaid p (lines_meant meant) ss new) (sym (append-nil saids)) (said_same p old new (lines_meant meant) saids h says.1))

-- ---- frames that are served
pub none_woven : (p : Setting) (start : Option (List ℕ)) (sessions : Sessions) (any : Bool) → any ≡ false → fixed sessions ≡ p → ((name : List ℕ) → held sessions name ≡ None) → HasWoven p [] start start sessions any
none_woven p start sessions any right setting none = record {
  setting = setting;
  saids = [];
  said = record { names = refl; nameless = All-nil _; each = λ name. (refl, none name) };
  any_is = right;
  written = Appends-nil start;
}

own : (p : Setting) (meant : List Meaning) (start a : Option (List ℕ)) (old : Sessions) (any : Bool) (new : List ℕ → Option Session) (more : Meaning) (said : Said) → HasWoven p meant start a old any
    → SaysToFrame (fixed old) (held old) more said new → SaysToFrame p (held old) more said new
own p meant start a old any new more said h says = subst (λ (q : Setting). SaysToFrame q (held old) more said new) h.setting says

pub one_woven : (p : Setting) (meant : List Meaning) (start a b : Option (List ℕ)) (old new : Sessions) (any now : Bool) (more : Meaning) (said : Said) → HasWoven p meant start a old any
    → SaysToFrame (fixed old) (held old) more said (held new) → fixed new ≡ fixed old → now ≡ (any || said.at_fault) → Appends a b (said_bytes said) → HasWoven p (meant ++ more ∷ []) start b new now
one_woven p meant start a b old new any now more said h says same is wrote =
    let told = own p meant start a old any (held new) more said h says in
    let all = woven_more p (held old) (held new) meant more h.saids said h.said told in
    record {
      setting = same ∙ h.setting;
      saids = h.saids ++ added more said;
      said = said_more p (held old) (held new) meant more h.saids said h.said told;
      any_is = is ∙ ap (λ x. x || said.at_fault) h.any_is ∙ sym (ap any_fault all ∙ fault_more (woven meant h.saids) said);
      written = subst (Appends start b) (sym (ap all_bytes all ∙ bytes_more (woven meant h.saids) said)) (Appends-trans start a b (all_bytes (woven meant h.saids)) (said_bytes said) h.written wrote);
    }

pub one_fails : (p : Setting) (meant : List Meaning) (start a b : Option (List ℕ)) (old new : Sessions) (any : Bool) (more : Meaning) (said : Said) → HasWoven p meant start a old any
    → SaysToFrame (fixed old) (held old) more said (held new) → AppendsFront a b (said_bytes said) → WroteFramesFront p (meant ++ more ∷ []) start b
one_fails p meant start a b old new any more said h says wrote =
    let told = own p meant start a old any (held new) more said h says in
    let all = woven_more p (held old) (held new) meant more h.saids said h.said told in (
      h.saids ++ added more said,
      held new,
      said_more p (held old) (held new) meant more h.saids said h.said told,
      subst (AppendsFront start b) (sym (ap all_bytes all ∙ bytes_more (woven meant h.saids) said)) (front_after start a b (all_bytes (woven meant h.saids)) (said_bytes said) h.written wrote),
    )

pub wrote_woven : (p : Setting) (meant : List Meaning) (start now : Option (List ℕ)) (sessions : Sessions) (any : Bool) → HasWoven p meant start now sessions any → WroteFrames p meant any start now
wrote_woven p meant start now sessions any h = (h.saids, held sessions, h.said, h.any_is, h.written)

-- all of it was written, and then the writer failed
pub wrote_front : (p : Setting) (meant : List Meaning) (start a b : Option (List ℕ)) (sessions : Sessions) (any : Bool) → HasWoven p meant start a sessions any → Keeps a b → WroteFramesFront p meant start b
wrote_front p meant start a b sessions any h keeps =
    let bytes = all_bytes (woven meant h.saids) in
    (h.saids, held sessions, h.said, (bytes, [], sym (append-nil bytes), Appends-kept start a b bytes h.written keeps))

pub flushed_woven : (p : Setting) (meant : List Meaning) (start a b : Option (List ℕ)) (sessions : Sessions) (any : Bool) → HasWoven p meant start a sessions any → Keeps a b → HasWoven p meant start b sessions any
flushed_woven p meant start a b sessions any h keeps = record {
  setting = h.setting;
  saids = h.saids;
  said = h.said;
  any_is = h.any_is;
  written = Appends-kept start a b (all_bytes (woven meant h.saids)) h.written keeps;
}
