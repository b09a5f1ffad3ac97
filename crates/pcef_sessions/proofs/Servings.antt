-- How lines that are served go on.
use Rattle.std.proofs.Common.{◌≡◌, ◌∙◌, ℕ, ◌+◌, Bool, true, false, List, [], ◌∷◌, ◌++◌, take, drop, Option, Some, None, refl, sym, ap, subst, get_or, append_assoc, append-nil, inl, inr}
use Rattle.std.specs.Prelude.{◌||◌, All, Result, Ok, Err, IfErr, IfOk, OnOk}
use Rattle.std.specs.Io.KnownBytes.{Appends, IsAtEnd, Keeps}
use Rattle.std.proofs.KnownBytes.{Appends-kept, Appends-nil, Appends-trans}
use Rattle.std.proofs.lemmas.Bool.{eqb-true}
use Rattle.std.proofs.lemmas.List.Elements.{All-nil}
use Rattle.pcef_model.specs.Setting.{Setting}
use Rattle.pcef_model.specs.Refusals.{first_of, open_faults}
use Rattle.pcef_script.specs.declared.fault.ScriptFault.{ScriptFault}
use Rattle.pcef_script.specs.declared.fault.ScriptFault.TheVariants as fault
use Rattle.pcef_script.specs.ScriptLines.{has_feed, is_blank_line}
use Rattle.pcef_script.specs.ScriptAnswers.{answered}
use Rattle.pcef_script.specs.Running.{OpenFails}
use Rattle.pcef_script.specs.Scripts.{Opened, all_lines, cut, ended_lines, last_line}
use Rattle.memchr.specs.Find.{IsFirstByte, is_byte}
use Rattle.pcef_script.proofs.Cuts.{cut_end, cut_run}
use Rattle.pcef_script.proofs.ScriptSteps.{around}
use Rattle.pcef_base.specs.Writing.{AppendsFront}
use Rattle.pcef_base.proofs.Fronts.{front_after}
use Rattle.pcef_sessions.specs.declared.sessions.Sessions.{Sessions}
use Rattle.pcef_sessions.specs.Addressed.{addressed}
use Rattle.pcef_sessions.specs.Sayings.{Said, SaysTo}
use Rattle.pcef_sessions.specs.Served.{AreSaid, Served, WroteNamed, WroteNamedFront, all_bytes, any_fault, said_bytes}
use Rattle.pcef_sessions.specs.Standing.{fixed, held}
use Rattle.pcef_sessions.specs.private.Running.{EndFails, HasSaid, IsAfter, KeepsMore, Stopped, StoppedIn, most_kept}
use Rattle.pcef_sessions.proofs.Kept.{answered_kept, answered_kept_blank}
use Rattle.pcef_sessions.proofs.Cutting.{says_same}
use Rattle.pcef_sessions.proofs.Saids.{bytes_more, fault_more, one_said}

abbrev Lines : Type 0
Lines = List (List ℕ) × List ℕ

-- ---- the start
pub at_first : (p : Setting) (start : Option (List ℕ)) (line : List ℕ) (sessions : Sessions) (any : Bool) → line ≡ [] → any ≡ false → fixed sessions ≡ p → ((name : List ℕ) → held sessions name ≡ None)
    → IsAfter p start start line sessions any []
unfolding cut
at_first p start line sessions any empty right setting none = record {
  kept = empty;
  has_said = record {
    setting = setting;
    saids = [];
    said = record { names = refl; nameless = All-nil _; each = λ name. (refl, none name) };
    any_is = right;
    written = Appends-nil start;
  };
}

-- ---- octets without a line feed
pub runs_on : (p : Setting) (start now : Option (List ℕ)) (old new : List ℕ) (sessions : Sessions) (any : Bool) (input run : List ℕ) → IsAfter p start now old sessions any input → has_feed run ≡ false
    → KeepsMore old run new → IsAfter p start now new sessions any (input ++ run)
runs_on p start now old new sessions any input run h none keeps =
    let lines : ended_lines (input ++ run) ≡ ended_lines input = ap (λ (c : Lines). c.0) (cut_run input run none) in
    let last : last_line (input ++ run) ≡ last_line input ++ run = ap (λ (c : Lines). c.1) (cut_run input run none) in
    record {
      kept = keeps (last_line input) h.kept ∙ ap (take most_kept) (sym last);
      has_said = subst (λ ls. HasSaid p (answered ls) start now sessions any) (sym lines) h.has_said;
    }

-- ---- a line feed
pub line_ends : (p : Setting) (start now : Option (List ℕ)) (line : List ℕ) (sessions : Sessions) (any : Bool) (input : List ℕ) → HasSaid p (answered (all_lines input)) start now sessions any
    → line ≡ [] → IsAfter p start now line sessions any (input ++ 10 ∷ [])
line_ends p start now line sessions any input h empty =
    let lines : ended_lines (input ++ 10 ∷ []) ≡ all_lines input = ap (λ (c : Lines). c.0) (cut_end input) in
    let last : last_line (input ++ 10 ∷ []) ≡ [] = ap (λ (c : Lines). c.1) (cut_end input) in
    record {
      kept = empty ∙ ap (take most_kept) (sym last);
      has_said = subst (λ ls. HasSaid p (answered ls) start now sessions any) (sym lines) h;
    }

-- ---- the end of a line
pub blank_ends : (p : Setting) (start now : Option (List ℕ)) (line : List ℕ) (sessions : Sessions) (any : Bool) (input : List ℕ) → IsAfter p start now line sessions any input → is_blank_line line ≡ true
    → HasSaid p (answered (all_lines input)) start now sessions any
blank_ends p start now line sessions any input h blank =
    subst (λ ls. HasSaid p ls start now sessions any) (sym (answered_kept_blank (ended_lines input) (last_line input) line h.kept blank)) h.has_said

-- the answers so far, and one more
said_on : (p : Setting) (start now : Option (List ℕ)) (line : List ℕ) (old new : Sessions) (any : Bool) (input : List ℕ) (h : IsAfter p start now line old any input) (said : Said)
    → is_blank_line line ≡ false → SaysTo (fixed old) (held old) (addressed line) said (held new) → AreSaid p (answered (all_lines input)) (h.has_said.saids ++ said ∷ []) (held new)
said_on p start now line old new any input h said filled says =
    let own : SaysTo p (held old) (addressed line) said (held new) = subst (λ (q : Setting). SaysTo q (held old) (addressed line) said (held new)) h.has_said.setting says in
    let whole = says_same p (held old) (held new) line (last_line input) said h.kept own in
    subst (λ ls. AreSaid p ls (h.has_said.saids ++ said ∷ []) (held new)) (sym (answered_kept (ended_lines input) (last_line input) line h.kept filled))
    (one_said p (held old) (held new) (answered (ended_lines input)) (last_line input) h.has_said.saids said h.has_said.said whole)

pub told_ends : (p : Setting) (start a b : Option (List ℕ)) (line : List ℕ) (old new : Sessions) (any more : Bool) (input : List ℕ) (said : Said) → IsAfter p start a line old any input → is_blank_line line ≡ false
    → SaysTo (fixed old) (held old) (addressed line) said (held new) → fixed new ≡ fixed old → more ≡ (any || said.at_fault) → Appends a b (said_bytes said)
    → HasSaid p (answered (all_lines input)) start b new more
told_ends p start a b line old new any more input said h filled says same is wrote =
    let all = bytes_more h.has_said.saids said in
    record {
      setting = same ∙ h.has_said.setting;
      saids = h.has_said.saids ++ said ∷ [];
      said = said_on p start a line old new any input h said filled says;
      any_is = is ∙ ap (λ x. x || said.at_fault) h.has_said.any_is ∙ sym (fault_more h.has_said.saids said);
      written = subst (Appends start b) (sym all) (Appends-trans start a b (all_bytes h.has_said.saids) (said_bytes said) h.has_said.written wrote);
    }

-- its answer wasn't written whole
pub told_fails : (p : Setting) (start a b : Option (List ℕ)) (line : List ℕ) (old new : Sessions) (any : Bool) (input : List ℕ) (said : Said) → IsAfter p start a line old any input → is_blank_line line ≡ false
    → SaysTo (fixed old) (held old) (addressed line) said (held new) → AppendsFront a b (said_bytes said) → WroteNamedFront p (answered (all_lines input)) start b
told_fails p start a b line old new any input said h filled says wrote = (
  h.has_said.saids ++ said ∷ [],
  held new,
  said_on p start a line old new any input h said filled says,
  subst (AppendsFront start b) (sym (bytes_more h.has_said.saids said)) (front_after start a b (all_bytes h.has_said.saids) (said_bytes said) h.has_said.written wrote),
)

-- what was written so far
pub wrote : (p : Setting) (lines : List (List ℕ)) (start now : Option (List ℕ)) (sessions : Sessions) (any : Bool) → HasSaid p lines start now sessions any → WroteNamed p lines any start now
wrote p lines start now sessions any h = (h.saids, held sessions, h.said, h.any_is, h.written)

-- ---- blocks
-- nothing of a block was taken
pub stopped_first : (p : Setting) (start now : Option (List ℕ)) (line : List ℕ) (sessions : Sessions) (any : Bool) (input block : List ℕ) → IsAfter p start now line sessions any input
    → StoppedIn p fault.NoMemory start now input block
stopped_first p start now line sessions any input block h =
    let same : input ++ [] ≡ input = append-nil input in
    ([], block, refl, (any, subst (λ t. WroteNamed p (answered (ended_lines t)) any start now) (sym same) (wrote p (answered (ended_lines input)) start now sessions any h.has_said)))

-- the line that ended wasn't answered
pub stopped_at : (p : Setting) (e : ScriptFault) (start now : Option (List ℕ)) (input run : List ℕ) → has_feed run ≡ false → EndFails p e start now (input ++ run) → StoppedIn p e start now input (run ++ 10 ∷ [])
stopped_at p fault.Write start now input run none h =
    let whole : input ++ (run ++ 10 ∷ []) ≡ (input ++ run) ++ 10 ∷ [] = sym (append_assoc input run (10 ∷ [])) in
    let lines : ended_lines (input ++ (run ++ 10 ∷ [])) ≡ all_lines (input ++ run) = ap ended_lines whole ∙ ap (λ (c : Lines). c.0) (cut_end (input ++ run)) in
    (run ++ 10 ∷ [], [], sym (append-nil (run ++ 10 ∷ [])), subst (λ ls. WroteNamedFront p (answered ls) start now) (sym lines) h)
stopped_at p fault.NoMemory start now input run none h = (run, 10 ∷ [], refl, h)
stopped_at p fault.Read start now input run none h = absurd h
stopped_at p fault.TooMuch start now input run none h = absurd h
stopped_at p (fault.Profile _) start now input run none h = absurd h

-- an octet after some octets of the block ended it
pub stopped_later : (p : Setting) (e : ScriptFault) (start now : Option (List ℕ)) (input front rest more block : List ℕ) → block ≡ front ++ (rest ++ more) → StoppedIn p e start now (input ++ front) rest → StoppedIn p e start now input block
stopped_later p e start now input front rest more block is h =
    let tail : rest ++ more ≡ h.0 ++ (h.1 ++ more) = ap (λ t. t ++ more) h.2 ∙ append_assoc h.0 h.1 more in
    (front ++ h.0, h.1 ++ more, is ∙ ap (λ t. front ++ t) tail ∙ sym (append_assoc front h.0 (h.1 ++ more)), subst (Stopped p e start now) (append_assoc input front h.0) h.3)

-- the answers are written, and can't be flushed
pub flush_fails : (p : Setting) (start a b : Option (List ℕ)) (line : List ℕ) (sessions : Sessions) (any : Bool) (input block : List ℕ) → IsAfter p start a line sessions any (input ++ block) → Keeps a b
    → StoppedIn p fault.Write start b input block
flush_fails p start a b line sessions any input block h keeps =
    let all = h.has_said in
    (block, [], sym (append-nil block), (all.saids, held sessions, all.said, (all_bytes all.saids, [], sym (append-nil (all_bytes all.saids)), Appends-kept start a b (all_bytes all.saids) all.written keeps)))

-- and are flushed
pub flushed : (p : Setting) (start a b : Option (List ℕ)) (line : List ℕ) (sessions : Sessions) (any : Bool) (input : List ℕ) → IsAfter p start a line sessions any input → Keeps a b
    → IsAfter p start b line sessions any input
flushed p start a b line sessions any input h keeps = record {
  kept = h.kept;
  has_said = record {
    setting = h.has_said.setting;
    saids = h.has_said.saids;
    said = h.has_said.said;
    any_is = h.has_said.any_is;
    written = Appends-kept start a b (all_bytes h.has_said.saids) h.has_said.written keeps;
  };
}

-- ---- the whole run
-- no session can be opened
pub open_fails : (p : Setting) (e : ScriptFault) (old left : Option (List ℕ)) → OpenFails e → Served p (Err e) old old left []
unfolding cut
open_fails p (fault.Profile f) old left fails = (refl, Appends-nil old)
open_fails p fault.NoMemory old left fails =
    ([], [], false, refl, ([], λ name. None, record { names = refl; nameless = All-nil _; each = λ name. (refl, refl) }, refl, Appends-nil old))
open_fails p fault.Read old left fails = absurd fails
open_fails p fault.Write old left fails = absurd fails
open_fails p fault.TooMuch old left fails = absurd fails

-- the session was opened before
pub opened_stopped : (p q : Setting) (e : ScriptFault) (start b : Option (List ℕ)) (input block : List ℕ) → StoppedIn p e start b input block → first_of (open_faults q) ≡ None → Opened {A = Bool} q (Err e)
opened_stopped p q fault.Write start b input block h is = is
opened_stopped p q fault.NoMemory start b input block h is = tt
opened_stopped p q fault.Read start b input block h is = absurd h.3
opened_stopped p q fault.TooMuch start b input block h is = absurd h.3
opened_stopped p q (fault.Profile _) start b input block h is = absurd h.3

pub opened_end : (p q : Setting) (e : ScriptFault) (start b : Option (List ℕ)) (input : List ℕ) → EndFails p e start b input → first_of (open_faults q) ≡ None → Opened {A = Bool} q (Err e)
opened_end p q fault.Write start b input h is = is
opened_end p q fault.NoMemory start b input h is = tt
opened_end p q fault.Read start b input h is = absurd h
opened_end p q fault.TooMuch start b input h is = absurd h
opened_end p q (fault.Profile _) start b input h is = absurd h

pub stopped_in : (p : Setting) (e : ScriptFault) (start b left : Option (List ℕ)) (input block : List ℕ) → StoppedIn p e start b input block → Served p (Err e) start b left (input ++ block)
stopped_in p fault.Write start b left input block h = inl (input ++ h.0, h.1, ap (λ t. input ++ t) h.2 ∙ sym (append_assoc input h.0 h.1), h.3)
stopped_in p fault.NoMemory start b left input block h =
    (input ++ h.0, h.1, h.3.0, ap (λ t. input ++ t) h.2 ∙ sym (append_assoc input h.0 h.1), h.3.1)
stopped_in p fault.Read start b left input block h = absurd h.3
stopped_in p fault.TooMuch start b left input block h = absurd h.3
stopped_in p (fault.Profile _) start b left input block h = absurd h.3

pub end_fails : (p : Setting) (e : ScriptFault) (start b left : Option (List ℕ)) (input : List ℕ) → IsAtEnd left → EndFails p e start b input → Served p (Err e) start b left input
end_fails p fault.Write start b left input end h = inr (end, h)
end_fails p fault.NoMemory start b left input end h = (input, [], h.0, sym (append-nil input), h.1)
end_fails p fault.Read start b left input end h = absurd h
end_fails p fault.TooMuch start b left input end h = absurd h
end_fails p (fault.Profile _) start b left input end h = absurd h

-- octets up to a line feed, the line feed, and the others
pub fed : (s : List ℕ) (n : ℕ) (front : List ℕ) → front ≡ take n s → IsFirstByte (is_byte 10) s (Some n) → s ≡ (front ++ 10 ∷ []) ++ drop (n + 1) s
fed s n front is found =
    let here : get_or s n 0 ≡ 10 = eqb-true (get_or s n 0) 10 found.1 in
    around s n found.0.high ∙ ap (λ b. take n s ++ b ∷ drop (n + 1) s) here ∙ ap (λ t. t ++ 10 ∷ drop (n + 1) s) (sym is) ∙ sym (append_assoc front (10 ∷ []) (drop (n + 1) s))
