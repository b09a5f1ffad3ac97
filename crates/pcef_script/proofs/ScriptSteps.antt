-- How a script goes on.
use Rattle.std.proofs.Common.{◌≡◌, ◌≢◌, ℕ, suc, ◌+◌, ◌-◌, ◌<◌, ◌≤◌, ◌^◌, Bool, true, false, None, nat_lt, add-one, take-suc, List, [], ◌∷◌, ◌++◌, length, Option, refl, sym, ap, ◌∙◌, subst, append_assoc, append-nil, arith, length-append, take, drop, get_or, take-append-drop, inl, inr}
use Rattle.std.specs.Result.{is_ok}
use Rattle.std.specs.Prelude.{IfErr, IfOk, Result, Ok, Err}
use Rattle.std.specs.Io.KnownBytes.{Appends, IsAtEnd, Keeps}
use Rattle.std.proofs.KnownBytes.{Appends-kept, Appends-nil, Appends-trans}
use Rattle.std.proofs.lemmas.List.{at_drop_more, length-take, take_at}
use Rattle.std.proofs.lemmas.Bool.{false≢true}
use Rattle.std.proofs.lemmas.Bool.Decides.{nat_tests}
use Rattle.pcef_model.specs.Setting.{Setting}
use Rattle.pcef_model.specs.Refusals.{first_of, open_faults}
use Rattle.pcef_world.specs.Worlds.{World}
use Rattle.pcef_script.specs.declared.fault.ScriptFault.{ScriptFault}
use Rattle.pcef_script.specs.declared.fault.ScriptFault.TheVariants as fault
use Rattle.pcef_script.specs.ScriptAnswers.{Answers, answered}
use Rattle.pcef_world.specs.Steps.{Standing, at_start, standing_of}
use Rattle.pcef_script.specs.ScriptLines.{KeptLine, TakesByte, has_feed, kept_of, script_most}
use Rattle.pcef_script.specs.Running.{EndFails, EndsLine, IsAfter, OpenFails, Stopped, StoppedIn}
use Rattle.pcef_script.specs.Scripts.{Opened, Ran, Wrote, all_lines, cut, ended_lines, last_line}
use Rattle.pcef_base.proofs.Fronts.{front_after}
use Rattle.pcef_script.proofs.Answering.{answered_more, answers_more}
use Rattle.pcef_script.proofs.Cuts.{cut_end, cut_plain, cut_run}
use Rattle.pcef_script.proofs.Feeds.{last_feed}

one_longer : (input : List ℕ) (b : ℕ) → length (input ++ b ∷ []) ≡ length input + 1
one_longer input b = length-append input (b ∷ [])

-- the start
pub at_first : (p : Setting) (start : Option (List ℕ)) (line : KeptLine) (faults : ℕ) (w : World) → line ≡ kept_of [] 0 → faults ≡ 0 → w.session.setting ≡ p → w.session.journal ≡ [] → w.workers ≡ []
    → IsAfter p start start line faults w []
unfolding cut
at_first p start line faults w is none setting journal workers =
    let standing : standing_of w ≡ at_start = rw (journal, workers) refl in
    record {
      kept = is;
      most = omega arith;
      few = omega (arith, none);
      setting = setting;
      text = [];
      answers = (refl, none, standing);
      written = Appends-nil start;
    }

-- a byte that is no line feed
pub goes_on : (p : Setting) (start now : Option (List ℕ)) (old new : KeptLine) (faults : ℕ) (w : World) (input : List ℕ) (b : ℕ) → IsAfter p start now old faults w input → length input < script_most → b ≢ 10
    → new ≡ kept_of (last_line input ++ b ∷ []) (old.read + 1) → IsAfter p start now new faults w (input ++ b ∷ [])
goes_on p start now old new faults w input b h lt ne is =
    let len = one_longer input b in
    let lines : ended_lines (input ++ b ∷ []) ≡ ended_lines input = ap (λ (c : List (List ℕ) × List ℕ). c.0) (cut_plain input b ne) in
    let last : last_line (input ++ b ∷ []) ≡ last_line input ++ b ∷ [] = ap (λ (c : List (List ℕ) × List ℕ). c.1) (cut_plain input b ne) in
    let read : old.read + 1 ≡ length (input ++ b ∷ []) = ap (λ (k : KeptLine). k.read + 1) h.kept ∙ sym len in
    record {
      kept = is ∙ ap (λ l. kept_of l (old.read + 1)) (sym last) ∙ ap (kept_of (last_line (input ++ b ∷ []))) read;
      most = omega (arith, len, lt);
      few = omega (arith, len, h.few);
      setting = h.setting;
      text = h.text;
      answers = subst (λ ls. Answers p at_start (answered ls) h.text faults (standing_of w)) (sym lines) h.answers;
      written = h.written;
    }

-- bytes among which is no line feed
pub goes_on_run : (p : Setting) (start now : Option (List ℕ)) (old new : KeptLine) (faults : ℕ) (w : World) (input run : List ℕ) → IsAfter p start now old faults w input → length input + length run ≤ script_most → has_feed run ≡ false
    → new ≡ kept_of (last_line input ++ run) (old.read + length run) → IsAfter p start now new faults w (input ++ run)
goes_on_run p start now old new faults w input run h most none is =
    let len : length (input ++ run) ≡ length input + length run = length-append input run in
    let lines : ended_lines (input ++ run) ≡ ended_lines input = ap (λ (c : List (List ℕ) × List ℕ). c.0) (cut_run input run none) in
    let last : last_line (input ++ run) ≡ last_line input ++ run = ap (λ (c : List (List ℕ) × List ℕ). c.1) (cut_run input run none) in
    let read : old.read + length run ≡ length (input ++ run) = ap (λ (k : KeptLine). k.read + length run) h.kept ∙ sym len in
    record {
      kept = is ∙ ap (λ l. kept_of l (old.read + length run)) (sym last) ∙ ap (kept_of (last_line (input ++ run))) read;
      most = omega (arith, len, most);
      few = omega (arith, len, h.few);
      setting = h.setting;
      text = h.text;
      answers = subst (λ ls. Answers p at_start (answered ls) h.text faults (standing_of w)) (sym lines) h.answers;
      written = h.written;
    }

-- the answers so far, and the one to the last line
answers_on : (p : Setting) (lines : List (List ℕ)) (line x y : List ℕ) (n k : ℕ) (s t : Standing) → Answers p at_start (answered lines) x n s → Answers p s (answered (line ∷ [])) y k t
    → Answers p at_start (answered (lines ++ line ∷ [])) (x ++ y) (n + k) t
answers_on p lines line x y n k s t h g =
    subst (λ ls. Answers p at_start ls (x ++ y) (n + k) t) (sym (answered_more lines (line ∷ []))) (answers_more p at_start s t (answered lines) (answered (line ∷ [])) x y n k h g)

-- a line feed
pub line_ends : (p : Setting) (start a b : Option (List ℕ)) (old new : KeptLine) (faults n : ℕ) (v w : World) (input : List ℕ) → IsAfter p start a old faults v input → length input < script_most
    → new ≡ kept_of [] (old.read + 1) → w.session.setting ≡ p → EndsLine p v w (last_line input) faults n a b → IsAfter p start b new n w (input ++ 10 ∷ [])
line_ends p start a b old new faults n v w input h lt is setting e =
    let len = one_longer input 10 in
    let lines : ended_lines (input ++ 10 ∷ []) ≡ all_lines input = ap (λ (c : List (List ℕ) × List ℕ). c.0) (cut_end input) in
    let last : last_line (input ++ 10 ∷ []) ≡ [] = ap (λ (c : List (List ℕ) × List ℕ). c.1) (cut_end input) in
    let read : old.read + 1 ≡ length (input ++ 10 ∷ []) = ap (λ (k : KeptLine). k.read + 1) h.kept ∙ sym len in
    let joined = answers_on p (ended_lines input) (last_line input) h.text e.0 faults e.1 (standing_of v) (standing_of w) h.answers e.2 in
    record {
      kept = is ∙ ap (λ l. kept_of l (old.read + 1)) (sym last) ∙ ap (kept_of (last_line (input ++ 10 ∷ []))) read;
      most = omega (arith, len, lt);
      few = omega (arith, len, h.few, e.3, e.4);
      setting = setting;
      text = h.text ++ e.0;
      answers = subst (λ ls. Answers p at_start (answered ls) (h.text ++ e.0) n (standing_of w)) (sym lines)
          (subst (λ k. Answers p at_start (answered (all_lines input)) (h.text ++ e.0) k (standing_of w)) (sym e.4) joined);
      written = Appends-trans start a b h.text e.0 h.written e.5;
    }

pub wrote : (p : Setting) (start now : Option (List ℕ)) (line : KeptLine) (faults : ℕ) (w : World) (input : List ℕ) → IsAfter p start now line faults w input → Wrote p (ended_lines input) faults start now
wrote p start now line faults w input h = (h.text, standing_of w, h.answers, h.written)

-- a line's answer wasn't written whole
pub line_fails : (p : Setting) (start a b : Option (List ℕ)) (line : KeptLine) (faults : ℕ) (w : World) (input : List ℕ) (e : ScriptFault) → IsAfter p start a line faults w input → EndFails p w (last_line input) e a b
    → Stopped p e 10 start b input
line_fails p start a b line faults w input fault.Write h f =
    let joined = answers_on p (ended_lines input) (last_line input) h.text f.0 faults f.1 (standing_of w) f.2 h.answers f.3 in
    (refl, (h.text ++ f.0, faults + f.1, f.2, joined, front_after start a b h.text f.0 h.written f.4))
line_fails p start a b line faults w input fault.NoMemory h f =
    (faults, (h.text, standing_of w, h.answers, subst (Appends start b) (append-nil h.text) (Appends-trans start a b h.text [] h.written f)))
line_fails p start a b line faults w input fault.Read h f = absurd f
line_fails p start a b line faults w input fault.TooMuch h f = absurd f
line_fails p start a b line faults w input (fault.Profile _) h f = absurd f

-- a byte, between those before it and those after it
pub around : (s : List ℕ) (i : ℕ) → i < length s → s ≡ take i s ++ get_or s i 0 ∷ drop (i + 1) s
around s i lt = sym (take-append-drop i s) ∙ ap (λ t. take i s ++ t) (at_drop_more (λ t. t) s i 0 lt)

-- ---- a byte
pub kept_at : (line : KeptLine) (whole : List ℕ) (n : ℕ) → line ≡ kept_of whole n → line ≡ kept_of whole line.read
kept_at line whole n is = is ∙ ap (kept_of whole) (sym (ap (λ (k : KeptLine). k.read) is))

pub kept_now : (line : KeptLine) (input : List ℕ) → line ≡ kept_of (last_line input) (length input) → line ≡ kept_of (last_line input) line.read
kept_now line input is = kept_at line (last_line input) (length input) is

pub read_is : (line : KeptLine) (input : List ℕ) → line ≡ kept_of (last_line input) (length input) → line.read ≡ length input
read_is line input is = ap (λ (k : KeptLine). k.read) is

abbrev failed : ScriptFault → Result Bool ScriptFault
failed e = Err e

Ok_differs : (flag : Bool) → Ok flag ≡ failed fault.TooMuch → ⊥
Ok_differs flag same = false≢true (sym (ap is_ok same))

-- a byte that was taken was within the most of a script
pub was_within : (flag : Bool) (line : KeptLine) (input : List ℕ) → line ≡ kept_of (last_line input) (length input) → (script_most ≤ line.read → Ok flag ≡ failed fault.TooMuch) → length input < script_most
was_within flag line input is much = by_test (nat_lt (length input) script_most) refl
  where
    by_test : (test : Bool) → nat_lt (length input) script_most ≡ test → length input < script_most
    by_test true holds = grind (arith, nat_tests)
    by_test false fails =
        let enough : script_most ≤ length input = grind (arith, nat_tests) in
        absurd (Ok_differs flag (much (omega (arith, enough, read_is line input is))))

-- the byte is no line feed
pub took_plain : (flag : Bool) (b : ℕ) (line : List ℕ) (old new : KeptLine) → flag ≡ false → TakesByte b line old (Ok flag) new → (b ≢ 10) × (new ≡ kept_of (line ++ b ∷ []) (old.read + 1))
took_plain true b line old new is t = absurd (false≢true (sym is))
took_plain false b line old new is t = t

-- the byte is a line feed
pub took_end : (flag : Bool) (b : ℕ) (line : List ℕ) (old new : KeptLine) → flag ≡ true → TakesByte b line old (Ok flag) new → (b ≡ 10) × (new ≡ kept_of line (old.read + 1))
took_end false b line old new is t = absurd (false≢true is)
took_end true b line old new is t = t

-- the byte wasn't taken
pub take_fails : (p : Setting) (start now : Option (List ℕ)) (old new : KeptLine) (faults : ℕ) (w : World) (input : List ℕ) (b : ℕ) (e : ScriptFault) → IsAfter p start now old faults w input
    → TakesByte b (last_line input) old (Err e) new → (failed e ≡ failed fault.TooMuch → script_most ≤ old.read) → Stopped p e b start now input
take_fails p start now old new faults w input b fault.TooMuch h t much =
    let most : length input ≡ script_most = omega (arith, h.most, much refl, read_is old input h.kept) in
    (most, faults, wrote p start now old faults w input h)
take_fails p start now old new faults w input b fault.NoMemory h t much = (faults, wrote p start now old faults w input h)
take_fails p start now old new faults w input b fault.Read h t much = absurd t
take_fails p start now old new faults w input b fault.Write h t much = absurd t
take_fails p start now old new faults w input b (fault.Profile _) h t much = absurd t

pub few_faults : (p : Setting) (start now : Option (List ℕ)) (line : KeptLine) (faults : ℕ) (w : World) (input : List ℕ) → IsAfter p start now line faults w input → faults < 2 ^ 63
few_faults p start now line faults w input h = omega (arith, h.few, h.most)

-- ---- blocks
pub one_on : (input s : List ℕ) (i : ℕ) → i < length s → (input ++ take i s) ++ get_or s i 0 ∷ [] ≡ input ++ take (i + 1) s
one_on input s i lt =
    append_assoc input (take i s) (get_or s i 0 ∷ []) ∙ ap (λ t. input ++ t) (sym (take-suc s i 0 lt)) ∙ ap (λ n. input ++ take n s) (sym (add-one i))

-- the input is over
pub at_end : (r : Result ℕ ScriptFault) (p : Setting) (start a b left : Option (List ℕ)) (line : KeptLine) (faults : ℕ) (v w : World) (input : List ℕ) → IsAfter p start a line faults v input → IsAtEnd left
    → IfOk r (λ n. EndsLine p v w (last_line input) faults n a b) → IfErr r (λ e. EndFails p v (last_line input) e a b) → Ran p r start b left input
at_end (Ok n) p start a b left line faults v w input h end ok err =
    let joined = answers_on p (ended_lines input) (last_line input) h.text ok.0 faults ok.1 (standing_of v) (standing_of w) h.answers ok.2 in (
      end,
      (
        h.text ++ ok.0,
        standing_of w,
        subst (λ k. Answers p at_start (answered (all_lines input)) (h.text ++ ok.0) k (standing_of w)) (sym ok.4) joined,
        Appends-trans start a b h.text ok.0 h.written ok.5,
      ),
    )
at_end (Err fault.Write) p start a b left line faults v w input h end ok err =
    inr (end, (line_fails p start a b line faults v input fault.Write h err).1)
at_end (Err fault.NoMemory) p start a b left line faults v w input h end ok err =
    let f = line_fails p start a b line faults v input fault.NoMemory h err in
    (input, [], f.0, sym (append-nil input), f.1)
at_end (Err fault.TooMuch) p start a b left line faults v w input h end ok err = absurd err
at_end (Err fault.Read) p start a b left line faults v w input h end ok err = absurd err
at_end (Err (fault.Profile _)) p start a b left line faults v w input h end ok err = absurd err

regroup : (input front rest : List ℕ) (x : ℕ) → input ++ (front ++ x ∷ rest) ≡ (input ++ front) ++ x ∷ rest
regroup input front rest x = sym (append_assoc input front (x ∷ rest))

longer : (n m k : ℕ) → n ≡ m + suc k → m ≡ script_most → script_most < n
longer n m k e f = omega (arith, e, f)

-- a byte of the block ended it
pub stopped_in : (p : Setting) (e : ScriptFault) (start b left : Option (List ℕ)) (input block : List ℕ) → StoppedIn p e start b input block → Ran p (Err e) start b left (input ++ block)
stopped_in p fault.Write start b left input block h =
    inl (input ++ h.0, h.2, ap (λ t. input ++ t) h.3 ∙ regroup input h.0 h.2 h.1 ∙ ap (λ x. (input ++ h.0) ++ x ∷ h.2) h.4.0, h.4.1)
stopped_in p fault.NoMemory start b left input block h =
    (input ++ h.0, h.1 ∷ h.2, h.4.0, ap (λ t. input ++ t) h.3 ∙ regroup input h.0 h.2 h.1, h.4.1)
stopped_in p fault.TooMuch start b left input block h =
    let whole : input ++ block ≡ (input ++ h.0) ++ h.1 ∷ h.2 = ap (λ t. input ++ t) h.3 ∙ regroup input h.0 h.2 h.1 in
    let len : length (input ++ block) ≡ length (input ++ h.0) + length (h.1 ∷ h.2) = ap length whole ∙ length-append (input ++ h.0) (h.1 ∷ h.2) in
    let front : take script_most (input ++ block) ≡ input ++ h.0 = ap (take script_most) whole ∙ take_at (input ++ h.0) (h.1 ∷ h.2) script_most h.4.0 in
    (longer (length (input ++ block)) (length (input ++ h.0)) (length h.2) len h.4.0, h.4.1, subst (λ t. Wrote p (ended_lines t) h.4.1 start b) (sym front) h.4.2)
stopped_in p fault.Read start b left input block h = absurd h.4
stopped_in p (fault.Profile _) start b left input block h = absurd h.4

-- the line feeds that are read end the lines up to the last one
ended_by_last : (input front rest : List ℕ) → has_feed rest ≡ false → ended_lines (input ++ (front ++ 10 ∷ rest)) ≡ all_lines (input ++ front)
ended_by_last input front rest none =
    let whole : input ++ (front ++ 10 ∷ rest) ≡ ((input ++ front) ++ 10 ∷ []) ++ rest = regroup input front rest 10 ∙ sym (append_assoc (input ++ front) (10 ∷ []) rest) in
    ap ended_lines whole
    ∙ ap (λ (c : List (List ℕ) × List ℕ). c.0) (cut_run ((input ++ front) ++ 10 ∷ []) rest none)
    ∙ ap (λ (c : List (List ℕ) × List ℕ). c.0) (cut_end (input ++ front))

-- the answers are written, and can't be flushed
pub flush_fails : (p : Setting) (start now new : Option (List ℕ)) (line : KeptLine) (faults : ℕ) (w : World) (input block : List ℕ) → IsAfter p start now line faults w (input ++ block) → Keeps now new → has_feed block ≡ true
    → StoppedIn p fault.Write start new input block
flush_fails p start now new line faults w input block h kept some =
    let c = last_feed block some in
    let lines : ended_lines (input ++ block) ≡ all_lines (input ++ c.0) = ap (λ t. ended_lines (input ++ t)) c.2 ∙ ended_by_last input c.0 c.1 c.3 in
    let answers = subst (λ ls. Answers p at_start (answered ls) h.text faults (standing_of w)) lines h.answers in
    (c.0, 10, c.1, c.2, (refl, (h.text, faults, standing_of w, answers, (h.text, [], sym (append-nil h.text), Appends-kept start now new h.text h.written kept))))

-- ---- the session was opened before
pub opened_stopped : (p q : Setting) (e : ScriptFault) (start b : Option (List ℕ)) (input block : List ℕ) → StoppedIn p e start b input block → first_of (open_faults q) ≡ None → Opened {A = ℕ} q (Err e)
opened_stopped p q fault.Write start b input block h is = is
opened_stopped p q fault.NoMemory start b input block h is = tt
opened_stopped p q fault.TooMuch start b input block h is = is
opened_stopped p q fault.Read start b input block h is = is
opened_stopped p q (fault.Profile _) start b input block h is = absurd h.4

pub opened_end : (r : Result ℕ ScriptFault) (p q : Setting) (a b : Option (List ℕ)) (v : World) (line : List ℕ) → IfErr r (λ e. EndFails p v line e a b) → first_of (open_faults q) ≡ None → Opened q r
opened_end (Ok n) p q a b v line f is = is
opened_end (Err fault.Write) p q a b v line f is = is
opened_end (Err fault.NoMemory) p q a b v line f is = tt
opened_end (Err fault.TooMuch) p q a b v line f is = is
opened_end (Err fault.Read) p q a b v line f is = is
opened_end (Err (fault.Profile _)) p q a b v line f is = absurd f

-- ---- the measure of reading: what may still be read
pub nearer : (old new n : ℕ) (input block : List ℕ) → old ≡ length input → new ≡ length (input ++ block) → length block ≡ n → n ≢ 0 → length input ≤ script_most
    → script_most + 1 - new < script_most + 1 - old
nearer old new n input block was is len some most = omega (arith, was, is, len, some, most, length-append input block)

-- the session can't be opened
pub open_fails : (p : Setting) (e : ScriptFault) (old left : Option (List ℕ)) → OpenFails e → Ran p (Err e) old old left []
unfolding cut
open_fails p (fault.Profile f) old left fails = (refl, Appends-nil old)
open_fails p fault.NoMemory old left fails = ([], [], 0, refl, ([], at_start, (refl, refl, refl), Appends-nil old))
open_fails p fault.Read old left fails = absurd fails
open_fails p fault.Write old left fails = absurd fails
open_fails p fault.TooMuch old left fails = absurd fails

-- a byte after some bytes of the block ended it
pub stopped_later : (p : Setting) (e : ScriptFault) (start now : Option (List ℕ)) (input front rest block : List ℕ) → block ≡ front ++ rest → StoppedIn p e start now (input ++ front) rest → StoppedIn p e start now input block
stopped_later p e start now input front rest block is h =
    (front ++ h.0, h.1, h.2, is ∙ ap (λ t. front ++ t) h.3 ∙ sym (append_assoc front h.0 (h.1 ∷ h.2)), subst (Stopped p e h.1 start now) (append_assoc input front h.0) h.4)

-- `n` bytes of a block, among which is no line feed
pub ran_on : (p : Setting) (start now : Option (List ℕ)) (old new : KeptLine) (faults : ℕ) (w : World) (input block : List ℕ) (n : ℕ) → IsAfter p start now old faults w input → n ≤ length block → has_feed (take n block) ≡ false
    → (old.read ≤ script_most → old.read + n ≤ script_most) → new ≡ kept_of (last_line input ++ take n block) (old.read + n) → IsAfter p start now new faults w (input ++ take n block)
ran_on p start now old new faults w input block n h le none most is =
    let len : length (take n block) ≡ n = omega (arith, length-take n block, le) in
    let read : old.read ≡ length input = ap (λ (k : KeptLine). k.read) h.kept in
    let fits : length input + length (take n block) ≤ script_most = omega (arith, len, read, most (omega (arith, read, h.most))) in
    goes_on_run p start now old new faults w input (take n block) h fits none (is ∙ ap (λ k. kept_of (last_line input ++ take n block) (old.read + k)) (sym len))

-- a part of what is left goes to the front
pub front_more : (block front left back : List ℕ) (n : ℕ) → block ≡ front ++ left → back ≡ drop n left → block ≡ (front ++ take n left) ++ back
front_more block front left back n is rest =
    is ∙ ap (λ t. front ++ t) (sym (take-append-drop n left) ∙ ap (λ t. take n left ++ t) (sym rest)) ∙ sym (append_assoc front (take n left) back)
