-- How sorting goes on.
use Rattle.std.proofs.Common.{◌≡◌, ◌∙◌, ◌==◌, ℕ, ◌<◌, Bool, true, false, List, [], ◌∷◌, ◌++◌, length, Some, None, refl, sym, ap, append_assoc, append-nil, arith}
use Rattle.std.specs.Prelude.{if◌then◌else◌, slice_index_or}
use Rattle.std.proofs.lemmas.Bool.{false≢true}
use Rattle.std.specs.declared.hash.RandomState.{RandomState}
use Rattle.pcef_script.specs.ScriptLines.{has_feed}
use Rattle.pcef_script.specs.Scripts.{cut, ended_lines, last_line}
use Rattle.pcef_script.proofs.Cuts.{cut_end, cut_run}
use Rattle.pcef_shards.specs.declared.sorting.Sorting.{Sorting}
use Rattle.pcef_shards.specs.Parts.{last_part, lines_part, part_of, part_so_far, settled_part}
use Rattle.pcef_shards.specs.Picks.{is_settled, thread_of}
use Rattle.pcef_shards.specs.Sorted.{IsSorted, IsSortedWhole, waits}
use Rattle.pcef_shards.specs.private.Moves.{Leads, Settles}
use Rattle.pcef_shards.proofs.Fronts.{same_thread, still_settled}

abbrev Lines : Type 0
Lines = List (List ℕ) × List ℕ

abbrev Pick : Type 0
Pick = List ℕ → ℕ

-- ---- the parts of an input that goes on
pub ended_run : (input run : List ℕ) → has_feed run ≡ false → ended_lines (input ++ run) ≡ ended_lines input
ended_run input run none = ap (λ (c : Lines). c.0) (cut_run input run none)

pub last_run : (input run : List ℕ) → has_feed run ≡ false → last_line (input ++ run) ≡ last_line input ++ run
last_run input run none = ap (λ (c : Lines). c.1) (cut_run input run none)

pub ended_feed : (input : List ℕ) → ended_lines (input ++ 10 ∷ []) ≡ ended_lines input ++ last_line input ∷ []
ended_feed input = ap (λ (c : Lines). c.0) (cut_end input)

pub last_feed : (input : List ℕ) → last_line (input ++ 10 ∷ []) ≡ []
last_feed input = ap (λ (c : Lines). c.1) (cut_end input)

if_more : (test : Bool) (line more : List ℕ) → (if test then line ++ more else []) ≡ (if test then line else []) ++ (if test then more else [])
if_more true line more = refl
if_more false line more = refl

lines_more : (pick : Pick) (t : ℕ) (lines : List (List ℕ)) (line : List ℕ) → lines_part pick t (lines ++ line ∷ []) ≡ lines_part pick t lines ++ (if pick line == t then line ++ 10 ∷ [] else [])
lines_more pick t [] line = append-nil (if pick line == t then line ++ 10 ∷ [] else [])
lines_more pick t (first ∷ lines) line =
    ap (λ rest. (if pick first == t then first ++ 10 ∷ [] else []) ++ rest) (lines_more pick t lines line)
    ∙ sym (append_assoc (if pick first == t then first ++ 10 ∷ [] else []) (lines_part pick t lines) (if pick line == t then line ++ 10 ∷ [] else []))

-- octets of a line whose thread is settled
pub settled_more : (pick : Pick) (t : ℕ) (input run : List ℕ) → has_feed run ≡ false → is_settled (last_line input) ≡ true → is_settled (last_line input ++ run) ≡ true
    → pick (last_line input ++ run) ≡ pick (last_line input)
    → part_so_far pick t (input ++ run) ≡ part_so_far pick t input ++ (if pick (last_line input) == t then run else [])
settled_more pick t input run none was is same =
    let line = last_line input in
    let ended = lines_part pick t (ended_lines input) in
    let now : settled_part pick t (line ++ run) ≡ (if pick line == t then line ++ run else []) =
    ap (λ test. if test then last_part pick t (line ++ run) else []) is ∙ ap (λ n. if n == t then line ++ run else []) same in
    let before : (if pick line == t then line else []) ≡ settled_part pick t line = ap (λ test. if test then last_part pick t line else []) (sym was) in
    ap (λ lines. lines_part pick t lines ++ settled_part pick t (last_line (input ++ run))) (ended_run input run none)
    ∙ ap (λ l. ended ++ settled_part pick t l) (last_run input run none)
    ∙ ap (λ p. ended ++ p) (now ∙ if_more (pick line == t) line run ∙ ap (λ p. p ++ (if pick line == t then run else [])) before)
    ∙ sym (append_assoc ended (settled_part pick t line) (if pick line == t then run else []))

-- octets of a line whose thread isn't settled yet
pub unsettled_more : (pick : Pick) (t : ℕ) (input run : List ℕ) → has_feed run ≡ false → is_settled (last_line input) ≡ false
    → part_so_far pick t (input ++ run) ≡ part_so_far pick t input ++ settled_part pick t (last_line input ++ run)
unsettled_more pick t input run none wasnt =
    let line = last_line input in
    let ended = lines_part pick t (ended_lines input) in
    let before : part_so_far pick t input ≡ ended = ap (λ test. ended ++ (if test then last_part pick t line else [])) wasnt ∙ append-nil ended in
    ap (λ lines. lines_part pick t lines ++ settled_part pick t (last_line (input ++ run))) (ended_run input run none)
    ∙ ap (λ l. ended ++ settled_part pick t l) (last_run input run none)
    ∙ ap (λ p. p ++ settled_part pick t (line ++ run)) (sym before)

-- the end
pub whole_by : (pick : Pick) (t : ℕ) (input : List ℕ) (settled : Bool) → is_settled (last_line input) ≡ settled
    → part_of pick t input ≡ part_so_far pick t input ++ (if settled then [] else last_part pick t (last_line input))
whole_by pick t input true is =
    let line = last_line input in
    let ended = lines_part pick t (ended_lines input) in
    ap (λ test. ended ++ (if test then last_part pick t line else [])) (sym is) ∙ sym (append-nil (part_so_far pick t input))
whole_by pick t input false isnt =
    let line = last_line input in
    let ended = lines_part pick t (ended_lines input) in
    let before : part_so_far pick t input ≡ ended = ap (λ test. ended ++ (if test then last_part pick t line else [])) isnt ∙ append-nil ended in
    ap (λ p. p ++ last_part pick t line) (sym before)

-- a line feed
pub feed_more : (pick : Pick) (t : ℕ) (input : List ℕ) → part_so_far pick t (input ++ 10 ∷ []) ≡ part_of pick t input ++ (if pick (last_line input) == t then 10 ∷ [] else [])
feed_more pick t input =
    let line = last_line input in
    let ended = lines_part pick t (ended_lines input) in
    let mine = pick line == t in
    ap (λ lines. lines_part pick t lines ++ settled_part pick t (last_line (input ++ 10 ∷ []))) (ended_feed input)
    ∙ ap (λ l. lines_part pick t (ended_lines input ++ line ∷ []) ++ settled_part pick t l) (last_feed input)
    ∙ append-nil (lines_part pick t (ended_lines input ++ line ∷ []))
    ∙ lines_more pick t (ended_lines input) line
    ∙ ap (λ p. ended ++ p) (if_more mine line (10 ∷ []))
    ∙ sym (append_assoc ended (if mine then line else []) (if mine then 10 ∷ [] else []))

-- ---- where the line stands
settled_by : (pick : Pick) (line : List ℕ) (settled : Bool) (thread : ℕ) → is_settled line ≡ settled → Some thread ≡ (if settled then Some (pick line) else None) → (is_settled line ≡ true) × (thread ≡ pick line)
settled_by pick line true thread is h = (is, cc)
settled_by pick line false thread is h = cc

pub is_now_settled : (pick : Pick) (line : List ℕ) (thread : ℕ) → Some thread ≡ (if is_settled line then Some (pick line) else None) → (is_settled line ≡ true) × (thread ≡ pick line)
is_now_settled pick line thread h = settled_by pick line (is_settled line) thread refl h

unsettled_by : (pick : Pick) (line : List ℕ) (settled : Bool) → is_settled line ≡ settled → None ≡ (if settled then Some (pick line) else None) → is_settled line ≡ false
unsettled_by pick line true is h = cc
unsettled_by pick line false is h = is

pub isnt_settled : (pick : Pick) (line : List ℕ) → None ≡ (if is_settled line then Some (pick line) else None) → is_settled line ≡ false
isnt_settled pick line h = unsettled_by pick line (is_settled line) refl h

-- ---- steps
abbrev NamedAnswer : Type 0
NamedAnswer = ℕ → List ℕ

-- what was taken may be stated in other words
pub taken_same : (keys : RandomState) (threads : ℕ) (a b : NamedAnswer) (s : Sorting) (input : List ℕ) → ((t : ℕ) → t < threads → b t ≡ a t) → IsSorted keys threads a s input → IsSorted keys threads b s input
taken_same keys threads a b s input same h = record {
  keys_are = h.keys_are;
  threads_are = h.threads_are;
  many = h.many;
  line_is = h.line_is;
  thread_is = h.thread_is;
  parts_are = λ t lt. ap (λ x. x ++ waits s t) (same t lt) ∙ h.parts_are t lt;
}

-- no octets yet
pub at_first : (keys : RandomState) (threads : ℕ) (s : Sorting) → s.picking.keys ≡ keys → s.picking.threads ≡ threads → length s.parts.items ≡ threads → s.line.items ≡ [] → s.thread ≡ None
    → ((t : ℕ) → t < threads → waits s t ≡ []) → IsSorted keys threads (λ t. []) s []
unfolding cut
at_first keys threads s k n many line thread none = record {
  keys_are = k;
  threads_are = n;
  many = many;
  line_is = line;
  thread_is = thread;
  parts_are = λ t lt. none t lt;
}

-- the thread of the last line, as it is kept
own_pick : (keys : RandomState) (threads : ℕ) (s : Sorting) (line : List ℕ) → s.picking.keys ≡ keys → s.picking.threads ≡ threads → s.line.items ≡ line
    → thread_of s.picking.keys s.picking.threads s.line.items ≡ thread_of keys threads line
own_pick keys threads s line k n l = ap (λ x. thread_of x s.picking.threads s.line.items) k ∙ ap (λ x. thread_of keys x s.line.items) n ∙ ap (thread_of keys threads) l

kept_line : (line whole : List ℕ) (settled : Bool) → is_settled whole ≡ settled → line ≡ (if is_settled whole then [] else whole) → settled ≡ false → line ≡ whole
kept_line line whole true is h isnt = absurd (false≢true (sym isnt))
kept_line line whole false is h isnt = h ∙ ap (λ b. if b then [] else whole) is

-- octets that are led to one of the threads
one_led : (mine : Bool) (a w w2 p q more : List ℕ) → w2 ≡ w ++ (if mine then more else []) → a ++ w ≡ p → q ≡ p ++ (if mine then more else []) → a ++ w2 ≡ q
one_led mine a w w2 p q more led had due =
    ap (λ x. a ++ x) led ∙ sym (append_assoc a w (if mine then more else [])) ∙ ap (λ x. x ++ (if mine then more else [])) had ∙ sym due

pub settles_end : (old new : Sorting) (thread : ℕ) → old.thread ≡ None → Settles old new thread → (keys : RandomState) (threads : ℕ) (taken : NamedAnswer) (input : List ℕ) → IsSorted keys threads taken old input
    → IsSortedWhole keys threads taken new input × (thread ≡ thread_of keys threads (last_line input))
settles_end old new thread none s keys threads taken input h =
    let pick = thread_of keys threads in
    let last = last_line input in
    let isnt : is_settled last ≡ false = isnt_settled pick last (sym none ∙ h.thread_is) in
    let line : old.line.items ≡ last = kept_line old.line.items last (is_settled last) refl h.line_is isnt in
    let own : thread ≡ pick last = s.own ∙ own_pick keys threads old last h.keys_are h.threads_are line in (
      record {
        keys_are = ap (λ p. p.keys) s.picking_stays ∙ h.keys_are;
        threads_are = ap (λ p. p.threads) s.picking_stays ∙ h.threads_are;
        many = s.parts.many ∙ h.many;
        line_is = s.line_is;
        thread_is = s.thread_is ∙ ap (λ n. Some n) own;
        parts_are = λ t lt.
            one_led (pick last == t) (taken t) (waits old t) (waits new t) (part_so_far pick t input) (part_of pick t input) last
            (s.parts.parts t (omega (arith, lt, h.many)) ∙ ap (λ l. waits old t ++ (if thread == t then l else [])) line ∙ ap (λ n. waits old t ++ (if n == t then last else [])) own)
            (h.parts_are t lt)
            (whole_by pick t input false isnt);
      },
      own,
    )

pub had_end : (old : Sorting) (thread : ℕ) → old.thread ≡ Some thread → (keys : RandomState) (threads : ℕ) (taken : NamedAnswer) (input : List ℕ) → IsSorted keys threads taken old input
    → IsSortedWhole keys threads taken old input × (thread ≡ thread_of keys threads (last_line input))
had_end old thread some keys threads taken input h =
    let pick = thread_of keys threads in
    let last = last_line input in
    let is = is_now_settled pick last thread (sym some ∙ h.thread_is) in (
      record {
        keys_are = h.keys_are;
        threads_are = h.threads_are;
        many = h.many;
        line_is = h.line_is ∙ ap (λ b. if b then [] else last) is.0;
        thread_is = some ∙ ap (λ n. Some n) is.1;
        parts_are = λ t lt. h.parts_are t lt ∙ sym (whole_by pick t input true is.0 ∙ append-nil (part_so_far pick t input));
      },
      is.1,
    )

-- octets of a line whose thread is settled
pub run_led : (old new : Sorting) (thread : ℕ) (run : List ℕ) → has_feed run ≡ false → old.thread ≡ Some thread → new.picking ≡ old.picking → new.line.items ≡ old.line.items → new.thread ≡ old.thread
    → Leads old.parts.items thread run new.parts.items → (keys : RandomState) (threads : ℕ) (taken : NamedAnswer) (input : List ℕ) → IsSorted keys threads taken old input → IsSorted keys threads taken new (input ++ run)
run_led old new thread run none some picking line stays led keys threads taken input h =
    let pick = thread_of keys threads in
    let last = last_line input in
    let is = is_now_settled pick last thread (sym some ∙ h.thread_is) in
    let still = still_settled last run is.0 in
    let same = same_thread keys threads last run is.0 in
    let whole : last_line (input ++ run) ≡ last ++ run = last_run input run none in
    let now : is_settled (last_line (input ++ run)) ≡ true = ap is_settled whole ∙ still in
    record {
      keys_are = ap (λ p. p.keys) picking ∙ h.keys_are;
      threads_are = ap (λ p. p.threads) picking ∙ h.threads_are;
      many = led.many ∙ h.many;
      line_is = line ∙ h.line_is ∙ ap (λ b. if b then [] else last) is.0 ∙ sym (ap (λ b. if b then [] else last_line (input ++ run)) now);
      thread_is = stays ∙ some ∙ ap (λ n. Some n) (is.1 ∙ sym same ∙ ap pick (sym whole)) ∙ sym (ap (λ b. if b then Some (pick (last_line (input ++ run))) else None) now);
      parts_are = λ t lt.
          one_led (pick last == t) (taken t) (waits old t) (waits new t) (part_so_far pick t input) (part_so_far pick t (input ++ run)) run
          (led.parts t (omega (arith, lt, h.many)) ∙ ap (λ n. waits old t ++ (if n == t then run else [])) is.1)
          (h.parts_are t lt)
          (settled_more pick t input run none is.0 still same);
    }

-- octets of a line whose thread isn't
pub run_kept : (old new : Sorting) (run : List ℕ) → has_feed run ≡ false → old.thread ≡ None → new.picking ≡ old.picking → new.line.items ≡ old.line.items ++ run → new.thread ≡ old.thread
    → new.parts.items ≡ old.parts.items → is_settled new.line.items ≡ false → (keys : RandomState) (threads : ℕ) (taken : NamedAnswer) (input : List ℕ) → IsSorted keys threads taken old input → IsSorted keys threads taken new (input ++ run)
run_kept old new run none nothing picking line stays parts unsettled keys threads taken input h =
    let pick = thread_of keys threads in
    let last = last_line input in
    let isnt : is_settled last ≡ false = isnt_settled pick last (sym nothing ∙ h.thread_is) in
    let whole : last_line (input ++ run) ≡ last ++ run = last_run input run none in
    let kept : new.line.items ≡ last_line (input ++ run) = line ∙ ap (λ l. l ++ run) (kept_line old.line.items last (is_settled last) refl h.line_is isnt) ∙ sym whole in
    let now : is_settled (last_line (input ++ run)) ≡ false = ap is_settled (sym kept) ∙ unsettled in
    record {
      keys_are = ap (λ p. p.keys) picking ∙ h.keys_are;
      threads_are = ap (λ p. p.threads) picking ∙ h.threads_are;
      many = ap length parts ∙ h.many;
      line_is = kept ∙ sym (ap (λ b. if b then [] else last_line (input ++ run)) now);
      thread_is = stays ∙ nothing ∙ sym (ap (λ b. if b then Some (pick (last_line (input ++ run))) else None) now);
      parts_are = λ t lt.
          ap (λ ps. taken t ++ slice_index_or ps t []) parts ∙ h.parts_are t lt
          ∙ sym (unsettled_more pick t input run none isnt ∙ ap (λ b. part_so_far pick t input ++ (if b then last_part pick t (last ++ run) else [])) (ap is_settled (sym whole) ∙ now) ∙ append-nil (part_so_far pick t input));
    }

-- octets that settle it
pub run_settles : (old mid new : Sorting) (thread : ℕ) (run : List ℕ) → has_feed run ≡ false → old.thread ≡ None → mid.picking ≡ old.picking → mid.line.items ≡ old.line.items ++ run → mid.parts.items ≡ old.parts.items
    → is_settled mid.line.items ≡ true → Settles mid new thread → (keys : RandomState) (threads : ℕ) (taken : NamedAnswer) (input : List ℕ) → IsSorted keys threads taken old input → IsSorted keys threads taken new (input ++ run)
run_settles old mid new thread run none nothing picking line parts settled s keys threads taken input h =
    let pick = thread_of keys threads in
    let last = last_line input in
    let isnt : is_settled last ≡ false = isnt_settled pick last (sym nothing ∙ h.thread_is) in
    let whole : last_line (input ++ run) ≡ last ++ run = last_run input run none in
    let joined : mid.line.items ≡ last ++ run = line ∙ ap (λ l. l ++ run) (kept_line old.line.items last (is_settled last) refl h.line_is isnt) in
    let still : is_settled (last ++ run) ≡ true = ap is_settled (sym joined) ∙ settled in
    let now : is_settled (last_line (input ++ run)) ≡ true = ap is_settled whole ∙ still in
    let own : thread ≡ pick (last ++ run) = s.own ∙ own_pick keys threads mid (last ++ run) (ap (λ p. p.keys) picking ∙ h.keys_are) (ap (λ p. p.threads) picking ∙ h.threads_are) joined in
    record {
      keys_are = ap (λ p. p.keys) (s.picking_stays ∙ picking) ∙ h.keys_are;
      threads_are = ap (λ p. p.threads) (s.picking_stays ∙ picking) ∙ h.threads_are;
      many = s.parts.many ∙ ap length parts ∙ h.many;
      line_is = s.line_is ∙ sym (ap (λ b. if b then [] else last_line (input ++ run)) now);
      thread_is = s.thread_is ∙ ap (λ n. Some n) (own ∙ ap pick (sym whole)) ∙ sym (ap (λ b. if b then Some (pick (last_line (input ++ run))) else None) now);
      parts_are = λ t lt.
          one_led (pick (last ++ run) == t) (taken t) (waits old t) (waits new t) (part_so_far pick t input) (part_so_far pick t (input ++ run)) (last ++ run)
          (s.parts.parts t (omega (arith, lt, h.many, ap length parts)) ∙ ap (λ ps. slice_index_or ps t [] ++ (if thread == t then mid.line.items else [])) parts
          ∙ ap (λ l. waits old t ++ (if thread == t then l else [])) joined ∙ ap (λ n. waits old t ++ (if n == t then last ++ run else [])) own)
          (h.parts_are t lt)
          (unsettled_more pick t input run none isnt ∙ ap (λ b. part_so_far pick t input ++ (if b then last_part pick t (last ++ run) else [])) still);
    }

-- a line feed
pub feed_led : (old new : Sorting) (thread : ℕ) → new.picking ≡ old.picking → new.line.items ≡ old.line.items → new.thread ≡ None → Leads old.parts.items thread (10 ∷ []) new.parts.items
    → (keys : RandomState) (threads : ℕ) (taken : NamedAnswer) (input : List ℕ) → IsSortedWhole keys threads taken old input → thread ≡ thread_of keys threads (last_line input) → IsSorted keys threads taken new (input ++ 10 ∷ [])
feed_led old new thread picking line none led keys threads taken input h own =
    let pick = thread_of keys threads in
    let empty : last_line (input ++ 10 ∷ []) ≡ [] = last_feed input in
    let now : is_settled (last_line (input ++ 10 ∷ [])) ≡ false = ap is_settled empty in
    record {
      keys_are = ap (λ p. p.keys) picking ∙ h.keys_are;
      threads_are = ap (λ p. p.threads) picking ∙ h.threads_are;
      many = led.many ∙ h.many;
      line_is = line ∙ h.line_is ∙ sym (ap (λ b. if b then [] else last_line (input ++ 10 ∷ [])) now ∙ empty);
      thread_is = none ∙ sym (ap (λ b. if b then Some (pick (last_line (input ++ 10 ∷ []))) else None) now);
      parts_are = λ t lt.
          one_led (pick (last_line input) == t) (taken t) (waits old t) (waits new t) (part_of pick t input) (part_so_far pick t (input ++ 10 ∷ [])) (10 ∷ [])
          (led.parts t (omega (arith, lt, h.many)) ∙ ap (λ n. waits old t ++ (if n == t then 10 ∷ [] else [])) own)
          (h.parts_are t lt)
          (feed_more pick t input);
    }
