-- What is written for one frame after another.
use Rattle.std.proofs.Common.{◌≡◌, ◌<◌, ◌≤◌, ◌∙◌, ◌+◌, ◌*◌, ◌/◌, ◌%◌, ◌==◌, ◌++◌, ℕ, suc, zero, Bool, List, [], ◌∷◌, length, Option, Some, None, nat_lt, max, inl, inr, refl, sym, ap, subst, arith, append_assoc, append-nil, length-append, if◌then◌else◌, false}
use Rattle.std.specs.Io.KnownBytes.{Appends}
use Rattle.std.specs.List.{enumerate_from, flat_map}
use Rattle.std.proofs.KnownBytes.{Appends-trans}
use Rattle.std.proofs.lemmas.Bool.{cases_lt, cond-false, cond-true, le-ltb, lt-ltb}
use Rattle.std.proofs.lemmas.Bool.Decides.{nat_tests}
use Rattle.std.proofs.lemmas.List.Elements.{filter_map-append}
use Rattle.std.proofs.lemmas.List.Sums.{fold-append}
use Rattle.std.proofs.lemmas.Nat.{div-mul-add, mod-mul-add, div-add-mod', mod_below}
use Rattle.pcef_packet.specs.declared.header.Addr.{Addr}
use Rattle.pcef_capture_file.specs.Captured.{Captured}
use Rattle.pcef_capture_script.specs.Counting.{with_counted, counts_of, no_counts}
use Rattle.pcef_capture_script.specs.Fates.{AreFates, Fate, IsFate, items_of, outcomes_of}
use Rattle.pcef_capture_script.specs.Lines.{Item, take_line}
use Rattle.pcef_capture_script.specs.Scripts.{Rota, batch_of, flush_behind, numbered_lines, worker_of}
use Rattle.pcef_capture_script.specs.Turns.{WroteFrame, WroteSoFar, flush_if, full_after, lines_at, lines_if, next_worker, taken_after, turn_at, turn_past}
use Rattle.pcef_capture_script.specs.declared.counts.Counts.{Counts}
use Rattle.pcef_capture_script.specs.declared.counts.Outcome.{Outcome}
use Rattle.pcef_capture_script.specs.declared.turn.Turn.{Turn}

-- ---- whose turn it is
mul-add_one : (a w : ℕ) → (a + 1) * w ≡ a * w + w
mul-add_one a w = omega arith

-- the remainder of one more
next_rest : (q w : ℕ) → 0 < w → (q + 1) % w ≡ (if nat_lt (q % w + 1) w then q % w + 1 else 0)
next_rest q w some =
    let parts : q / w * w + q % w ≡ q = div-add-mod' q w in
    let below : q % w < w = mod_below q w some in
    elim (cases_lt (q % w + 1) w) [
      | inl lt ↦
          let sum : q + 1 ≡ q / w * w + (q % w + 1) = omega (arith, parts) in
          ap (λ n. n % w) sum ∙ mod-mul-add (q / w) w (q % w + 1) lt ∙ sym (cond-true (nat_lt (q % w + 1) w) (q % w + 1) 0 (lt-ltb (q % w + 1) w lt))
      | inr past ↦
          let whole : q % w + 1 ≡ w = omega (arith, below, past) in
          let one : (q / w + 1) * w ≡ q / w * w + w = mul-add_one (q / w) w in
          let sum : q + 1 ≡ (q / w + 1) * w + 0 = omega (arith, parts, whole, one) in
          ap (λ n. n % w) sum ∙ mod-mul-add (q / w + 1) w 0 some ∙ sym (cond-false (nat_lt (q % w + 1) w) (q % w + 1) 0 (le-ltb (q % w + 1) w past))
    ]

next_of : (workers q : ℕ) → next_worker workers (q % max workers 1) ≡ (q + 1) % max workers 1
next_of zero q =
    let none_next : (q + 1) % 1 ≡ 0 = omega arith in
    cond-false (nat_lt (q % 1 + 1) 0) (q % 1 + 1) 0 (le-ltb (q % 1 + 1) 0 (omega arith)) ∙ sym none_next
next_of (suc w) q =
    let most : max (suc w) 1 ≡ suc w = omega arith in
    rw most (sym (next_rest q (suc w) (omega arith)))

-- the quotient of one more, within a batch and behind it
same_place : (q w : ℕ) → q % w + 1 < w → (q + 1) / w ≡ q / w
same_place q w lt =
    let parts : q / w * w + q % w ≡ q = div-add-mod' q w in
    let sum : q + 1 ≡ q / w * w + (q % w + 1) = omega (arith, parts) in
    ap (λ n. n / w) sum ∙ div-mul-add (q / w) w (q % w + 1) lt

next_place : (q w : ℕ) → 0 < w → w ≤ q % w + 1 → (q + 1) / w ≡ q / w + 1
next_place q w some past =
    let parts : q / w * w + q % w ≡ q = div-add-mod' q w in
    let below : q % w < w = mod_below q w some in
    let whole : q % w + 1 ≡ w = omega (arith, below, past) in
    let one : (q / w + 1) * w ≡ q / w * w + w = mul-add_one (q / w) w in
    let sum : q + 1 ≡ (q / w + 1) * w + 0 = omega (arith, parts, whole, one) in
    ap (λ n. n / w) sum ∙ div-mul-add (q / w + 1) w 0 some

batch_some : (batch : ℕ) → 0 < max batch 1
batch_some batch = omega arith

pub next_turn : (rota : Rota) (n : ℕ) → taken_after (turn_at rota n) ≡ turn_at rota (n + 1)
next_turn rota n =
    let b = batch_of rota in
    let some = batch_some rota.batch in
    let rest = next_rest n b some in
    elim (cases_lt (n % b + 1) b) [
      | inl lt ↦
          let test = lt-ltb (n % b + 1) b lt in
          let more : (n + 1) % b ≡ n % b + 1 = rest ∙ cond-true (nat_lt (n % b + 1) b) (n % b + 1) 0 test in
          rw (test, more, same_place n b lt) refl
      | inr past ↦
          let test = le-ltb (n % b + 1) b past in
          let none : (n + 1) % b ≡ 0 = rest ∙ cond-false (nat_lt (n % b + 1) b) (n % b + 1) 0 test in
          rw (test, none, next_place n b some past) (ap (λ w. record { workers = rota.workers; batch = rota.batch; worker = w; waiting = 0 }) (next_of rota.workers (n / b)))
    ]

more_than_none : (n : ℕ) → (n + 1 == 0) ≡ false
more_than_none n = grind (arith, nat_tests)

pub flush_there : (rota : Rota) (n : ℕ) → flush_if (full_after (turn_at rota n)) ≡ flush_behind rota n
flush_there rota n =
    let b = batch_of rota in
    let some = batch_some rota.batch in
    let rest = next_rest n b some in
    elim (cases_lt (n % b + 1) b) [
      | inl lt ↦
          let test = lt-ltb (n % b + 1) b lt in
          let more : (n + 1) % b ≡ n % b + 1 = rest ∙ cond-true (nat_lt (n % b + 1) b) (n % b + 1) 0 test in
          rw (test, more, more_than_none (n % b)) refl
      | inr past ↦
          let test = le-ltb (n % b + 1) b past in
          let none : (n + 1) % b ≡ 0 = rest ∙ cond-false (nat_lt (n % b + 1) b) (n % b + 1) 0 test in
          rw (test, none) refl
    ]

-- ---- the lines
-- the lines for the packets from a number on
abbrev pub lines_from : Rota → ℕ → List Item → List ℕ
lines_from rota n items = flat_map (numbered_lines rota) (enumerate_from n items)

pub lines_both : (rota : Rota) (n : ℕ) (items more : List Item) →
    lines_from rota n (items ++ more) ≡ lines_from rota n items ++ lines_from rota (n + length items) more
lines_both rota n [] more =
    let place : n ≡ n + 0 = omega arith in
    ap (λ k. lines_from rota k more) place
lines_both rota n (x ∷ items) more =
    let first = numbered_lines rota (n, x) in
    let place : n + 1 + length items ≡ n + suc (length items) = omega arith in
    ap (λ t. first ++ t) (lines_both rota (n + 1) items more ∙ ap (λ k. lines_from rota (n + 1) items ++ lines_from rota k more) place)
    ∙ sym (append_assoc first (lines_from rota (n + 1) items) (lines_from rota (n + suc (length items)) more))

lines_more : (rota : Rota) (n : ℕ) (items : List Item) (item : Item) →
    lines_from rota n (items ++ item ∷ []) ≡ lines_from rota n items ++ numbered_lines rota (n + length items, item)
lines_more rota n items item =
    lines_both rota n items (item ∷ [])
    ∙ ap (λ t. lines_from rota n items ++ t) (append-nil (numbered_lines rota (n + length items, item)))

-- ---- frame after frame
fates_more : (ue : Addr) (pads : Bool) (frames : List Captured) (fates : List Fate) (frame : Captured) (fate : Fate) →
    AreFates ue pads frames fates → IsFate ue pads frame fate → AreFates ue pads (frames ++ frame ∷ []) (fates ++ fate ∷ [])
fates_more ue pads [] [] frame fate are is = (is, tt)
fates_more ue pads (x ∷ frames) (f ∷ fates) frame fate are is = (are.0, fates_more ue pads frames fates frame fate are.1 is)
fates_more ue pads [] (f ∷ fates) frame fate are is = absurd are
fates_more ue pads (x ∷ frames) [] frame fate are is = absurd are

outcomes_more : (fates : List Fate) (fate : Fate) → outcomes_of (fates ++ fate ∷ []) ≡ outcomes_of fates ++ fate.0 ∷ []
outcomes_more [] fate = refl
outcomes_more (f ∷ fates) fate = ap (λ os. f.0 ∷ os) (outcomes_more fates fate)

-- the packet that has a line, as a list
abbrev pub there : Option Item → List Item
there None = []
there (Some item) = item ∷ []

there_among : (fate : Fate) (found : Option Item) → fate.1 ≡ found → items_of (fate ∷ []) ≡ there found
there_among (o, None) None e = refl
there_among (o, Some item) None e = absurd (cc e)
there_among (o, None) (Some item) e = absurd (cc e)
there_among (o, Some other) (Some item) e =
    let same : other ≡ item = cc e in
    ap (λ i. i ∷ []) same

pub items_more : (fates : List Fate) (fate : Fate) → items_of (fates ++ fate ∷ []) ≡ items_of fates ++ there fate.1
items_more fates fate =
    filter_map-append (λ (f : Fate). f.1) fates (fate ∷ []) ∙ ap (λ t. items_of fates ++ t) (there_among fate fate.1 refl)

lines_there : (rota : Rota) (n : ℕ) (turn : Turn) (item : Item) → turn ≡ turn_at rota n → lines_at turn item ≡ numbered_lines rota (n, item)
lines_there rota n turn item is =
    ap (λ t. lines_at t item) is ∙ ap (λ t. take_line (worker_of rota n) item ++ t) (flush_there rota n)

pub frame_there : (rota : Rota) (items : List Item) (found : Option Item) (turn after : Turn) (old now next : Option (List ℕ))
    → turn ≡ turn_at rota (length items) → after ≡ turn_past turn found
    → Appends old now (lines_from rota 0 items) → Appends now next (lines_if turn found)
    → (after ≡ turn_at rota (length (items ++ there found))) × Appends old next (lines_from rota 0 (items ++ there found))
frame_there rota items None turn after old now next at past before lines =
    let all : items ++ [] ≡ items = append-nil items in
    let text = lines_from rota 0 items in
    let whole : Appends old next text = subst (Appends old next) (append-nil text) (Appends-trans old now next text [] before lines) in
    (past ∙ at ∙ ap (λ is. turn_at rota (length is)) (sym all), subst (λ is. Appends old next (lines_from rota 0 is)) (sym all) whole)
frame_there rota items (Some item) turn after old now next at past before lines =
    let n = length items in
    let longer : length (items ++ item ∷ []) ≡ n + 1 = omega (arith, length-append items (item ∷ [])) in
    let text = lines_from rota 0 items in
    let place : n ≡ 0 + n = omega arith in
    let same : text ++ lines_at turn item ≡ lines_from rota 0 (items ++ item ∷ []) =
    ap (λ t. text ++ t) (lines_there rota n turn item at ∙ ap (λ k. numbered_lines rota (k, item)) place) ∙ sym (lines_more rota 0 items item) in (
      past ∙ ap taken_after at ∙ next_turn rota n ∙ ap (turn_at rota) (sym longer),
      subst (Appends old next) same (Appends-trans old now next text (lines_at turn item) before lines),
    )

pub one_frame_more : (ue : Addr) (pads : Bool) (rota : Rota) (frames more : List Captured) (old now next : Option (List ℕ)) (turn after : Turn) (counts : Counts) (frame : Captured) (outcome : Outcome)
    → WroteSoFar ue pads rota frames old now turn counts
    → WroteFrame ue pads frame turn after now next outcome
    → more ≡ frames ++ frame ∷ []
    → WroteSoFar ue pads rota more old next after (with_counted outcome counts)
one_frame_more ue pads rota frames more old now next turn after counts frame outcome so_far wrote e =
    let fates = so_far.0 in
    let fate = wrote.0 in
    let here = frame_there rota (items_of fates) fate.1 turn after old now next so_far.2 wrote.2.1 so_far.3 wrote.2.2 in
    let items : items_of fates ++ there fate.1 ≡ items_of (fates ++ fate ∷ []) = sym (items_more fates fate) in
    let outcomes : outcomes_of fates ++ fate.0 ∷ [] ≡ outcomes_of (fates ++ fate ∷ []) = sym (outcomes_more fates fate) in (
      fates ++ fate ∷ [],
      subst (λ fs. AreFates ue pads fs (fates ++ fate ∷ [])) (sym e) (fates_more ue pads frames fates frame fate so_far.1 wrote.1),
      here.0 ∙ ap (λ is. turn_at rota (length is)) items,
      subst (λ is. Appends old next (lines_from rota 0 is)) items here.1,
      ap (λ o. with_counted o counts) wrote.2.0 ∙ ap (with_counted fate.0) so_far.4 ∙ sym (fold-append (λ (cs : Counts) (o : Outcome). with_counted o cs) no_counts (outcomes_of fates) (fate.0 ∷ [])) ∙ ap counts_of outcomes,
    )
