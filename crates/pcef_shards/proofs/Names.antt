-- All lines of a name are in one thread's part.
use Rattle.std.proofs.Common.{◌≡◌, ◌≢◌, ◌∙◌, ◌==◌, ℕ, zero, suc, ◌<◌, Bool, true, false, List, [], ◌∷◌, ◌++◌, length, take, Option, Some, None, refl, sym, ap, append_assoc, append-nil, arith}
use Rattle.std.specs.Prelude.{◌&&◌, not, option_map, option_and_then, if◌then◌else◌}
use Rattle.std.specs.Str.{bytes_eq}
use Rattle.std.specs.declared.hash.RandomState.{RandomState}
use Rattle.std.proofs.lemmas.Bool.{and_parts, eqb-false, eqb-true, false_from_ne_true, or_parts}
use Rattle.std.proofs.lemmas.Slice.Eq.{bytes_eq-Decides}
use Rattle.pcef_script.specs.ScriptAnswers.{answered}
use Rattle.pcef_script.specs.ScriptLines.{has_feed, is_blank_line}
use Rattle.pcef_script.specs.Scripts.{all_lines, cut, ended_lines, joined, last_line}
use Rattle.pcef_script.proofs.Answering.{answered_blank, answered_more, answered_one}
use Rattle.pcef_script.proofs.Cuts.{cut_run}
use Rattle.pcef_sessions.specs.Addressed.{addressed, at_space, for_session, is_session_name, lines_of, said_to}
use Rattle.pcef_sessions.proofs.NameTests.{session_names}
use Rattle.pcef_shards.specs.Parts.{last_part, lines_part, part_of}
use Rattle.pcef_shards.specs.Picks.{before_space, thread_of, thread_of_name}
use Rattle.pcef_shards.specs.Sharing.{NamesHaveThreads, OthersHaveNone}

abbrev Lines : Type 0
Lines = List (List ℕ) × List ℕ

abbrev pub Pick : Type 0
Pick = List ℕ → ℕ

abbrev Halves : Type 0
Halves = List ℕ × List ℕ

-- ---- the lines of an input have no line feed
abbrev NoFeeds : List (List ℕ) → Type 0
NoFeeds [] = Unit {0}
NoFeeds (line ∷ lines) = (has_feed line ≡ false) × NoFeeds lines

more_plain : (b : ℕ) (line : List ℕ) → (b == 10) ≡ false → has_feed line ≡ false → has_feed (b ∷ line) ≡ false
more_plain b line isnt none = rw isnt none

joined_plain : (b : ℕ) (lines : List (List ℕ)) (last : List ℕ) → (b == 10) ≡ false → NoFeeds lines → has_feed last ≡ false → NoFeeds (joined b lines last).0 × (has_feed (joined b lines last).1 ≡ false)
joined_plain b [] last isnt h k = (tt, more_plain b last isnt k)
joined_plain b (line ∷ lines) last isnt h k = ((more_plain b line isnt h.0, h.1), k)

plain_by : (b : ℕ) (lines : List (List ℕ)) (last : List ℕ) (test : Bool) → (b == 10) ≡ test → NoFeeds lines → has_feed last ≡ false
    → NoFeeds (if test then ([] ∷ lines, last) else joined b lines last).0 × (has_feed (if test then ([] ∷ lines, last) else joined b lines last).1 ≡ false)
plain_by b lines last true is h k = ((refl, h), k)
plain_by b lines last false isnt h k = joined_plain b lines last isnt h k

plain : (input : List ℕ) → NoFeeds (ended_lines input) × (has_feed (last_line input) ≡ false)
unfolding cut
plain [] = (tt, refl)
plain (b ∷ input) = plain_by b (cut input).0 (cut input).1 (b == 10) refl (plain input).0 (plain input).1

-- ---- the lines of a part
cut_line : (line rest : List ℕ) → has_feed line ≡ false → cut ((line ++ 10 ∷ []) ++ rest) ≡ (line ∷ (cut rest).0, (cut rest).1)
unfolding cut
cut_line [] rest none = refl
cut_line (b ∷ line) rest none =
    let parts = or_parts (b == 10) (has_feed line) none in
    rw (parts.0, cut_line line rest parts.1) refl

abbrev pub chosen : Pick → ℕ → List (List ℕ) → List (List ℕ)
chosen pick t [] = []
chosen pick t (line ∷ lines) = if pick line == t then line ∷ chosen pick t lines else chosen pick t lines

cut_chosen : (pick : Pick) (t : ℕ) (line : List ℕ) (lines : List (List ℕ)) (last : List ℕ) (mine : Bool) → has_feed line ≡ false → cut (lines_part pick t lines ++ last) ≡ (chosen pick t lines, last)
    → cut (((if mine then line ++ 10 ∷ [] else []) ++ lines_part pick t lines) ++ last) ≡ ((if mine then line ∷ chosen pick t lines else chosen pick t lines), last)
cut_chosen pick t line lines last true none rest =
    ap cut (append_assoc (line ++ 10 ∷ []) (lines_part pick t lines) last) ∙ cut_line line (lines_part pick t lines ++ last) none ∙ ap (λ (c : Lines). (line ∷ c.0, c.1)) rest
cut_chosen pick t line lines last false none rest = rest

cut_part : (pick : Pick) (t : ℕ) (lines : List (List ℕ)) (last : List ℕ) → NoFeeds lines → has_feed last ≡ false → cut (lines_part pick t lines ++ last) ≡ (chosen pick t lines, last)
unfolding cut
cut_part pick t [] last h k = cut_run [] last k
cut_part pick t (line ∷ lines) last h k = cut_chosen pick t line lines last (pick line == t) h.0 (cut_part pick t lines last h.1 k)

plain_last : (line : List ℕ) (mine : Bool) → has_feed line ≡ false → has_feed (if mine then line else []) ≡ false
plain_last line true none = none
plain_last line false none = refl

pub part_lines : (pick : Pick) (t : ℕ) (input : List ℕ) → all_lines (part_of pick t input) ≡ chosen pick t (ended_lines input) ++ last_part pick t (last_line input) ∷ []
part_lines pick t input =
    ap (λ (c : Lines). c.0 ++ c.1 ∷ [])
    (cut_part pick t (ended_lines input) (last_part pick t (last_line input)) (plain input).0 (plain_last (last_line input) (pick (last_line input) == t) (plain input).1))

-- ---- what a line says to a name
abbrev first_of : Option Halves → List ℕ
first_of None = []
first_of (Some p) = p.0

near_rest : (b k : ℕ) (line : List ℕ) (p : Halves) (o : Option Halves) → at_space line ≡ o → option_map (λ (q : Halves). (b ∷ q.0, q.1)) o ≡ Some p → length p.0 < suc k
    → ((q : Halves) → at_space line ≡ Some q → length q.0 < k → before_space (take k line) ≡ q.0) → b ∷ before_space (take k line) ≡ p.0
near_rest b k line p None at e lt rest = cc
near_rest b k line p (Some q) at e lt rest =
    let same : b ∷ q.0 ≡ p.0 = ap first_of e in
    ap (λ t. b ∷ t) (rest q at (omega (arith, lt, ap length same))) ∙ same

near_by : (b k : ℕ) (line : List ℕ) (p : Halves) (test : Bool) → (if test then Some ([], line) else option_map (λ (q : Halves). (b ∷ q.0, q.1)) (at_space line)) ≡ Some p → length p.0 < suc k
    → ((q : Halves) → at_space line ≡ Some q → length q.0 < k → before_space (take k line) ≡ q.0) → (if test then [] else b ∷ before_space (take k line)) ≡ p.0
near_by b k line p true e lt rest = ap first_of e
near_by b k line p false e lt rest = near_rest b k line p (at_space line) refl e lt rest

near_front : (k : ℕ) (line : List ℕ) (p : Halves) → at_space line ≡ Some p → length p.0 < k → before_space (take k line) ≡ p.0
near_front zero line p at lt = absurd (omega (arith, lt))
near_front (suc k) [] p at lt = cc
near_front (suc k) (b ∷ line) p at lt = near_by b k line p (b == 32) at lt (near_front k line)

said_nothing : (keys : RandomState) (threads : ℕ) (name line : List ℕ) (p : Halves) → at_space line ≡ Some p → thread_of keys threads line ≢ thread_of_name keys threads name
    → (test : Bool) → (is_session_name p.0 && not (is_blank_line p.1)) ≡ test → said_to name (if test then Some p else None) ≡ []
said_nothing keys threads name line p at other false isnt = refl
said_nothing keys threads name line p at other true is =
    let few = (session_names p.0 (and_parts (is_session_name p.0) (not (is_blank_line p.1)) is).0).1 in
    let own : thread_of keys threads line ≡ thread_of_name keys threads p.0 = ap (thread_of_name keys threads) (near_front 65 line p at (omega (arith, few))) in
    let differs : bytes_eq p.0 name ≡ false = false_from_ne_true (bytes_eq p.0 name) (λ e. other (own ∙ ap (thread_of_name keys threads) ((bytes_eq-Decides p.0 name).0 e))) in
    rw differs refl

silent_by : (keys : RandomState) (threads : ℕ) (name line : List ℕ) (o : Option Halves) → at_space line ≡ o → thread_of keys threads line ≢ thread_of_name keys threads name
    → said_to name (option_and_then for_session o) ≡ []
silent_by keys threads name line None at other = refl
silent_by keys threads name line (Some p) at other = said_nothing keys threads name line p at other (is_session_name p.0 && not (is_blank_line p.1)) refl

-- ---- what a name hears of lines
abbrev heard : List ℕ → List (List ℕ) → List (List ℕ)
heard name lines = lines_of name (answered lines)

lines_append : (name : List ℕ) (lines more : List (List ℕ)) → lines_of name (lines ++ more) ≡ lines_of name lines ++ lines_of name more
lines_append name [] more = refl
lines_append name (line ∷ lines) more =
    ap (λ rest. said_to name (addressed line) ++ rest) (lines_append name lines more) ∙ sym (append_assoc (said_to name (addressed line)) (lines_of name lines) (lines_of name more))

heard_more : (name : List ℕ) (lines more : List (List ℕ)) → heard name (lines ++ more) ≡ heard name lines ++ heard name more
heard_more name lines more = ap (lines_of name) (answered_more lines more) ∙ lines_append name (answered lines) (answered more)

quiet_by : (keys : RandomState) (threads : ℕ) (name line : List ℕ) → thread_of keys threads line ≢ thread_of_name keys threads name → (blank : Bool) → is_blank_line line ≡ blank → heard name (line ∷ []) ≡ []
quiet_by keys threads name line other true is = ap (lines_of name) (answered_blank line is)
quiet_by keys threads name line other false isnt =
    ap (lines_of name) (answered_one line isnt) ∙ append-nil (said_to name (addressed line)) ∙ silent_by keys threads name line (at_space line) refl other

quiet : (keys : RandomState) (threads : ℕ) (name line : List ℕ) → thread_of keys threads line ≢ thread_of_name keys threads name → heard name (line ∷ []) ≡ []
quiet keys threads name line other = quiet_by keys threads name line other (is_blank_line line) refl

empty_quiet : (name : List ℕ) → heard name ([] ∷ []) ≡ []
empty_quiet name = ap (lines_of name) (answered_blank [] refl)

-- ---- the thread of the name hears all
own_by : (keys : RandomState) (threads : ℕ) (name line : List ℕ) (lines : List (List ℕ)) (mine : Bool) → (thread_of keys threads line == thread_of_name keys threads name) ≡ mine
    → heard name (chosen (thread_of keys threads) (thread_of_name keys threads name) lines) ≡ heard name lines
    → heard name (if mine then line ∷ chosen (thread_of keys threads) (thread_of_name keys threads name) lines else chosen (thread_of keys threads) (thread_of_name keys threads name) lines) ≡ heard name (line ∷ lines)
own_by keys threads name line lines true is rest =
    heard_more name (line ∷ []) (chosen (thread_of keys threads) (thread_of_name keys threads name) lines) ∙ ap (λ t. heard name (line ∷ []) ++ t) rest ∙ sym (heard_more name (line ∷ []) lines)
own_by keys threads name line lines false isnt rest =
    rest ∙ ap (λ t. t ++ heard name lines) (sym (quiet keys threads name line (eqb-false (thread_of keys threads line) (thread_of_name keys threads name) isnt))) ∙ sym (heard_more name (line ∷ []) lines)

own_lines : (keys : RandomState) (threads : ℕ) (name : List ℕ) (lines : List (List ℕ)) → heard name (chosen (thread_of keys threads) (thread_of_name keys threads name) lines) ≡ heard name lines
own_lines keys threads name [] = refl
own_lines keys threads name (line ∷ lines) = own_by keys threads name line lines (thread_of keys threads line == thread_of_name keys threads name) refl (own_lines keys threads name lines)

own_last : (keys : RandomState) (threads : ℕ) (name line : List ℕ) (mine : Bool) → (thread_of keys threads line == thread_of_name keys threads name) ≡ mine
    → heard name ((if mine then line else []) ∷ []) ≡ heard name (line ∷ [])
own_last keys threads name line true is = refl
own_last keys threads name line false isnt = empty_quiet name ∙ sym (quiet keys threads name line (eqb-false (thread_of keys threads line) (thread_of_name keys threads name) isnt))

pub own_thread : NamesHaveThreads
own_thread keys threads input name is =
    let pick = thread_of keys threads in
    let t = thread_of_name keys threads name in
    let ended = ended_lines input in
    let last = last_line input in
    ap (heard name) (part_lines pick t input) ∙ heard_more name (chosen pick t ended) (last_part pick t last ∷ [])
    ∙ ap (λ l. l ++ heard name (last_part pick t last ∷ [])) (own_lines keys threads name ended)
    ∙ ap (λ l. heard name ended ++ l) (own_last keys threads name last (pick last == t) refl)
    ∙ sym (heard_more name ended (last ∷ []))

-- ---- and no other one hears any
apart : (keys : RandomState) (threads other : ℕ) (name line : List ℕ) → other ≢ thread_of_name keys threads name → (thread_of keys threads line == other) ≡ true → thread_of keys threads line ≢ thread_of_name keys threads name
apart keys threads other name line differs is = λ same. differs (sym (eqb-true (thread_of keys threads line) other is) ∙ same)

other_by : (keys : RandomState) (threads other : ℕ) (name line : List ℕ) (lines : List (List ℕ)) (mine : Bool) → (thread_of keys threads line == other) ≡ mine → other ≢ thread_of_name keys threads name
    → heard name (chosen (thread_of keys threads) other lines) ≡ [] → heard name (if mine then line ∷ chosen (thread_of keys threads) other lines else chosen (thread_of keys threads) other lines) ≡ []
other_by keys threads other name line lines true is differs rest =
    heard_more name (line ∷ []) (chosen (thread_of keys threads) other lines) ∙ ap (λ t. t ++ heard name (chosen (thread_of keys threads) other lines)) (quiet keys threads name line (apart keys threads other name line differs is)) ∙ rest
other_by keys threads other name line lines false isnt differs rest = rest

other_lines : (keys : RandomState) (threads other : ℕ) (name : List ℕ) (lines : List (List ℕ)) → other ≢ thread_of_name keys threads name → heard name (chosen (thread_of keys threads) other lines) ≡ []
other_lines keys threads other name [] differs = refl
other_lines keys threads other name (line ∷ lines) differs = other_by keys threads other name line lines (thread_of keys threads line == other) refl differs (other_lines keys threads other name lines differs)

other_last : (keys : RandomState) (threads other : ℕ) (name line : List ℕ) (mine : Bool) → (thread_of keys threads line == other) ≡ mine → other ≢ thread_of_name keys threads name → heard name ((if mine then line else []) ∷ []) ≡ []
other_last keys threads other name line true is differs = quiet keys threads name line (apart keys threads other name line differs is)
other_last keys threads other name line false isnt differs = empty_quiet name

pub other_threads : OthersHaveNone
other_threads keys threads other input name is differs =
    let pick = thread_of keys threads in
    let ended = ended_lines input in
    let last = last_line input in
    ap (heard name) (part_lines pick other input) ∙ heard_more name (chosen pick other ended) (last_part pick other last ∷ [])
    ∙ ap (λ l. l ++ heard name (last_part pick other last ∷ [])) (other_lines keys threads other name ended differs)
    ∙ other_last keys threads other name last (pick last == other) refl differs
