-- What is kept of a line says as much as the line.
use Rattle.std.proofs.Common.{◌≡◌, ◌∙◌, ◌==◌, ℕ, zero, suc, ◌-◌, ◌<◌, ◌≤◌, Bool, true, false, nat_lt, List, [], ◌∷◌, length, take, min, Option, Some, None, refl, sym, ap, subst, arith}
use Rattle.std.specs.Prelude.{◌&&◌, not, option_and_then, option_map, if◌then◌else◌}
use Rattle.std.proofs.lemmas.Bool.Decides.{nat_tests}
use Rattle.std.proofs.lemmas.List.{length-take, take_all}
use Rattle.pcef_model.specs.Setting.{Setting}
use Rattle.pcef_script.specs.ScriptAnswers.{AnswersDue, DueWithin}
use Rattle.pcef_script.specs.ScriptLines.{is_blank_line, is_too_long, line_most, within_limit}
use Rattle.pcef_sessions.specs.declared.asking.Asking.{Asking}
use Rattle.pcef_sessions.specs.declared.asking.Asking.TheVariants as asking
use Rattle.pcef_sessions.specs.Addressed.{addressed, at_space, for_session, is_session_name}
use Rattle.pcef_sessions.specs.Asked.{asked_of, asked_within}
use Rattle.pcef_sessions.specs.Sayings.{Said, SaysTo}
use Rattle.pcef_sessions.specs.Under.{Session, UnderBy, UnderName}
use Rattle.pcef_sessions.specs.private.Running.{most_kept}
use Rattle.pcef_sessions.proofs.NameTests.{session_names}

below : (most n : ℕ) → n ≤ most → nat_lt most n ≡ false
below most n le = grind (arith, nat_tests)

above : (most n : ℕ) → most < n → nat_lt most n ≡ true
above most n lt = grind (arith, nat_tests)

within : (most n : ℕ) → nat_lt most n ≡ false → n ≤ most
within most n isnt = grind (arith, nat_tests)

passed : (most n : ℕ) → nat_lt most n ≡ true → most < n
passed most n is = grind (arith, nat_tests)

-- ---- the limit of a line, where more than that is kept
taken_by : (m : ℕ) (r : List ℕ) (long : Bool) → line_most < m → is_too_long r ≡ long → (is_too_long (take m r) ≡ is_too_long r) × (is_too_long r ≡ false → take m r ≡ r)
taken_by m r true lt is =
    let more = passed line_most (length r) is in
    let len : length (take m r) ≡ min m (length r) = length-take m r in
    let longer : line_most < length (take m r) = omega (arith, more, lt, len) in
    (above line_most (length (take m r)) longer ∙ sym is, λ short. take_all m r (omega (arith, within line_most (length r) short, lt)))
taken_by m r false lt is =
    let same : take m r ≡ r = take_all m r (omega (arith, within line_most (length r) is, lt)) in
    (ap is_too_long same, λ short. same)

limit_by : (m : ℕ) (r : List ℕ) (long : Bool) → is_too_long r ≡ long → is_too_long (take m r) ≡ is_too_long r → (is_too_long r ≡ false → take m r ≡ r) → within_limit (take m r) ≡ within_limit r
limit_by m r true is same short =
    let also : is_too_long (take m r) ≡ true = same ∙ is in
    rw (also, is) refl
limit_by m r false is same short = ap within_limit (short is)

limit_same : (m : ℕ) (r : List ℕ) → line_most < m → within_limit (take m r) ≡ within_limit r
limit_same m r lt =
    let t = taken_by m r (is_too_long r) lt refl in
    limit_by m r (is_too_long r) refl t.0 t.1

blank_by : (m : ℕ) (r : List ℕ) (long : Bool) → is_too_long r ≡ long → is_too_long (take m r) ≡ is_too_long r → (is_too_long r ≡ false → take m r ≡ r) → is_blank_line (take m r) ≡ is_blank_line r
blank_by m r true is same short =
    let also : is_too_long (take m r) ≡ true = same ∙ is in
    rw (also, is) refl
blank_by m r false is same short = ap is_blank_line (short is)

blank_same : (m : ℕ) (r : List ℕ) → line_most < m → is_blank_line (take m r) ≡ is_blank_line r
blank_same m r lt =
    let t = taken_by m r (is_too_long r) lt refl in
    blank_by m r (is_too_long r) refl t.0 t.1

pub blank_kept : (line : List ℕ) → is_blank_line (take most_kept line) ≡ is_blank_line line
blank_kept line = blank_same most_kept line (omega arith)

-- ---- the first space
abbrev Halves : Type 0
Halves = List ℕ × List ℕ

abbrev behind : ℕ → Halves → Halves
behind b p = (b ∷ p.0, p.1)

abbrev cut_if : ℕ → Bool → Halves → Option Halves
cut_if k test p = if test then Some (p.0, take (k - suc (length p.0)) p.1) else None

abbrev cut_at : ℕ → Option Halves → Option Halves
cut_at k None = None
cut_at k (Some p) = cut_if k (nat_lt (length p.0) k) p

cut_none : (o : Option Halves) → None ≡ cut_at zero o
cut_none None = refl
cut_none (Some p) =
    let isnt : nat_lt (length p.0) zero ≡ false = below (length p.0) zero (omega arith) in
    rw isnt refl

lt_by : (m n : ℕ) (test : Bool) → nat_lt m n ≡ test → nat_lt (suc m) (suc n) ≡ test
lt_by m n true is = above (suc m) (suc n) (omega (arith, passed m n is))
lt_by m n false is = below (suc m) (suc n) (omega (arith, within m n is))

map_if : (b : ℕ) (front x : List ℕ) (test : Bool) → option_map (behind b) (if test then Some (front, x) else None) ≡ (if test then Some (b ∷ front, x) else None)
map_if b front x true = refl
map_if b front x false = refl

over : (b k : ℕ) (o : Option Halves) → option_map (behind b) (cut_at k o) ≡ cut_at (suc k) (option_map (behind b) o)
over b k None = refl
over b k (Some p) =
    let test : nat_lt (suc (length p.0)) (suc k) ≡ nat_lt (length p.0) k = lt_by (length p.0) k (nat_lt (length p.0) k) refl in
    let minus : suc k - suc (suc (length p.0)) ≡ k - suc (length p.0) = omega arith in
    map_if b p.0 (take (k - suc (length p.0)) p.1) (nat_lt (length p.0) k)
    ∙ ap (λ n. if nat_lt (length p.0) k then Some (b ∷ p.0, take n p.1) else None) (sym minus)
    ∙ ap (λ t. if t then Some (b ∷ p.0, take (suc k - suc (suc (length p.0))) p.1) else None) (sym test)

at_once : (k : ℕ) (line : List ℕ) → Some ([], take k line) ≡ cut_at (suc k) (Some ([], line))
at_once k line =
    let test : nat_lt 0 (suc k) ≡ true = above 0 (suc k) (omega arith) in
    let minus : suc k - 1 ≡ k = omega arith in
    rw (test, minus) refl

cut_space : (k : ℕ) (line : List ℕ) → at_space (take k line) ≡ cut_at k (at_space line)
cut_space zero line = cut_none (at_space line)
cut_space (suc k) [] = refl
cut_space (suc k) (b ∷ line) =
    ap (λ o. if b == 32 then Some ([], take k line) else option_map (behind b) o) (cut_space k line) ∙ by_test (b == 32)
  where
    by_test : (test : Bool) → (if test then Some ([], take k line) else option_map (behind b) (cut_at k (at_space line)))
        ≡ cut_at (suc k) (if test then Some ([], line) else option_map (behind b) (at_space line))
    by_test true = at_once k line
    by_test false = over b k (at_space line)

-- ---- what is said to the line
by_asking : (p : Setting) (there : Option Session) (asks : Asking) (l m text : List ℕ) (at_fault : Bool) (after : Option Session) → within_limit l ≡ within_limit m
    → UnderBy p there asks l text at_fault after → UnderBy p there asks m text at_fault after
by_asking p None asks l m text at_fault after same h = h
by_asking p (Some s) (asking.Open ue) l m text at_fault after same h = h
by_asking p (Some s) asking.Renew l m text at_fault after same h = h
by_asking p (Some s) asking.Lines l m text at_fault after same h = h
by_asking p (Some s) asking.End l m text at_fault after same h = h
by_asking p (Some s) (asking.Fault why) l m text at_fault after same h = h
by_asking p (Some s) asking.Script l m text at_fault after same h =
    (h.0, subst (λ o. AnswersDue (DueWithin o) s.setting s.standing text at_fault h.0) same h.1, h.2)

under_same : (p : Setting) (there : Option Session) (l m text : List ℕ) (at_fault : Bool) (after : Option Session) → within_limit l ≡ within_limit m
    → UnderName p there l text at_fault after → UnderName p there m text at_fault after
under_same p there l m text at_fault after same h =
    by_asking p there (asked_of m) l m text at_fault after same
    (subst (λ k. UnderBy p there k l text at_fault after) (ap asked_within same) h)

-- a line for a name, of which so much is kept
for_none : (k : ℕ) (test : Bool) (p : Halves) → is_session_name p.0 ≡ false → option_and_then for_session (cut_if k test p) ≡ for_session p
for_none k true p isnt = rw isnt refl
for_none k false p isnt = rw isnt refl

for_name : (p : Setting) (old new : List ℕ → Option Session) (name kept rest : List ℕ) (said : Said) (blank : Bool) → is_session_name name ≡ true → is_blank_line kept ≡ blank → is_blank_line rest ≡ blank → within_limit kept ≡ within_limit rest
    → SaysTo p old (for_session (name, kept)) said new → SaysTo p old (for_session (name, rest)) said new
for_name p old new name kept rest said true is blank also same h =
    let own = rw (is, blank) at h in
    rw (is, also) own
for_name p old new name kept rest said false is blank also same h =
    let own = rw (is, blank) at h in
    rw (is, also) (own.0, under_same p (old name) kept rest said.text said.at_fault (new name) same own.1, own.2)

by_name : (p : Setting) (old new : List ℕ → Option Session) (halves : Halves) (said : Said) (named : Bool) → is_session_name halves.0 ≡ named
    → SaysTo p old (option_and_then for_session (cut_at most_kept (Some halves))) said new → SaysTo p old (for_session halves) said new
by_name p old new halves said false isnt h =
    subst (λ o. SaysTo p old o said new) (for_none most_kept (nat_lt (length halves.0) most_kept) halves isnt) h
by_name p old new halves said true is h =
    let few = (session_names halves.0 is).1 in
    let fits : nat_lt (length halves.0) most_kept ≡ true = above (length halves.0) most_kept (omega (arith, few)) in
    let room : line_most < most_kept - suc (length halves.0) = omega (arith, few) in
    let kept = take (most_kept - suc (length halves.0)) halves.1 in
    let own : SaysTo p old (for_session (halves.0, kept)) said new =
    subst (λ t. SaysTo p old (option_and_then for_session (cut_if most_kept t halves)) said new) fits h in
    for_name p old new halves.0 kept halves.1 said (is_blank_line halves.1) is (blank_same (most_kept - suc (length halves.0)) halves.1 room) refl
    (limit_same (most_kept - suc (length halves.0)) halves.1 room) own

by_space : (p : Setting) (old new : List ℕ → Option Session) (halves : Option Halves) (said : Said) → SaysTo p old (option_and_then for_session (cut_at most_kept halves)) said new
    → SaysTo p old (option_and_then for_session halves) said new
by_space p old new None said h = h
by_space p old new (Some halves) said h = by_name p old new halves said (is_session_name halves.0) refl h

pub says_same : (p : Setting) (old new : List ℕ → Option Session) (kept line : List ℕ) (said : Said) → kept ≡ take most_kept line → SaysTo p old (addressed kept) said new → SaysTo p old (addressed line) said new
says_same p old new kept line said is h =
    by_space p old new (at_space line) said
    (subst (λ o. SaysTo p old (option_and_then for_session o) said new) (ap at_space is ∙ cut_space most_kept line) h)
