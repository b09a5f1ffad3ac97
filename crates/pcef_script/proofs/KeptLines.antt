-- What is kept of a line as its bytes come.
use Rattle.std.proofs.Common.{◌≡◌, ◌∙◌, ℕ, ◌<◌, ◌≤◌, ◌-◌, Bool, true, false, List, [], ◌∷◌, ◌++◌, length, take, nat_lt, min, refl, sym, ap, arith, append-nil}
use Rattle.std.specs.Prelude.{Some}
use Rattle.std.specs.List.{list_all}
use Rattle.std.proofs.lemmas.Bool.{false≢true}
use Rattle.std.proofs.lemmas.Bool.Decides.{nat_tests}
use Rattle.std.proofs.lemmas.List.{length-append, length-take, take_all, take-append-le}
use Rattle.pcef_script.specs.ScriptLines.{KeptLine, IsKept, kept_of, line_most, is_blank_line, is_too_long, is_space, within_limit}

abbrev pub kept_at_read : List ℕ → Bool → ℕ → KeptLine
kept_at_read bytes flag n = record { bytes = bytes; is_too_long = flag; read = n }

below : (most n : ℕ) → n ≤ most → nat_lt most n ≡ false
below most n le = grind (arith, nat_tests)

above : (most n : ℕ) → most < n → nat_lt most n ≡ true
above most n lt = grind (arith, nat_tests)

within : (most n : ℕ) → nat_lt most n ≡ false → n ≤ most
within most n isnt = grind (arith, nat_tests)

-- what is kept is shorter than may be: it is the whole line
whole : (most : ℕ) (bytes line : List ℕ) → bytes ≡ take most line → length bytes < most → bytes ≡ line
whole most bytes line is lt =
    let short : min most (length line) < most = omega (arith, lt, ap length is ∙ length-take most line) in
    is ∙ take_all most line (omega (arith, short))

pub one_more : (bytes line : List ℕ) (flag : Bool) (b : ℕ) → IsKept bytes flag line → length bytes < line_most → IsKept (bytes ++ b ∷ []) flag (line ++ b ∷ [])
one_more bytes line flag b kept lt =
    let same = whole line_most bytes line kept.0 lt in
    let short : length (line ++ b ∷ []) ≤ line_most = omega (arith, lt, ap length same, length-append line (b ∷ [])) in (
      ap (λ l. l ++ b ∷ []) same ∙ sym (take_all line_most (line ++ b ∷ []) short),
      kept.1 ∙ below line_most (length line) (omega (arith, lt, ap length same)) ∙ sym (below line_most (length (line ++ b ∷ [])) short),
    )

-- as many more bytes as there is room for
pub some_more : (bytes line run : List ℕ) (flag : Bool) → IsKept bytes flag line → length run ≤ line_most - length bytes → IsKept (bytes ++ run) flag (line ++ run)
some_more bytes line [] flag kept le = (append-nil bytes ∙ kept.0 ∙ ap (take line_most) (sym (append-nil line)), kept.1 ∙ ap is_too_long (sym (append-nil line)))
some_more bytes line (b ∷ run) flag kept le =
    let lt : length bytes < line_most = omega (arith, le) in
    let same = whole line_most bytes line kept.0 lt in
    let short : length (line ++ b ∷ run) ≤ line_most = omega (arith, le, ap length same, length-append line (b ∷ run)) in (
      ap (λ l. l ++ b ∷ run) same ∙ sym (take_all line_most (line ++ b ∷ run) short),
      kept.1 ∙ below line_most (length line) (omega (arith, lt, ap length same)) ∙ sym (below line_most (length (line ++ b ∷ run)) short),
    )

passed : (most n : ℕ) → nat_lt most n ≡ true → most < n
passed most n is = grind (arith, nat_tests)

-- bytes after a line that is too long already
pub some_dropped : (bytes line run : List ℕ) (flag : Bool) → IsKept bytes flag line → flag ≡ true → IsKept bytes flag (line ++ run)
some_dropped bytes line run flag kept is =
    let long = passed line_most (length line) (sym kept.1 ∙ is) in
    let longer : line_most < length (line ++ run) = omega (arith, long, length-append line run) in
    (kept.0 ∙ sym (take-append-le line_most line run (omega (arith, long))), is ∙ sym (above line_most (length (line ++ run)) longer))

pub kept_by : (bytes line : List ℕ) (flag : Bool) (n : ℕ) → IsKept bytes flag line → kept_at_read bytes flag n ≡ kept_of line n
kept_by bytes line flag n kept = rw (kept.0, kept.1) refl

pub no_more : (bytes line : List ℕ) (flag : Bool) (b : ℕ) → IsKept bytes flag line → line_most ≤ length bytes → IsKept bytes true (line ++ b ∷ [])
no_more bytes line flag b kept le =
    let long : line_most ≤ length line = omega (arith, le, ap length kept.0 ∙ length-take line_most line) in
    let longer : line_most < length (line ++ b ∷ []) = omega (arith, long, length-append line (b ∷ [])) in
    (kept.0 ∙ sym (take-append-le line_most line (b ∷ []) long), sym (above line_most (length (line ++ b ∷ [])) longer))

pub kept_is : (k : KeptLine) (line : List ℕ) (n : ℕ) → k ≡ kept_of line n → IsKept k.bytes k.is_too_long line
kept_is k line n is = (ap (λ k. k.bytes) is, ap (λ k. k.is_too_long) is)

-- a line that isn't too long is kept whole
kept_whole : (bytes line : List ℕ) → IsKept bytes false line → bytes ≡ line
kept_whole bytes line kept = kept.0 ∙ take_all line_most line (within line_most (length line) (sym kept.1))

pub kept_within : (bytes line : List ℕ) (flag : Bool) → IsKept bytes flag line → flag ≡ false → Some bytes ≡ within_limit line
kept_within bytes line true kept is = absurd (false≢true (sym is))
kept_within bytes line false kept is = rw (← kept.1, kept_whole bytes line kept) refl

pub kept_blank : (bytes line : List ℕ) (flag : Bool) → IsKept bytes flag line → flag ≡ false → list_all is_space bytes ≡ is_blank_line line
kept_blank bytes line true kept is = absurd (false≢true (sym is))
kept_blank bytes line false kept is = rw (← kept.1, kept_whole bytes line kept) refl
