-- Each line is in one thread's part.
use Rattle.std.proofs.Common.{◌≡◌, ◌∙◌, ◌==◌, ℕ, Bool, true, false, List, [], ◌∷◌, ◌++◌, refl, sym, ap}
use Rattle.std.specs.Prelude.{filter, if◌then◌else◌}
use Rattle.std.proofs.lemmas.List.Elements.{filter-append}
use Rattle.std.proofs.lemmas.Nat.{mod_below}
use Rattle.std.specs.Hash.DefaultHasher.{finish, write}
use Rattle.std.specs.RandomState.{initial_hasher}
use Rattle.pcef_script.specs.ScriptAnswers.{answered}
use Rattle.pcef_script.specs.ScriptLines.{is_blank_line}
use Rattle.pcef_script.specs.Scripts.{ended_lines, last_line}
use Rattle.pcef_script.proofs.Answering.{answered_blank, answered_more, answered_one}
use Rattle.pcef_shards.specs.Parts.{last_part}
use Rattle.pcef_shards.specs.Picks.{front_of, thread_of}
use Rattle.pcef_shards.specs.Sharing.{LinesHaveThreads, PartsHaveTheirLines}
use Rattle.pcef_shards.proofs.Names.{Pick, chosen, part_lines}

pub a_thread : LinesHaveThreads
a_thread keys threads line some = mod_below (finish (write (initial_hasher keys) (front_of line))) threads some

abbrev goes : Pick → ℕ → List ℕ → Bool
goes pick t line = pick line == t

-- of the lines that are answered, those that go to a thread
abbrev own : Pick → ℕ → List (List ℕ) → List (List ℕ)
own pick t lines = filter (goes pick t) (answered lines)

own_more : (pick : Pick) (t : ℕ) (lines more : List (List ℕ)) → own pick t (lines ++ more) ≡ own pick t lines ++ own pick t more
own_more pick t lines more = ap (filter (goes pick t)) (answered_more lines more) ∙ filter-append (goes pick t) (answered lines) (answered more)

-- ---- one line
one_mine : (pick : Pick) (t : ℕ) (line : List ℕ) (blank : Bool) → goes pick t line ≡ true → is_blank_line line ≡ blank → answered (line ∷ []) ≡ own pick t (line ∷ [])
one_mine pick t line true mine is = answered_blank line is ∙ sym (ap (filter (goes pick t)) (answered_blank line is))
one_mine pick t line false mine isnt =
    let kept : filter (goes pick t) (line ∷ []) ≡ line ∷ [] = rw mine refl in
    answered_one line isnt ∙ sym (ap (filter (goes pick t)) (answered_one line isnt) ∙ kept)

one_other : (pick : Pick) (t : ℕ) (line : List ℕ) (blank : Bool) → goes pick t line ≡ false → is_blank_line line ≡ blank → [] ≡ own pick t (line ∷ [])
one_other pick t line true other is = sym (ap (filter (goes pick t)) (answered_blank line is))
one_other pick t line false other isnt =
    let none : filter (goes pick t) (line ∷ []) ≡ [] = rw other refl in
    sym (ap (filter (goes pick t)) (answered_one line isnt) ∙ none)

-- ---- the lines that ended
next : (pick : Pick) (t : ℕ) (line : List ℕ) (lines : List (List ℕ)) (mine : Bool) → goes pick t line ≡ mine → answered (chosen pick t lines) ≡ own pick t lines
    → answered (if mine then line ∷ chosen pick t lines else chosen pick t lines) ≡ own pick t (line ∷ lines)
next pick t line lines true is rest =
    answered_more (line ∷ []) (chosen pick t lines) ∙ ap (λ l. l ++ answered (chosen pick t lines)) (one_mine pick t line (is_blank_line line) is refl)
    ∙ ap (λ l. own pick t (line ∷ []) ++ l) rest ∙ sym (own_more pick t (line ∷ []) lines)
next pick t line lines false isnt rest =
    rest ∙ ap (λ l. l ++ own pick t lines) (one_other pick t line (is_blank_line line) isnt refl) ∙ sym (own_more pick t (line ∷ []) lines)

own_lines : (pick : Pick) (t : ℕ) (lines : List (List ℕ)) → answered (chosen pick t lines) ≡ own pick t lines
own_lines pick t [] = refl
own_lines pick t (line ∷ lines) = next pick t line lines (goes pick t line) refl (own_lines pick t lines)

-- ---- the last line
own_last : (pick : Pick) (t : ℕ) (line : List ℕ) (mine : Bool) → goes pick t line ≡ mine → answered ((if mine then line else []) ∷ []) ≡ own pick t (line ∷ [])
own_last pick t line true is = one_mine pick t line (is_blank_line line) is refl
own_last pick t line false isnt = answered_blank [] refl ∙ one_other pick t line (is_blank_line line) isnt refl

pub own_part : PartsHaveTheirLines
own_part keys threads t input =
    let pick = thread_of keys threads in
    let ended = ended_lines input in
    let last = last_line input in
    ap answered (part_lines pick t input) ∙ answered_more (chosen pick t ended) (last_part pick t last ∷ [])
    ∙ ap (λ l. l ++ answered (last_part pick t last ∷ [])) (own_lines pick t ended)
    ∙ ap (λ l. own pick t ended ++ l) (own_last pick t last (goes pick t last) refl)
    ∙ sym (own_more pick t ended (last ∷ []))
