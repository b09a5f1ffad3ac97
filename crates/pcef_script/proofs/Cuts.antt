-- The lines of an input, as its bytes come.
use Rattle.std.proofs.Common.{◌≡◌, ◌≢◌, ℕ, Bool, true, false, cond, eqb, List, [], ◌∷◌, ◌++◌, refl, sym, ap, ◌∙◌, append_assoc, append-nil}
use Rattle.std.specs.Prelude.{◌==◌}
use Rattle.std.proofs.lemmas.Bool.{eqb-false, ne_eqb, or_parts}
use Rattle.pcef_script.specs.ScriptLines.{has_feed}
use Rattle.pcef_script.specs.Scripts.{cut, ended_lines, joined, last_line}

before_plain : (is_end : Bool) (x : ℕ) (lines : List (List ℕ)) (last : List ℕ) (b : ℕ)
    → cond is_end ([] ∷ lines, last ++ b ∷ []) (joined x lines (last ++ b ∷ []))
    ≡ ((cond is_end ([] ∷ lines, last) (joined x lines last)).0, (cond is_end ([] ∷ lines, last) (joined x lines last)).1 ++ b ∷ [])
before_plain true x lines last b = refl
before_plain false x [] last b = refl
before_plain false x (line ∷ lines) last b = refl

before_end : (is_end : Bool) (x : ℕ) (lines : List (List ℕ)) (last : List ℕ)
    → cond is_end ([] ∷ (lines ++ last ∷ []), []) (joined x (lines ++ last ∷ []) [])
    ≡ ((cond is_end ([] ∷ lines, last) (joined x lines last)).0 ++ (cond is_end ([] ∷ lines, last) (joined x lines last)).1 ∷ [], [])
before_end true x lines last = refl
before_end false x [] last = refl
before_end false x (line ∷ lines) last = refl

-- a byte that is no line feed goes to the last line
pub cut_plain : (input : List ℕ) (b : ℕ) → b ≢ 10 → cut (input ++ b ∷ []) ≡ (ended_lines input, last_line input ++ b ∷ [])
unfolding cut
cut_plain [] b ne = rw (ne_eqb b 10 ne) refl
cut_plain (x ∷ input) b ne = rw (cut_plain input b ne) (before_plain (eqb x 10) x (cut input).0 (cut input).1 b)

-- a line feed ends the last line
pub cut_end : (input : List ℕ) → cut (input ++ 10 ∷ []) ≡ (ended_lines input ++ last_line input ∷ [], [])
unfolding cut
cut_end [] = refl
cut_end (x ∷ input) = rw (cut_end input) (before_end (eqb x 10) x (cut input).0 (cut input).1)

-- and so do many of them
pub cut_run : (input run : List ℕ) → has_feed run ≡ false → cut (input ++ run) ≡ (ended_lines input, last_line input ++ run)
unfolding cut
cut_run input [] none = rw (append-nil input, append-nil (last_line input)) refl
cut_run input (b ∷ run) none =
    let parts = or_parts (b == 10) (has_feed run) none in
    let one = cut_plain input b (eqb-false b 10 parts.0) in
    ap cut (sym (append_assoc input (b ∷ []) run)) ∙ cut_run (input ++ b ∷ []) run parts.1
    ∙ ap (λ (c : List (List ℕ) × List ℕ). (c.0, c.1 ++ run)) one
    ∙ ap (λ l. (ended_lines input, l)) (append_assoc (last_line input) (b ∷ []) run)
