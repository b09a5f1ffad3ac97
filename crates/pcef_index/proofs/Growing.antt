-- Lists that grow by one rule.
use Rattle.std.proofs.Common.{◌≡◌, ◌<◌, ◌≤◌, ◌+◌, ◌++◌, ◌∙◌, ℕ, zero, suc, List, [], ◌∷◌, Bool, true, false, length, take, get_or, ap, refl, sym, arith, append_assoc}
use Rattle.std.specs.Prelude.{if◌then◌else◌}
use Rattle.std.proofs.lemmas.List.{append-nil}
use Rattle.pcef_table.specs.declared.entry.Source.{Source}
use Rattle.pcef_index.specs.Candidates.{places_from}
use Rattle.pcef_index.specs.private.Lines.{lines_from, source_lines}

pub lines_more : (k : ℕ) (ss : List Source) (i : ℕ) (d : Source) → i < length ss → lines_from k (take (suc i) ss) ≡ lines_from k (take i ss) ++ source_lines (k + i) (get_or ss i d)
lines_more k [] i d h = absurd (omega arith)
lines_more k (s ∷ ss) zero d h =
    let same : k ≡ k + 0 = omega arith in
    append-nil (source_lines k s) ∙ ap (λ n. source_lines n s) same
lines_more k (s ∷ ss) (suc i) d h =
    let same : k + 1 + i ≡ k + suc i = omega arith in
    ap (λ l. source_lines k s ++ l) (lines_more (k + 1) ss i d (omega arith))
    ∙ ap (λ n. source_lines k s ++ (lines_from (k + 1) (take i ss) ++ source_lines n (get_or ss i d))) same
    ∙ sym (append_assoc (source_lines k s) (lines_from (k + 1) (take i ss)) (source_lines (k + suc i) (get_or ss i d)))

-- the place alone, where its rule passes
abbrev pub one_place : (Source → Bool) → ℕ → Source → List ℕ
one_place p k s = if p s then k ∷ [] else []

next_place : (p : Source → Bool) (k : ℕ) (s : Source) (l : List ℕ) → (if p s then k ∷ l else l) ≡ one_place p k s ++ l
next_place p k s l = elim (p s) as (λ b. (if b then k ∷ l else l) ≡ (if b then k ∷ [] else []) ++ l) [ true ↦ refl | false ↦ refl ]

pub places_more : (p : Source → Bool) (k : ℕ) (ss : List Source) (i : ℕ) (d : Source) → i < length ss → places_from p k (take (suc i) ss) ≡ places_from p k (take i ss) ++ one_place p (k + i) (get_or ss i d)
places_more p k [] i d h = absurd (omega arith)
places_more p k (s ∷ ss) zero d h =
    let same : k ≡ k + 0 = omega arith in
    ap (λ n. one_place p n s) same
places_more p k (s ∷ ss) (suc i) d h =
    let same : k + 1 + i ≡ k + suc i = omega arith in
    next_place p k s (places_from p (k + 1) (take (suc i) ss))
    ∙ ap (λ l. one_place p k s ++ l) (places_more p (k + 1) ss i d (omega arith))
    ∙ ap (λ n. one_place p k s ++ (places_from p (k + 1) (take i ss) ++ one_place p n (get_or ss i d))) same
    ∙ sym (append_assoc (one_place p k s) (places_from p (k + 1) (take i ss)) (one_place p (k + suc i) (get_or ss i d)))
    ∙ ap (λ l. l ++ one_place p (k + suc i) (get_or ss i d)) (sym (next_place p k s (places_from p (k + 1) (take i ss))))

-- it is one place at most
pub one_length : (p : Source → Bool) (k : ℕ) (s : Source) → length (one_place p k s) ≤ 1
one_length p k s = elim (p s) as (λ b. length (if b then k ∷ [] else []) ≤ 1) [ true ↦ omega arith | false ↦ omega arith ]
