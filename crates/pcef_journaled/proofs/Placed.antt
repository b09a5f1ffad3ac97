-- Kept rows, as names are added.
use Rattle.std.proofs.Common.{◌≡◌, ◌∙◌, ap, refl, ℕ, List, [], ◌∷◌, ◌++◌, length, arith, length-append}
use Rattle.std.proofs.lemmas.List.{get_or_append_left, map-append, reverse-append}
use Rattle.pcef_model.specs.declared.row.Row.{Row}
use Rattle.std.specs.Prelude.{reverse}
use Rattle.pcef_journaled.specs.declared.kept_row.KeptRow.{KeptRow}
use Rattle.pcef_journaled.specs.declared.kept_row.KeptVerdict.{KeptVerdict}
use Rattle.pcef_journaled.specs.declared.kept_row.KeptVerdict.TheVariants.{Stray, Unmatched, Gated, Passed}
use Rattle.pcef_model.specs.declared.verdict.Verdict.TheVariants as verdict
use Rattle.pcef_journaled.specs.KeptRows.{ArePlaced, HasPlaceBelow, row_of_kept, rows_of, verdict_of_kept}

module _ (names more : List (List ℕ)) where
  verdict_stays : (place : ℕ) (v : KeptVerdict) → HasPlaceBelow (length names) place v → verdict_of_kept (names ++ more) place v ≡ verdict_of_kept names place v
  verdict_stays place Stray placed = refl
  verdict_stays place Unmatched placed = refl
  verdict_stays place Gated placed = ap verdict.Gated (get_or_append_left names more [] place placed)
  verdict_stays place (Passed bearer) placed = ap (λ n. verdict.Passed n bearer) (get_or_append_left names more [] place placed)

  placed_stays : (place : ℕ) (v : KeptVerdict) → HasPlaceBelow (length names) place v → HasPlaceBelow (length (names ++ more)) place v
  placed_stays place Stray placed = tt
  placed_stays place Unmatched placed = tt
  placed_stays place Gated placed = omega (arith, length-append names more)
  placed_stays place (Passed bearer) placed = omega (arith, length-append names more)

  row_stays : (r : KeptRow) → HasPlaceBelow (length names) r.rule r.verdict → row_of_kept (names ++ more) r ≡ row_of_kept names r
  row_stays r placed =
      ap (λ v. let row : Row = record { worker = r.worker; seq = r.seq; generation = r.generation; header = r.header; verdict = v } in row) (verdict_stays r.rule r.verdict placed)

  pub rows_stay : (kept : List KeptRow) → ArePlaced (length names) kept → rows_of (names ++ more) kept ≡ rows_of names kept
  rows_stay [] placed = refl
  rows_stay (r ∷ kept) placed = ap2 (row_stays r placed.0) (rows_stay kept placed.1)
    where
      ap2 : {r r2 : Row} {rs rs2 : List Row} → r ≡ r2 → rs ≡ rs2 → r ∷ rs ≡ r2 ∷ rs2
      ap2 p q = cc

  -- one more row is placed behind the others
  pub all_placed : (kept : List KeptRow) (r : KeptRow) → ArePlaced (length names) kept → HasPlaceBelow (length (names ++ more)) r.rule r.verdict →
      ArePlaced (length (names ++ more)) (kept ++ r ∷ [])
  all_placed [] r placed last = (last, tt)
  all_placed (k ∷ kept) r placed last = (placed_stays k.rule k.verdict placed.0, all_placed kept r placed.1 last)

  -- and they stand for one more row
  pub one_more_row : (kept : List KeptRow) (r : KeptRow) → ArePlaced (length names) kept →
      reverse (rows_of (names ++ more) (kept ++ r ∷ [])) ≡ row_of_kept (names ++ more) r ∷ reverse (rows_of names kept)
  one_more_row kept r placed =
      ap reverse (map-append (row_of_kept (names ++ more)) kept (r ∷ [])) ∙ reverse-append (rows_of (names ++ more) kept) (row_of_kept (names ++ more) r ∷ [])
      ∙ ap (λ rs. row_of_kept (names ++ more) r ∷ reverse rs) (rows_stay kept placed)
