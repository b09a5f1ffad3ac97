-- A grant of 2^64 - 1 octets is not reached.
use Rattle.std.proofs.Common.{◌≡◌, ◌≤◌, ◌<◌, ◌*◌, ◌^◌, ℕ, Bool, false, List, [], ◌∷◌, Some, All, length, arith, inl, inr}
use Rattle.std.proofs.lemmas.Bool.{and_right, cases_Bool, lt-leb}
use Rattle.std.proofs.lemmas.List.Elements.{All-head, All-tail}
use Rattle.pcef_model.specs.declared.row.Row.{Row}
use Rattle.pcef_model.specs.Commands.{is_among}
use Rattle.pcef_model.specs.Entries.{Journal, rows}
use Rattle.pcef_model.specs.Journals.{counts, grant, now, octets_of, unreported}
use Rattle.pcef_model.specs.Lawful.{Lawful}
use Rattle.pcef_model.specs.Reports.{is_reached, is_reached_by}
use Rattle.pcef_model.specs.Setting.{Setting}
use Rattle.pcef_model.proofs.LawfulRows.{rows_are_within}
use Rattle.pcef_renewal.specs.Reaching.{HasSmallRows}
use Rattle.pcef_renewal.specs.Renewal.{out_of_reach}

few_octets : (test : Row → Bool) (rs : List Row) → All (λ (r : Row). r.header.octets < 2 ^ 32) rs → octets_of test rs ≤ length rs * 4294967295
unfolding octets_of
few_octets test [] small = omega arith
few_octets test (r ∷ rs) small =
    let rest = few_octets test rs (All-tail (λ (r : Row). r.header.octets < 2 ^ 32) r rs small) in
    let one = All-head (λ (r : Row). r.header.octets < 2 ^ 32) r rs small in
    elim (cases_Bool (test r)) [ inl is ↦ rw is (omega (arith, rest, one)) | inr isnt ↦ rw isnt (omega (arith, rest)) ]

below : (n : ℕ) → n ≤ 4294967295 → n * 4294967295 < 18446744073709551615
below n few = omega (arith, few)

pub not_reached : (p : Setting) (j : Journal) → Lawful p j → HasSmallRows p j → (key : List ℕ) → grant j key ≡ Some out_of_reach → is_reached p j key ≡ false
not_reached p j lawful rows_small key is =
    let octets = few_octets (counts p j key) (rows j) rows_small.small in
    let few = rows_are_within p j lawful in
    let size = below (length (rows j)) (omega (arith, few, rows_small.few)) in
    let less : unreported p j key < out_of_reach = omega (arith, octets, size) in
    and_right (is_among key (now p j).on) (is_reached_by (grant j key) (unreported p j key))
    (rw is (lt-leb out_of_reach (unreported p j key) less))
