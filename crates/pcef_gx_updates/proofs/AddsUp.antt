-- What CCRs tell adds up.
use Rattle.std.proofs.Common.{◌≡◌, ◌∙◌, ◌+◌, ◌++◌, ℕ, List, [], ◌∷◌, drop, length, min, reverse, take, refl, sym, ap}
use Rattle.std.proofs.Math.Seq.{take-add}
use Rattle.std.proofs.lemmas.List.{length-take, take_min}
use Rattle.pcef_gx_updates.specs.Updates.{most_reports}
use Rattle.std.proofs.lemmas.List.Sums.{sum_by-append, sum_by-cons}
use Rattle.std.proofs.lemmas.List.Sorted.{IsPermutation-reverse, sum_by-IsPermutation}
use Rattle.pcef_model.specs.Entries.{Journal, reports}
use Rattle.pcef_model.specs.Journals.{octets_of_report, reported}
use Rattle.pcef_model.specs.declared.entry.Entry.TheVariants as entry
use Rattle.pcef_model.specs.declared.report.Report.{Report}
use Rattle.pcef_gx_updates.specs.Laws.{TellingGoesOn, UsageAddsUp, joined, octets_in_all, octets_told}

in_all : (key : List ℕ) (runs : List (List Report)) → octets_in_all key runs ≡ octets_told key (joined runs)
in_all key [] = refl
in_all key (run ∷ runs) =
    sum_by-cons (octets_told key) run runs ∙ ap (λ n. octets_told key run + n) (in_all key runs)
    ∙ sym (sum_by-append (λ r. octets_of_report key r.body) run (joined runs))

all_reported : (j : Journal) (key : List ℕ) → octets_told key (reports j) ≡ reported j key
unfolding reported
all_reported [] key = refl
all_reported (entry.Report r ∷ before) key =
    sum_by-cons (λ r. octets_of_report key r.body) r (reports before) ∙ ap (λ n. octets_of_report key r.body + n) (all_reported before key)
all_reported (entry.Command c ∷ before) key = all_reported before key
all_reported (entry.Row r ∷ before) key = all_reported before key
all_reported (entry.Attach w ∷ before) key = all_reported before key
all_reported (entry.Leave w ∷ before) key = all_reported before key

pub adds_up : UsageAddsUp
adds_up j key runs all =
    in_all key runs ∙ ap (octets_told key) all ∙ sum_by-IsPermutation (λ r. octets_of_report key r.body) (reports j) (reverse (reports j)) (IsPermutation-reverse (reports j)) ∙ all_reported j key

pub goes_on : TellingGoesOn
goes_on j told few =
    let all = reverse (reports j) in
    let rest = drop told all in
    let count : length (take most_reports rest) ≡ min most_reports (length rest) = length-take most_reports rest in
    sym (take-add told (length (take most_reports rest)) all ∙ ap (λ front. take told all ++ front) (ap (λ n. take n rest) count ∙ take_min most_reports rest))
