-- The usage that CCRs tell is that of the session.
use Rattle.std.specs.Prelude.{ℕ, ◌≡◌, ◌++◌, ◌+◌, ◌≤◌, List, [], ◌∷◌, length, reverse, sum_by, take}
use Rattle.pcef_model.specs.Entries.{Journal, reports}
use Rattle.pcef_model.specs.Journals.{octets_of_report, report_count, reported}
use Rattle.pcef_model.specs.declared.entry.Entry.{Entry}
use Rattle.pcef_model.specs.declared.report.Report.{Report}
use Rattle.pcef_gx_updates.specs.Updates.{untold}

-- the CC-Total-Octets of a key in a CCR that tells these reports
abbrev pub octets_told : List ℕ → List Report → ℕ
octets_told key rs = sum_by (λ r. octets_of_report key r.body) rs

-- CCRs, one after the other
abbrev pub joined : List (List Report) → List Report
joined [] = []
joined (run ∷ runs) = run ++ joined runs

abbrev pub octets_in_all : List ℕ → List (List Report) → ℕ
octets_in_all key runs = sum_by (octets_told key) runs

-- When CCRs have told all reports of a session, one after the other, their octets of a key add up to the reported ones
-- (TS 29.212, clause 4.5.16).
abbrev pub UsageAddsUp : Type 0
UsageAddsUp =
    (j : Journal) (key : List ℕ) (runs : List (List Report)) → joined runs ≡ reverse (reports j) → octets_in_all key runs ≡ reported j key

-- What a CCR tells goes on from what was told, and what was told stays as it was when the session goes on.
abbrev pub TellingGoesOn : Type 0
TellingGoesOn =
    (j : Journal) (told : ℕ) →
    told ≤ report_count j → take told (reverse (reports j)) ++ untold j told ≡ take (told + length (untold j told)) (reverse (reports j))

abbrev pub ToldStays : Type 0
ToldStays =
    (j : Journal) (e : Entry) (told : ℕ) → told ≤ report_count j → take told (reverse (reports (e ∷ j))) ≡ take told (reverse (reports j))
