-- The usage that the CCRs of a session told is that which the session reported (TS 29.212, clause 4.5.16).
use Rattle.std.specs.Prelude.{ℕ, ◌≡◌, ◌≤◌, ◌+◌, ◌++◌, true, List, [], ◌∷◌, Some, drop, length, reverse, take}
use Rattle.pcef_model.specs.Entries.{Journal, reports}
use Rattle.pcef_model.specs.Journals.{report_count, reported}
use Rattle.pcef_model.specs.declared.entry.Entry.{Entry}
use Rattle.pcef_model.specs.declared.report.Report.{Report}
use Rattle.pcef_gx_updates.specs.Laws.{joined, octets_in_all}
use Rattle.pcef_gx_updates.specs.Updates.{untold}
use Rattle.pcef_gx_dialogue.specs.Ccrs.{Ccrs, Out, answered_so, at_first}

-- the reports of a session, the oldest first
abbrev pub in_turn : Journal → List Report
in_turn j = reverse (reports j)

-- These are the reports that the CCRs told that were answered with success, CCR by CCR: the session's oldest.
pub record HasTold (j : Journal) (c : Ccrs) (runs : List (List Report)) : Type 0 where
  pub few : c.told ≤ report_count j
  pub told : joined runs ≡ take c.told (in_turn j)

-- these are the reports behind those that were told
pub record IsNext (j : Journal) (told : ℕ) (run : List Report) : Type 0 where
  pub few : told + length run ≤ report_count j
  pub next : run ≡ take (length run) (drop told (in_turn j))

-- ---- laws
abbrev pub NothingAtFirst : Type 0
NothingAtFirst = (j : Journal) → HasTold j at_first []

-- a CCR that is sent tells what is next
abbrev pub UntoldIsNext : Type 0
UntoldIsNext = (j : Journal) (told : ℕ) → told ≤ report_count j → IsNext j told (untold j told)

-- both stay so while the session goes on
abbrev pub ToldGoesOn : Type 0
ToldGoesOn = (j : Journal) (e : Entry) (c : Ccrs) (runs : List (List Report)) → HasTold j c runs → HasTold (e ∷ j) c runs

abbrev pub NextGoesOn : Type 0
NextGoesOn = (j : Journal) (e : Entry) (told : ℕ) (run : List Report) → IsNext j told run → IsNext (e ∷ j) told run

-- a CCR that is answered with success has told what it tells
abbrev pub AnsweredIsTold : Type 0
AnsweredIsTold =
    (j : Journal) (c : Ccrs) (runs : List (List Report)) (o : Out) (run : List Report) →
    HasTold j c runs → c.out ≡ Some o → o.past ≡ c.told + length run → IsNext j c.told run →
    HasTold j (answered_so true c) (runs ++ run ∷ [])

-- Where all reports are told, the octets of a key in all CCRs are those that the session reported of it.
abbrev pub OctetsAddUp : Type 0
OctetsAddUp =
    (j : Journal) (c : Ccrs) (runs : List (List Report)) (key : List ℕ) → HasTold j c runs → c.told ≡ report_count j →
    octets_in_all key runs ≡ reported j key
