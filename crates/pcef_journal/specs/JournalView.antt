-- A journal of which counts are kept, and its reports, oldest first.
use Rattle.std.specs.Prelude.{◌≡◌, ◌-◌, ◌^◌, ◌≤◌, ℕ, drop, length, min, reverse, vec_len, vec_capacity}
use Rattle.pcef_model.specs.Entries.{commands, reports, rows}
use Rattle.pcef_journal.specs.declared.journal.Journal.TheInside.{Inside}
use Rattle.pcef_journal.specs.KeptJournal.{KeptJournal}

-- how many more a counter can count
abbrev pub count_left : ℕ → ℕ
count_left count = 2 ^ 64 - 1 - count

abbrev pub kept_journal : Inside → KeptJournal
kept_journal j =
    record {
      entries = j.history.items;
      forgotten = j.forgotten;
      room = min (vec_capacity j.reports - vec_len j.reports) (min (count_left j.commands) (min (count_left j.rows) (count_left j.report_total)));
    }

-- the counts are those of the entries, and the reports those behind the forgotten ones
pub record CountsAgree (j : Inside) : Type 0 where
  pub commands_are : length (commands j.history.items) ≡ j.commands
  pub rows_are : length (rows j.history.items) ≡ j.rows
  pub report_total_is : length (reports j.history.items) ≡ j.report_total
  pub few_forgotten : j.forgotten ≤ j.report_total
  pub reports_are : drop j.forgotten (reverse (reports j.history.items)) ≡ j.reports.items
