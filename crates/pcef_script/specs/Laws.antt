-- What is answered to the lines of a script is a function of them: there is one output, one number of lines at fault, and
-- one standing of the session and its workers after it.
use Rattle.std.specs.Prelude.{ℕ, ◌≡◌, List}
use Rattle.pcef_model.specs.Setting.{Setting}
use Rattle.pcef_model.specs.Entries.{Journal}
use Rattle.pcef_world.specs.Steps.{Standing}
use Rattle.pcef_answer.specs.ShowAnswers.{ShowsJournal}
use Rattle.pcef_script.specs.ScriptAnswers.{Answers}

-- whichever table shows the newest generation, `show` answers the same
abbrev pub OneShow : Type 0
OneShow = (p : Setting) (j : Journal) (a b : List ℕ) → ShowsJournal p j a → ShowsJournal p j b → a ≡ b

abbrev pub OneScript : Type 0
OneScript =
    (p : Setting) (before : Standing) (lines : List (List ℕ)) (a b : List ℕ) (m n : ℕ) (after other : Standing)
    → Answers p before lines a m after → Answers p before lines b n other → (a ≡ b) × (m ≡ n) × (after ≡ other)
