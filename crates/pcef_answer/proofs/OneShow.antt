-- Whichever table shows the newest generation, `show` answers the same.
use Rattle.std.proofs.Common.{◌≡◌, ◌∙◌, ℕ, List, sym, ap, map}
use Rattle.serde_json.specs.Data.{string, array}
use Rattle.serde_json.specs.View.{items_of}
use Rattle.serde_json.specs.Written.{compact_text}
use Rattle.pcef_model.specs.Setting.{Setting}
use Rattle.pcef_model.specs.Entries.{Journal}
use Rattle.pcef_model.specs.Journals.{gen, now, slots}
use Rattle.pcef_bearer.specs.Standing.{bound_of}
use Rattle.pcef_session.proofs.OneTable.{one_list}
use Rattle.pcef_answer.specs.ShowAnswers.{ShowsJournal, bearers_data, journal_key_data, session_data}

pub one_show : (p : Setting) (j : Journal) (a b : List ℕ) → ShowsJournal p j a → ShowsJournal p j b → a ≡ b
one_show p j a b (t, shows, a_is) (u, other, b_is) =
    a_is ∙ ap (λ items. compact_text (session_data (array (items_of items)) (bearers_data (bound_of (now p j) (now p j).rules)) (gen j) (array (items_of (map (journal_key_data p j) (slots p j))))))
    (one_list string p j (gen j) t u shows other) ∙ sym b_is
