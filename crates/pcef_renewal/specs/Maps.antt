-- What a renewal gives other numbers (own choice): bearers, slots, generations, reports and workers.
use Rattle.std.specs.Prelude.{ℕ, ◌≡◌, ◌+◌, ◌==◌, true, List, [], ◌∷◌, length, map, suc, if◌then◌else◌}
use Rattle.pcef_rule.specs.declared.quantity.Qos.{Qos}
use Rattle.pcef_model.specs.ActiveRules.{Active}
use Rattle.pcef_model.specs.Bearers.{default_id}
use Rattle.pcef_model.specs.Entries.{Journal, rows}
use Rattle.pcef_model.specs.Generations.{add_if_some, has_bearer}
use Rattle.pcef_model.specs.Journals.{attach_count, gen, now, report_count, slots}
use Rattle.pcef_model.specs.Lawful.{Lawful}
use Rattle.pcef_model.specs.Refusals.{was_closed}
use Rattle.pcef_model.specs.Setting.{Setting}
use Rattle.pcef_renewal.specs.declared.places.BearerNumbers.{BearerNumbers}
use Rattle.pcef_renewal.specs.Accepting.{entered}
use Rattle.pcef_renewal.specs.Renewal.{keys_on, places, renewal, rules_in_order}

-- ---- bearers (TS 23.203, clause 6.1.1.4)
-- how many numbers stand before this one
abbrev pub place_among : ℕ → List ℕ → ℕ
place_among id [] = 0
place_among id (n ∷ ns) = if id == n then 0 else suc (place_among id ns)

-- the number that the bearer with this one gets in the new session: the default bearer keeps 5, and the others get 6, 7 ..
-- in the order of their places
abbrev pub bearer_again : Setting → Journal → ℕ → ℕ
bearer_again p j id = default_id + place_among id (default_id ∷ places p j)

abbrev pub pair_again : Setting → Journal → ℕ → BearerNumbers
pair_again p j id = record { old = record { 0 = id }; new = record { 0 = bearer_again p j id } }

-- the bearers beside the default one by both numbers
abbrev pub bearers_again : Setting → Journal → List BearerNumbers
bearers_again p j = map (pair_again p j) (places p j)

abbrev pub BearersAreRenumbered : Type 0
BearersAreRenumbered = (p : Setting) (j : Journal) → Lawful p j → (q : Qos) → has_bearer p (now p j).rules q ≡ true →
    (now p (entered (renewal p j) [])).id_of q ≡ bearer_again p j ((now p j).id_of q)

-- ---- slots (own choice)
-- the keys of rules that follow those that are there already
abbrev pub with_keys : List (List ℕ) → List Active → List (List ℕ)
with_keys keys [] = keys
with_keys keys (r ∷ rules) = with_keys (add_if_some r.properties.key keys) rules

-- the keys that have a slot in the new session, in the order of slots: those that are on, and those of rules
abbrev pub slots_again : Setting → Journal → List (List ℕ)
slots_again p j = with_keys (keys_on p j) (rules_in_order p j)

abbrev pub SlotsAreRenumbered : Type 0
SlotsAreRenumbered = (p : Setting) (j : Journal) → Lawful p j → slots p (entered (renewal p j) []) ≡ slots_again p j

-- ---- what is counted anew
-- a generation for each key that is on, for each active rule, and for a Close
abbrev pub generations_again : Setting → Journal → ℕ
generations_again p j = length (keys_on p j) + length (now p j).rules + (if was_closed j then 1 else 0)

-- k is the journal of the new session: its rows, its reports and its workers are counted from 0
pub record BeginsAnew (p : Setting) (j k : Journal) : Type 0 where
  pub no_rows : rows k ≡ []
  pub no_reports : report_count k ≡ 0
  pub no_workers : attach_count k ≡ 0
  pub generations : gen k ≡ generations_again p j

abbrev pub CountsBeginAnew : Type 0
CountsBeginAnew = (p : Setting) (j : Journal) → Lawful p j → BeginsAnew p j (entered (renewal p j) [])

-- ---- once more
-- the renewal of a new session that took one is the same list
abbrev pub RenewalsComeAgain : Type 0
RenewalsComeAgain = (p : Setting) (j : Journal) → Lawful p j → renewal p (entered (renewal p j) []) ≡ renewal p j
