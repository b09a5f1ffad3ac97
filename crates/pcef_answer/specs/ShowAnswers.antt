-- The answer to `show`: a JSON object (RFC 8259), its members in the order of their keys (own choice).
use Rattle.std.specs.Prelude.{ℕ, ◌≡◌, Bool, List, [], ◌∷◌, codes, length, map, Option}
use Rattle.std.specs.List.{filter_map}
use Rattle.std.specs.Option.{option_map}
use Rattle.pcef_model.specs.declared.level.Level.{Level}
use Rattle.pcef_model.specs.declared.level.Level.TheVariants.{Rule, Session}
use Rattle.serde_json.specs.Data.{Data, Members, string, boolean, array, object, member, no_members}
use Rattle.serde_json.specs.View.{items_of}
use Rattle.serde_json.specs.Written.{compact_text}
use Rattle.pcef_rule.specs.declared.quantity.Sums.{Sums}
use Rattle.pcef_table.specs.declared.entry.TableEntry.{TableEntry}
use Rattle.pcef_catalog.specs.declared.listing.Offer.{Offer}
use Rattle.pcef_table.specs.Sources.{name_of}
use Rattle.pcef_table.specs.Tables.{TableValue}
use Rattle.pcef_model.specs.Entries.{Journal}
use Rattle.pcef_model.specs.Commands.{is_among}
use Rattle.pcef_model.specs.Journals.{gen, level_of, now, reported, slots, unreported}
use Rattle.pcef_model.specs.Setting.{Setting}
use Rattle.pcef_bearer.specs.declared.bearers.Bound.{Bound}
use Rattle.pcef_bearer.specs.Bindings.{guaranteed, rules_on}
use Rattle.pcef_usage.specs.declared.usage.KeyState.{KeyState}
use Rattle.pcef_bearer.specs.Standing.{bound_of}
use Rattle.pcef_session.specs.SessionModel.{SessionModel}
use Rattle.pcef_session.specs.Shown.{Shows}
use Rattle.pcef_answer.specs.FaultAnswers.{count}

-- ---- rules
-- the name of an entry's rule
abbrev pub entry_data : List Offer → TableEntry → Data
entry_data offers e = string (name_of offers e.source)

abbrev pub active_data : List Offer → List TableEntry → Data
active_data offers entries = array (items_of (map (entry_data offers) entries))

-- ---- bearers
-- the ids that a bearer may have (own choice)
abbrev pub bearer_ids : List ℕ
bearer_ids = 5 ∷ 6 ∷ 7 ∷ 8 ∷ 9 ∷ 10 ∷ 11 ∷ 12 ∷ 13 ∷ 14 ∷ 15 ∷ []

-- a bearer: the sums of its guaranteed rates, and how many rules are on it
abbrev pub bearer_data : ℕ → ℕ → Sums → Data
bearer_data id rules sums =
    object (member (codes "down") (count sums.down)
    (member (codes "id") (count id)
    (member (codes "rules") (count rules)
    (member (codes "up") (count sums.up) no_members))))

-- the bearer of an id, where there is one
abbrev pub bearer_data_of : List Bound → ℕ → Option Data
bearer_data_of bound id = option_map (bearer_data id (length (rules_on id bound))) (guaranteed id bound)

abbrev pub bearers_data_of : List Bound → List ℕ → Data
bearers_data_of bound ids = array (items_of (filter_map (bearer_data_of bound) ids))

abbrev pub bearers_data : List Bound → Data
bearers_data bound = bearers_data_of bound bearer_ids

-- ---- keys
-- the level of a key, where it isn't that of a rule's key
abbrev pub with_level : Level → Members → Members
with_level Rule others = others
with_level Session others = member (codes "level") (string (codes "session")) others

-- a key: its level, whether it is on, and its octets
abbrev pub key_data : List ℕ → Level → Bool → ℕ → ℕ → Data
key_data key level on reported unreported =
    object (member (codes "key") (string key)
    (with_level level
    (member (codes "on") (boolean on)
    (member (codes "reported") (count reported)
    (member (codes "unreported") (count unreported) no_members)))))

abbrev pub journal_key_data : Setting → Journal → List ℕ → Data
journal_key_data p j key = key_data key (level_of (now p j) key) (is_among key (now p j).on) (reported j key) (unreported p j key)

-- ---- a session
abbrev pub session_data : Data → Data → ℕ → Data → Data
session_data active bearers generation keys =
    object (member (codes "active") active
    (member (codes "bearers") bearers
    (member (codes "generation") (count generation)
    (member (codes "keys") keys no_members))))

-- the active rules in the order of a table, the bearers by id, the number of the newest generation, and
-- the keys in slot order
abbrev pub journal_data : Setting → Journal → List TableEntry → Data
journal_data p j entries =
    session_data (active_data p.catalog entries) (bearers_data (bound_of (now p j) (now p j).rules)) (gen j)
    (array (items_of (map (journal_key_data p j) (slots p j))))

-- the rules are in precedence order: that of the table that shows the newest generation
abbrev pub ShowsJournal : Setting → Journal → List ℕ → Type 0
ShowsJournal p j text = (table : TableValue) × Shows p j (gen j) table × (text ≡ compact_text (journal_data p j table.entries))

-- what `show` answers of a session by itself
abbrev pub ShowsSession : SessionModel → List ℕ → Type 0
ShowsSession s text = ShowsJournal s.setting s.journal text

-- ---- for private clauses: the same from what a session keeps beside its journal
abbrev pub state_data : KeyState → Data
state_data s = key_data s.key s.level s.on s.reported s.unreported

abbrev pub states_data : List KeyState → Data
states_data states = array (items_of (map state_data states))

abbrev pub kept_data : List Offer → List TableEntry → List Bound → ℕ → List KeyState → Data
kept_data offers entries bound generation keys = session_data (active_data offers entries) (bearers_data bound) generation (states_data keys)

-- the text of a key's level, where it has one
abbrev pub level_text : Level → List ℕ
level_text Rule = []
level_text Session = codes ",\"level\":\"session\""
