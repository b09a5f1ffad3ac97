-- What table commands make: the active rules, the bearers and the keys that are on, generation by
-- generation. Lists of commands are written newest first.
use Rattle.std.specs.Prelude.{ℕ, Bool, not, ◌||◌, List, [], ◌∷◌, Option, Some, None, filter, length, nat_le, unwrap_or, if◌then◌else◌}
use Rattle.pcef_rule.specs.declared.quantity.Qos.{Qos}
use Rattle.pcef_model.specs.declared.command.Command.{Command}
use Rattle.pcef_model.specs.Setting.{Setting, same_qos}
use Rattle.pcef_model.specs.Bearers.{default_id, has_pair, least_free}
use Rattle.pcef_model.specs.ActiveRules.{Active, has_key, put_if_some}
use Rattle.pcef_model.specs.Commands.{activated, add_key, at_session_level, key_named, switched, takes_away}

-- one generation: its active rules, the id of the bearer of each pair of QCI and ARP that has one, the keys that are on,
-- and the keys of session level
pub record Generation : Type 0 where
  pub rules : List Active
  pub id_of : Qos → ℕ
  pub on : List (List ℕ)
  pub session : List (List ℕ)

-- before the first table command there is the default bearer alone
abbrev pub at_first : Generation
at_first = record { rules = []; id_of = λ q. default_id; on = []; session = [] }

-- ---- rules
-- a rule that a command doesn't take away
abbrev pub stays : Generation → Command → Active → Bool
stays g c r = not (takes_away c r.properties.name (g.id_of r.properties.qos))

-- the rules that stay, and the one that the command makes active
abbrev pub rules_after : Setting → Generation → Command → List Active
rules_after p g c = put_if_some (activated p c) (filter (stays g c) g.rules)

-- ---- bearers (TS 23.203, clause 6.1.1.4)
-- the default pair has a bearer, and each pair of an active rule
abbrev pub has_bearer : Setting → List Active → Qos → Bool
has_bearer p rules q = has_pair (λ r. r.properties.qos) p.default_qos rules q

-- the rules whose pair had a bearer before
abbrev pub kept : Setting → Generation → List Active → List Active
kept p g rules = filter (λ r. has_bearer p g.rules r.properties.qos) rules

-- the least id that none of them is on, if there is one
abbrev pub free_id : Setting → Generation → List Active → Option ℕ
free_id p g rules = least_free (λ r. g.id_of r.properties.qos) (kept p g rules)

-- a pair keeps the id of its bearer, and a new one takes the least free id; a command that would find none is
-- refused
abbrev pub id_after : Setting → Generation → List Active → Qos → ℕ
id_after p g rules q =
    if same_qos q p.default_qos then default_id
    else if has_bearer p g.rules q then g.id_of q
    else unwrap_or (free_id p g rules) default_id

-- ---- keys (TS 29.212, clauses 4.5.16 and 4.5.17)
-- a key that had a rule before goes off with its last one
abbrev pub still_on : List Active → List Active → List (List ℕ) → List (List ℕ)
still_on old new on = filter (λ k. not (has_key k old) || has_key k new) on

-- ---- generations
abbrev pub next : Setting → Generation → Command → Generation
next p g c = record {
  rules = rules_after p g c;
  id_of = id_after p g (rules_after p g c);
  on = still_on g.rules (rules_after p g c) (switched c g.on);
  session = at_session_level c g.session;
}

-- the generation that table commands make
unfoldable pub made_by : Setting → List Command → Generation
made_by p [] = at_first
made_by p (c ∷ earlier) = next p (made_by p earlier) c

-- the oldest n of a list that is written newest first
unfoldable pub oldest : {A : Type 0} → ℕ → List A → List A
oldest n [] = []
oldest n (x ∷ xs) = if nat_le n (length xs) then oldest n xs else x ∷ xs

-- ---- slots (own choice)
abbrev pub add_if_some : Option (List ℕ) → List (List ℕ) → List (List ℕ)
add_if_some None keys = keys
add_if_some (Some key) keys = add_key key keys

-- the keys that have a slot, in the order in which they were first named
unfoldable pub slots_of : Setting → List Command → List (List ℕ)
slots_of p [] = []
slots_of p (c ∷ earlier) = add_if_some (key_named p c) (slots_of p earlier)
