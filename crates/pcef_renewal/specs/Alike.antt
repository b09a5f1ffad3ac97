-- Two sessions that what comes next meets alike (own choice), and that stay so.
use Rattle.std.specs.Prelude.{ℕ, ◌≡◌, ◌<◌, ◌==◌, ◌↔◌, false, true, List, [], Option, Some, None, Contains, find, length, if◌then◌else◌}
use Rattle.pcef_packet.specs.declared.header.Header.{Header}
use Rattle.pcef_rule.specs.declared.quantity.Qos.{Qos}
use Rattle.pcef_model.specs.declared.command.Command.{Command}
use Rattle.pcef_model.specs.declared.command.Command.TheVariants.{LoseBearer, ReportNow}
use Rattle.pcef_model.specs.declared.row.Row.{Row}
use Rattle.pcef_model.specs.ActiveRules.{Active}
use Rattle.pcef_model.specs.Bearers.{default_id}
use Rattle.pcef_model.specs.Commands.{is_among, key_named}
use Rattle.pcef_model.specs.Entries.{Journal}
use Rattle.pcef_model.specs.Generations.{Generation, has_bearer}
use Rattle.pcef_model.specs.Journals.{attached, counts_in, decision, level_of, now, slots, subscribed}
use Rattle.pcef_model.specs.Lawful.{Lawful}
use Rattle.pcef_model.specs.Outcomes.{changes}
use Rattle.pcef_model.specs.Refusals.{finds_no_slot, first_of, limited_count, refusals, was_closed, was_terminated}
use Rattle.pcef_model.specs.Reports.{after_attach, after_command, after_flush, after_leave}
use Rattle.pcef_model.specs.Setting.{Setting}
use Rattle.pcef_renewal.specs.Accepting.{entered}
use Rattle.pcef_renewal.specs.Likeness.{Like}
use Rattle.pcef_renewal.specs.Maps.{bearer_again}
use Rattle.pcef_renewal.specs.Renewal.{renewal}

-- j is the journal of a session, and k that of one that goes on for it
pub record Alike (p : Setting) (j k : Journal) : Type 0 where
  -- the same rules are active, the same keys on, and the same events subscribed; both are closed or neither
  pub rules : (r : Active) → Contains (now p j).rules r ↔ Contains (now p k).rules r
  pub on : (key : List ℕ) → is_among key (now p k).on ≡ is_among key (now p j).on
  pub events : subscribed k ≡ subscribed j
  pub closed : was_closed k ≡ was_closed j
  -- a key with a slot in k has one in j, and the same level; one that k has forgotten has a slot in j alone
  pub slots_had : (key : List ℕ) → is_among key (slots p k) ≡ true → is_among key (slots p j) ≡ true
  pub levels : (key : List ℕ) → is_among key (slots p k) ≡ true → level_of (now p k) key ≡ level_of (now p j) key

-- ---- bearers
-- what bearers in j are called in k: a number that is no bearer's in j goes to one that is none's in k
abbrev pub Renumbers : Setting → Journal → Journal → (ℕ → ℕ) → Type 0
Renumbers p j k number = (q : Qos) → has_bearer p (now p j).rules q ≡ true → (id : ℕ) → ((now p k).id_of q == number id) ≡ ((now p j).id_of q == id)

-- the number in k of the bearer that has this one in j, and 0, which no bearer has, where there is none
abbrev pub number_of : Generation → Option Active → ℕ
number_of g None = 0
number_of g (Some r) = g.id_of r.properties.qos

abbrev pub number_in : Setting → Journal → Journal → ℕ → ℕ
number_in p j k id = if id == default_id then default_id else number_of (now p k) (find (λ r. (now p j).id_of r.properties.qos == id) (now p j).rules)

-- a command as it is given to k: the loss of a bearer names that bearer
abbrev pub image : (ℕ → ℕ) → Command → Command
image number (LoseBearer id) = LoseBearer (record { 0 = number id.0 })
image number c = c

-- ---- laws
-- a new session that took a renewal is such a session, and its bearers have the numbers of their places
abbrev pub NewSessionsAreAlike : Type 0
NewSessionsAreAlike = (p : Setting) (j k : Journal) → Like p j k → Alike p j k

abbrev pub PlacesRenumber : Type 0
PlacesRenumber = (p : Setting) (j : Journal) → Lawful p j → Renumbers p j (entered (renewal p j) []) (bearer_again p j)

-- there are such numbers as long as they are alike
abbrev pub BearersAreCalled : Type 0
BearersAreCalled = (p : Setting) (j k : Journal) → Lawful p j → Lawful p k → Alike p j k → Renumbers p j k (number_in p j k)

-- a command that both accept leaves them so
abbrev pub CommandsKeepAlike : Type 0
CommandsKeepAlike = (p : Setting) (j k : Journal) → Lawful p j → Lawful p k → Alike p j k → (number : ℕ → ℕ) → Renumbers p j k number → (c : Command) →
    first_of (refusals p j c) ≡ None → changes p j c ≡ true → first_of (refusals p k (image number c)) ≡ None →
    Alike p (after_command p j c) (after_command p k (image number c))

-- and so do rows, and workers that come and leave, whichever they are
abbrev pub RowsKeepAlike : Type 0
RowsKeepAlike = (p : Setting) (j k : Journal) → Alike p j k → (rs ss : List Row) → Alike p (after_flush p j rs) (after_flush p k ss)

abbrev pub WorkersKeepAlike : Type 0
WorkersKeepAlike = (p : Setting) (j k : Journal) → Alike p j k → Alike p (after_attach j) (after_attach k) × ((v w : ℕ) → Alike p (after_leave v j) (after_leave w k))

-- ---- packets
-- each packet is decided by the same rule, or by none
abbrev pub AlikeSessionsDecideAlike : Type 0
AlikeSessionsDecideAlike = (p : Setting) (j k : Journal) → Alike p j k → (header : Header) → decision p (now p k) header ≡ decision p (now p j) header

-- and counts for the same keys
abbrev pub AlikeSessionsCountAlike : Type 0
AlikeSessionsCountAlike = (p : Setting) (j k : Journal) → Alike p j k → (key : List ℕ) (header : Header) → counts_in p (now p k) key header ≡ counts_in p (now p j) key header

-- ---- refusals
-- the key that a command names or asks for
abbrev pub key_asked : Setting → Command → Option (List ℕ)
key_asked p (ReportNow key) = Some key
key_asked p c = key_named p c

-- k hasn't forgotten this key, or j has no slot for it either; and j has a slot for it, or another free one
abbrev pub KnowsAlike : Setting → Journal → Journal → Option (List ℕ) → Type 0
KnowsAlike p j k named = (key : List ℕ) → named ≡ Some key → (is_among key (slots p k) ≡ is_among key (slots p j)) × (finds_no_slot p j (Some key) ≡ false)

-- while both have commands left, and as many workers, the same conditions refuse a command in both, in the same order
abbrev pub CommandsAreRefusedAlike : Type 0
CommandsAreRefusedAlike = (p : Setting) (j k : Journal) → Lawful p j → Lawful p k → Alike p j k → (number : ℕ → ℕ) → Renumbers p j k number →
    was_terminated k ≡ was_terminated j → length (attached k) ≡ length (attached j) → limited_count j < p.commands → limited_count k < p.commands →
    (c : Command) → KnowsAlike p j k (key_asked p c) → refusals p k (image number c) ≡ refusals p j c
