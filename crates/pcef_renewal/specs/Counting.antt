-- A grant is reached in both of two sessions that are alike by the same packets.
use Rattle.std.specs.Prelude.{ℕ, ◌≡◌, ◌<◌, ◌+◌, false, true, All, List, [], ◌∷◌, Option, Some, None, map, if◌then◌else◌}
use Rattle.pcef_packet.specs.declared.header.Header.{Header}
use Rattle.pcef_model.specs.declared.command.Command.{Command}
use Rattle.pcef_model.specs.declared.command.Command.TheVariants.{Monitor, ReportNow}
use Rattle.pcef_model.specs.declared.level.Level.{Level}
use Rattle.pcef_model.specs.declared.row.Row.{Row}
use Rattle.pcef_model.specs.Commands.{is_among}
use Rattle.pcef_model.specs.Entries.{Journal}
use Rattle.pcef_model.specs.Generations.{Generation}
use Rattle.pcef_model.specs.Journals.{counts_in, gen, grant, now, unreported}
use Rattle.pcef_model.specs.Lawful.{Lawful}
use Rattle.pcef_model.specs.Outcomes.{changes}
use Rattle.pcef_model.specs.Refusals.{first_of, refusals}
use Rattle.pcef_model.specs.Reports.{after_command, after_flush, is_reached, is_reached_by, with_rows}
use Rattle.pcef_model.specs.Setting.{Setting}
use Rattle.pcef_renewal.specs.Accepting.{entered}
use Rattle.pcef_renewal.specs.Alike.{Alike, Renumbers, image}
use Rattle.pcef_renewal.specs.Likeness.{ReachesAlike}
use Rattle.pcef_renewal.specs.Renewal.{out_of_reach, renewal}

-- the same grants are reached now, and each key that is on reaches its own with the same octets from here on
pub record ReachAlike (p : Setting) (j k : Journal) : Type 0 where
  pub reached : (key : List ℕ) → is_reached p k key ≡ is_reached p j key
  pub later : (key : List ℕ) → is_among key (now p j).on ≡ true → ReachesAlike p j k key

-- ---- the same packets
abbrev pub headers : List Row → List Header
headers rows = map (λ r. r.header) rows

-- the octets of those packets that count for a key in this generation
abbrev pub octets_in : Setting → Generation → List ℕ → List Header → ℕ
octets_in p g key [] = 0
octets_in p g key (header ∷ headers) = (if counts_in p g key header then header.octets else 0) + octets_in p g key headers

-- rows that the newest generation judged
abbrev pub AreNewest : Journal → List Row → Type 0
AreNewest j rows = All (λ (r : Row). r.generation ≡ gen j) rows

-- both take over rows of the same packets, which their newest generations judged, and a key has fewer than 2^64 - 1 octets
-- unreported with them
pub record SamePackets (p : Setting) (j k : Journal) (rs ss : List Row) : Type 0 where
  pub newest : AreNewest j rs
  pub newest_too : AreNewest k ss
  pub same : headers ss ≡ headers rs
  pub few : (key : List ℕ) → unreported p k key + octets_in p (now p k) key (headers ss) < out_of_reach

-- ---- commands
-- the key that a Monitor gives a grant, or whose octets are asked for
abbrev pub key_granted : Command → Option (List ℕ)
key_granted (Monitor key amount level) = Some key
key_granted (ReportNow key) = Some key
key_granted c = None

-- a new grant of a key is counted from the same octets in both, fewer than 2^64 - 1; and where its octets are asked for, so
-- that its grant goes on from none, both reach it with the same
abbrev pub EvenFor : Setting → Journal → Journal → Command → Type 0
EvenFor p j k (Monitor key amount level) = (unreported p k key ≡ unreported p j key) × (unreported p k key < out_of_reach)
EvenFor p j k (ReportNow key) = is_among key (now p j).on ≡ true → (n : ℕ) → n < out_of_reach → is_reached_by (grant k key) n ≡ is_reached_by (grant j key) n
EvenFor p j k c = Unit {0}

-- ---- laws
-- it is so at a renewal, where no grant of the old session is reached: while usage reports are subscribed none ever stays so
abbrev pub NewSessionsReachAlike : Type 0
NewSessionsReachAlike = (p : Setting) (j : Journal) → Lawful p j → ((key : List ℕ) → is_reached p j key ≡ false) → ReachAlike p j (entered (renewal p j) [])

-- and a key of which it has no octets unreported then is even for each of these commands
abbrev pub NewSessionsAreEven : Type 0
NewSessionsAreEven = (p : Setting) (j : Journal) → Lawful p j → ((key : List ℕ) → is_reached p j key ≡ false) → (key : List ℕ) → unreported p j key ≡ 0 →
    EvenFor p j (entered (renewal p j) []) (ReportNow key) × ((amount : ℕ) (level : Level) → EvenFor p j (entered (renewal p j) []) (Monitor key amount level))

-- rows of the same packets reach the same grants, and so it stays once they are reported
abbrev pub PacketsReachAlike : Type 0
PacketsReachAlike = (p : Setting) (j k : Journal) → Lawful p j → Lawful p k → Alike p j k → ReachAlike p j k → (rs ss : List Row) → SamePackets p j k rs ss →
    ((key : List ℕ) → is_reached p (with_rows ss k) key ≡ is_reached p (with_rows rs j) key) × ReachAlike p (after_flush p j rs) (after_flush p k ss)

-- a command that both accept leaves it so
abbrev pub CommandsReachAlike : Type 0
CommandsReachAlike = (p : Setting) (j k : Journal) → Lawful p j → Lawful p k → Alike p j k → ReachAlike p j k → (number : ℕ → ℕ) → Renumbers p j k number → (c : Command) →
    first_of (refusals p j c) ≡ None → changes p j c ≡ true → first_of (refusals p k (image number c)) ≡ None → EvenFor p j k c →
    ReachAlike p (after_command p j c) (after_command p k (image number c))
