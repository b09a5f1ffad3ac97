-- When a new session is like an old one (own choice): what it does from then on is the same, up to the numbers of bearers.
use Rattle.std.specs.Prelude.{ℕ, ◌≡◌, ◌≤◌, ◌<◌, ◌+◌, ◌↔◌, Bool, true, ◌||◌, List, [], ◌∷◌, None, Contains}
use Rattle.pcef_rule.specs.declared.quantity.Qos.{Qos}
use Rattle.pcef_model.specs.declared.command.Command.TheVariants.{Terminate}
use Rattle.pcef_model.specs.ActiveRules.{Active, has_key}
use Rattle.pcef_model.specs.Commands.{is_among}
use Rattle.pcef_model.specs.Entries.{Journal}
use Rattle.pcef_model.specs.Generations.{has_bearer}
use Rattle.pcef_model.specs.Journals.{counted, grant, level_of, now, reported, slots, subscribed, unreported}
use Rattle.pcef_model.specs.Lawful.{Lawful}
use Rattle.pcef_model.specs.Refusals.{first_of, limited_count, refusals, total_now, was_closed}
use Rattle.pcef_model.specs.Reports.{after_command, is_reached_by}
use Rattle.pcef_model.specs.Setting.{Setting}
use Rattle.pcef_renewal.specs.Accepting.{entered}
use Rattle.pcef_renewal.specs.Renewal.{out_of_reach, renewal}
use Rattle.pcef_renewal.specs.Renewing.{commands_needed}

-- a key that isn't forgotten: it is on, or an active rule has it
abbrev pub is_kept : Setting → Journal → List ℕ → Bool
is_kept p j key = is_among key (now p j).on || has_key key (now p j).rules

-- a key reaches its grant in both with the same octets, as far as some come and a grant of 2^64 - 1 isn't reached
abbrev pub ReachesAlike : Setting → Journal → Journal → List ℕ → Type 0
ReachesAlike p j k key = (more : ℕ) → 1 ≤ more → unreported p k key + more < out_of_reach →
    is_reached_by (grant k key) (unreported p k key + more) ≡ is_reached_by (grant j key) (unreported p j key + more)

-- two pairs of QCI and ARP are on one bearer in both or in neither
abbrev pub SharesBearersAlike : Setting → Journal → Journal → Type 0
SharesBearersAlike p j k = (q r : Qos) → has_bearer p (now p j).rules q ≡ true → has_bearer p (now p j).rules r ≡ true →
    ((now p j).id_of q ≡ (now p j).id_of r) ↔ ((now p k).id_of q ≡ (now p k).id_of r)

-- j is the journal of the old session, k that of the new one
pub record Like (p : Setting) (j k : Journal) : Type 0 where
  -- the same rules are active, the same keys on, and the same events subscribed; both are closed or neither
  pub rules : (r : Active) → Contains (now p j).rules r ↔ Contains (now p k).rules r
  pub on : (key : List ℕ) → is_among key (now p k).on ≡ is_among key (now p j).on
  pub events : subscribed k ≡ subscribed j
  pub closed : was_closed k ≡ was_closed j
  -- the keys that aren't forgotten have a slot, with their levels
  pub slots_kept : (key : List ℕ) → is_among key (slots p k) ≡ is_kept p j key
  pub levels : (key : List ℕ) → is_kept p j key ≡ true → level_of (now p k) key ≡ level_of (now p j) key
  pub grants : (key : List ℕ) → is_among key (now p j).on ≡ true → ReachesAlike p j k key
  -- the same pairs of QCI and ARP have bearers, with the same rates
  pub pairs : (q : Qos) → has_bearer p (now p k).rules q ≡ has_bearer p (now p j).rules q
  pub bearers : SharesBearersAlike p j k
  pub rates : total_now p k ≡ total_now p j

-- of its commands those that have a budget are as many as the renewal needs
abbrev pub RenewalsNeedWhatTheySay : Type 0
RenewalsNeedWhatTheySay = (p : Setting) (j : Journal) → Lawful p j → limited_count (entered (renewal p j) []) ≡ commands_needed p j

-- the new session is like the old one once it took the renewal
abbrev pub RenewalsAreLike : Type 0
RenewalsAreLike = (p : Setting) (j : Journal) → Lawful p j → Like p j (entered (renewal p j) [])

-- ---- octets over any number of renewals
-- each of these sessions was lawful, and accepts a Terminate
abbrev pub AreEnded : Setting → List Journal → Type 0
AreEnded p [] = Unit {0}
AreEnded p (j ∷ ended) = (Lawful p j × (first_of (refusals p j Terminate) ≡ None)) × AreEnded p ended

-- the octets of a key that they reported, those at their Terminate with them
abbrev pub reported_in_all : Setting → List Journal → List ℕ → ℕ
reported_in_all p [] key = 0
reported_in_all p (j ∷ ended) key = reported (after_command p j Terminate) key + reported_in_all p ended key

-- the octets that they counted for it
abbrev pub counted_in_all : Setting → List Journal → List ℕ → ℕ
counted_in_all p [] key = 0
counted_in_all p (j ∷ ended) key = counted p j key + counted_in_all p ended key

-- the octets that all sessions counted for a key, those that were ended and the one that goes on, are those that they
-- reported and what the last one hasn't reported yet, however often there was a renewal
abbrev pub OctetsAddUp : Type 0
OctetsAddUp = (p : Setting) (ended : List Journal) (k : Journal) → AreEnded p ended → Lawful p k → (key : List ℕ) →
    reported_in_all p ended key + reported k key + unreported p k key ≡ counted_in_all p ended key + counted p k key
