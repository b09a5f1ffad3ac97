-- Whatever is done to a session and to the new one that goes on for it.
use Rattle.std.specs.Prelude.{ℕ, ◌≡◌, false, true, List, [], None, length}
use Rattle.pcef_model.specs.declared.command.Command.{Command}
use Rattle.pcef_model.specs.declared.row.Row.{Row}
use Rattle.pcef_model.specs.Entries.{Journal}
use Rattle.pcef_model.specs.Lawful.{BatchFollows, Lawful}
use Rattle.pcef_model.specs.Outcomes.{changes}
use Rattle.pcef_model.specs.Refusals.{attach_faults, first_of, flush_refusals, is_attached, refusals}
use Rattle.pcef_model.specs.Reports.{after_attach, after_command, after_flush, after_leave, is_reached}
use Rattle.pcef_model.specs.Setting.{Setting}
use Rattle.pcef_renewal.specs.Accepting.{entered}
use Rattle.pcef_renewal.specs.Alike.{Alike, Renumbers, image}
use Rattle.pcef_renewal.specs.Counting.{EvenFor, ReachAlike, SamePackets}
use Rattle.pcef_renewal.specs.Renewal.{renewal}

-- the journals of both after what both accepted since the renewal of `old`, event by event: the old session as it would have
-- gone on, and the new one
pub data GoOn (p : Setting) (old : Journal) : Journal → Journal → Type 0 where
  renewed : GoOn p old old (entered (renewal p old) [])
  -- a command, in which a bearer has its new number
  commanded : (j k : Journal) → GoOn p old j k → (number : ℕ → ℕ) → Renumbers p j k number → (c : Command) → first_of (refusals p j c) ≡ None → changes p j c ≡ true →
      first_of (refusals p k (image number c)) ≡ None → EvenFor p j k c → GoOn p old (after_command p j c) (after_command p k (image number c))
  -- the same packets, by workers of whatever numbers
  flushed : (j k : Journal) → GoOn p old j k → (v w : ℕ) (rs ss : List Row) → first_of (flush_refusals p j v (length rs)) ≡ None → BatchFollows p j v rs →
      first_of (flush_refusals p k w (length ss)) ≡ None → BatchFollows p k w ss → SamePackets p j k rs ss → GoOn p old (after_flush p j rs) (after_flush p k ss)
  attached : (j k : Journal) → GoOn p old j k → first_of (attach_faults j) ≡ None → first_of (attach_faults k) ≡ None → GoOn p old (after_attach j) (after_attach k)
  left : (j k : Journal) → GoOn p old j k → (v w : ℕ) → is_attached j v ≡ true → is_attached k w ≡ true → GoOn p old (after_leave v j) (after_leave w k)

-- they stay alike: the same rule decides each packet, it counts for the same keys, the same commands are refused, and the same
-- grants are reached
abbrev pub SessionsGoOnAlike : Type 0
SessionsGoOnAlike = (p : Setting) (old : Journal) → Lawful p old → ((key : List ℕ) → is_reached p old key ≡ false) → (j k : Journal) → GoOn p old j k →
    Lawful p j × Lawful p k × Alike p j k × ReachAlike p j k
