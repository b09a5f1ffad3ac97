-- Whatever both accept, the sessions stay alike.
use Rattle.std.proofs.Common.{◌≡◌, ℕ, false, List, []}
use Rattle.pcef_model.specs.Entries.{Journal}
use Rattle.pcef_model.specs.Journals.{grant, reported}
use Rattle.pcef_model.specs.Lawful.{Lawful, at_first, by_attach, by_command, by_flush, by_leave}
use Rattle.pcef_model.specs.Reports.{after_attach, after_leave, is_reached}
use Rattle.pcef_model.specs.Setting.{Setting}
use Rattle.pcef_renewal.specs.Accepting.{entered}
use Rattle.pcef_renewal.specs.Alike.{Alike, image}
use Rattle.pcef_renewal.specs.Counting.{ReachAlike}
use Rattle.pcef_renewal.specs.GoingOn.{GoOn, attached, commanded, flushed, left, renewed}
use Rattle.pcef_renewal.specs.Renewal.{renewal}
use Rattle.pcef_renewal.proofs.Accepted.{lawful_entered, renewal_taken}
use Rattle.pcef_renewal.proofs.Counting.{new_reach_alike, packets_reach_alike}
use Rattle.pcef_renewal.proofs.Granting.{command_reach_alike}
use Rattle.pcef_renewal.proofs.Likeness.{renewal_like}
use Rattle.pcef_renewal.proofs.Staying.{changing_k, command_alike, like_is_alike, rows_alike, workers_alike}

attached_reach : (p : Setting) (j k : Journal) → ReachAlike p j k → ReachAlike p (after_attach j) (after_attach k)
unfolding grant reported
attached_reach p j k reach = record { reached = reach.reached; later = reach.later }

left_reach : (p : Setting) (j k : Journal) → ReachAlike p j k → (v w : ℕ) → ReachAlike p (after_leave v j) (after_leave w k)
unfolding grant reported
left_reach p j k reach v w = record { reached = reach.reached; later = reach.later }

pub go_on_alike : (p : Setting) (old : Journal) → Lawful p old → ((key : List ℕ) → is_reached p old key ≡ false) → (j k : Journal) → GoOn p old j k →
    Lawful p j × Lawful p k × Alike p j k × ReachAlike p j k
go_on_alike p old lawful none _ _ renewed = (
  lawful,
  lawful_entered p (renewal p old) [] at_first (renewal_taken p old lawful),
  like_is_alike p old (entered (renewal p old) []) (renewal_like p old lawful),
  new_reach_alike p old lawful none,
)
go_on_alike p old lawful none _ _ (commanded j k both number renumbers c accepted changing accepted_k even) =
    let s = go_on_alike p old lawful none j k both in (
      by_command j c s.0 accepted changing,
      by_command k (image number c) s.1 accepted_k (changing_k p j k s.0 s.1 s.2 number renumbers c accepted changing accepted_k),
      command_alike p j k s.0 s.1 s.2 number renumbers c accepted changing accepted_k,
      command_reach_alike p j k s.0 s.1 s.2 s.3 number renumbers c accepted changing accepted_k even,
    )
go_on_alike p old lawful none _ _ (flushed j k both v w rs ss accepted follows accepted_k follows_k packets) =
    let s = go_on_alike p old lawful none j k both in (
      by_flush j v rs s.0 accepted follows,
      by_flush k w ss s.1 accepted_k follows_k,
      rows_alike p j k s.2 rs ss,
      (packets_reach_alike p j k s.0 s.1 s.2 s.3 rs ss packets).1,
    )
go_on_alike p old lawful none _ _ (attached j k both accepted accepted_k) =
    let s = go_on_alike p old lawful none j k both in
    (by_attach j s.0 accepted, by_attach k s.1 accepted_k, (workers_alike p j k s.2).0, attached_reach p j k s.3)
go_on_alike p old lawful none _ _ (left j k both v w there there_k) =
    let s = go_on_alike p old lawful none j k both in
    (by_leave j v s.0 there, by_leave k w s.1 there_k, (workers_alike p j k s.2).1 v w, left_reach p j k s.3 v w)
