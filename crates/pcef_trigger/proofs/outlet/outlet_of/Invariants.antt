use Rattle.std.proofs.Common.{◌≡◌, vec_len}
use Rattle.pcef_trigger.specs.Deliveries.{report_lists, lists_in}
use Rattle.pcef_trigger.proofs.First.{over}
use Rattle.pcef_trigger.proofs.outlet.outlet_of.Given as goal

abbrev pub invariant-loop-kind : goal.invariant-loop-kind
invariant-loop-kind g l =
    record {
      taken : lists_in (λ b. (goal.Reporter-dyn g (b.vtable, b.value)).taken b.value) l.fn.reporters.items
          ≡ over (lists_in (λ b. (goal.Reporter-dyn g (b.vtable, b.value)).taken b.value) l.reporters.items) (report_lists (λ b. (goal.Reporter-dyn g (b.vtable, b.value)).taken b.value) l.outlet.usage l.outlet.access l.outlet.inactive);
      asked : lists_in (λ b. (goal.Reporter-dyn g (b.vtable, b.value)).asked b.value) l.fn.reporters.items
          ≡ over (lists_in (λ b. (goal.Reporter-dyn g (b.vtable, b.value)).asked b.value) l.reporters.items) (report_lists (λ b. (goal.Reporter-dyn g (b.vtable, b.value)).asked b.value) l.outlet.usage l.outlet.access l.outlet.inactive);
    }

abbrev pub decreases-loop-kind : goal.decreases-loop-kind
decreases-loop-kind g l = vec_len l.reporters
