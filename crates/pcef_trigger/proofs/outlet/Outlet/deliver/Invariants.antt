use Rattle.std.proofs.Common.{◌≡◌, take}
use Rattle.pcef_trigger.specs.Deliveries.{report_lists, lists_after}
use Rattle.pcef_trigger.proofs.outlet.Outlet.deliver.Given as goal

abbrev pub invariant-loop-report : goal.invariant-loop-report
invariant-loop-report g l =
    record {
      count : l.sent ≡ l.report-index;
      taken : report_lists (λ b. (goal.Reporter-dyn g (b.vtable, b.value)).taken b.value) l.self.usage l.self.access l.self.inactive
          ≡ lists_after (report_lists (λ b. (goal.Reporter-dyn g (b.vtable, b.value)).taken b.value) l.fn.self.usage l.fn.self.access l.fn.self.inactive) (take l.report-index l.reports);
      asked : report_lists (λ b. (goal.Reporter-dyn g (b.vtable, b.value)).asked b.value) l.self.usage l.self.access l.self.inactive
          ≡ lists_after (report_lists (λ b. (goal.Reporter-dyn g (b.vtable, b.value)).asked b.value) l.fn.self.usage l.fn.self.access l.fn.self.inactive) (take l.report-index l.reports);
    }
