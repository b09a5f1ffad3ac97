use Rattle.std.proofs.Common.{◌≡◌, ◌≤◌, ◌++◌, List, drop, vec_len, vec_capacity, length}
use Rattle.std.specs.Prelude.{Option}
use Rattle.pcef_gx.specs.declared.order.Order.{Order}
use Rattle.pcef_gx.specs.declared.writing.RuleReport.{RuleReport}
use Rattle.pcef_model.specs.Entries.{Journal}
use Rattle.pcef_gx_orders.specs.Carrying.{CarriesOut}
use Rattle.pcef_gx_orders.proofs.carrying.carry_out.Given as goal

-- what is told of the rest, behind what was told so far, is told of all; nothing but the journal changes
abbrev pub invariant-loop-named : goal.invariant-loop-named
invariant-loop-named g l =
    ((more : List RuleReport) (refused : Option Order) (after : Journal) →
    CarriesOut l.initial.world.session.setting l.world.session.journal (drop l.named-index l.orders) more refused after →
    CarriesOut l.initial.world.session.setting l.initial.world.session.journal l.orders (l.reports.items ++ more) refused after)
    × (vec_len l.reports ≤ l.named-index) × (length l.orders ≤ vec_capacity l.reports)
    × (l.world.workers ≡ l.initial.world.workers) × (l.world.session.setting ≡ l.initial.world.session.setting)
    × (l.world.session.forgotten ≡ l.initial.world.session.forgotten)
