use Rattle.std.proofs.Common.{◌≡◌, drop}
use Rattle.pcef_model.specs.Entries.{Journal}
use Rattle.pcef_gx_orders.specs.Carrying.{ReportsAll}
use Rattle.pcef_gx_orders.specs.declared.fate.Fate.{Fate}
use Rattle.pcef_gx_orders.proofs.carrying.report_all.Given as goal

-- what becomes of the rest becomes of all; nothing but the journal changes
abbrev pub invariant-loop-key : goal.invariant-loop-key
invariant-loop-key g l =
    ((fate : Fate) (after : Journal) → ReportsAll l.initial.world.session.setting l.world.session.journal (drop l.key-index l.keys) fate after →
    ReportsAll l.initial.world.session.setting l.initial.world.session.journal l.keys fate after)
    × (l.world.workers ≡ l.initial.world.workers) × (l.world.session.setting ≡ l.initial.world.session.setting)
    × (l.world.session.forgotten ≡ l.initial.world.session.forgotten)
