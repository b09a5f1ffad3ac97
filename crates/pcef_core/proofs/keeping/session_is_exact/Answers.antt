use Rattle.std.proofs.Common.{rules, ◌≡◌, subst, sym}
use Rattle.std.specs.Arc.{arc_value}
use Rattle.pcef_model.specs.Journals.{gen}
use Rattle.pcef_session.specs.Shown.{Shows}
use Rattle.pcef_table.specs.Tables.{TableValue}
use Rattle.pcef_core.proofs.ExactKeeping.{exact}
use Rattle.pcef_core.proofs.keeping.session_is_exact.Goals as goal

pub returns-clause-exact : goal.returns-clause-exact
returns-clause-exact c =
    let s = c.args.session.now in
    let table : c.deref.result.now ≡ arc_value c.indexed.result.now = search rules in
    let shows = subst (λ (t : TableValue). Shows s.setting s.journal (gen s.journal) t) (sym table) c.indexed.ensures in
    exact s.setting s.journal c.journal.result.now.entries c.active.result.now.rules c.bearers-bearers.result.now c.usage.result.now c.deref.result.now
    c.journal.ensures.journal c.journal.ensures.lawful c.active.ensures c.bearers-bearers.ensures c.bound-bound.ensures.binding c.usage.ensures shows
