use Rattle.std.proofs.Common.{rules, ◌≡◌, ℕ, [], drop, reverse, subst, sym}
use Rattle.pcef_model.specs.Entries.{reports}
use Rattle.pcef_model.specs.Lawful.{Lawful}
use Rattle.pcef_lock.specs.Reports.{AreNumbered}
use Rattle.pcef_lock.proofs.Numbers.{reports_numbered}
use Rattle.pcef_lock.proofs.state.State.collect.Goals as goal

none_numbered : (n : ℕ) → AreNumbered n []
unfolding AreNumbered
none_numbered n = tt

pub returns-clause-numbered : goal.returns-clause-numbered
returns-clause-numbered g c =
    let list : c.in_ok-collected.collected.items ≡ drop c.args.from (reverse (reports c.self.inside.session.session.journal)) = search rules in
    let lawful : Lawful c.self.inside.session.session.setting c.self.inside.session.session.journal = rw (← c.session.ensures.setting, ← c.session.ensures.journal) c.journal-journal.ensures.lawful in
    subst (AreNumbered c.args.from) (sym list) (reports_numbered c.self.inside.session.session.setting c.self.inside.session.session.journal c.args.from lawful)

pub returns-then-reports_len-from-clause-numbered : goal.returns-then-reports_len-from-clause-numbered
returns-then-reports_len-from-clause-numbered g c = subst (AreNumbered c.args.from) (sym c.new.ensures.items) (none_numbered c.args.from)
