use Rattle.std.proofs.Common.{◌≡◌, List, subst, sym}
use Rattle.std.specs.Prelude.{IfOk}
use Rattle.pcef_table.specs.declared.entry.TableEntry.{TableEntry}
use Rattle.pcef_table.specs.Tables.{TableValue}
use Rattle.pcef_session.proofs.TakenAway.{filter_none}
use Rattle.pcef_session.proofs.next_tables.drop_rules.Goals as goal

pub returns-in-Close-clause-entries : goal.returns-in-Close-clause-entries
returns-in-Close-clause-entries c =
    rw c.in-Close.is (subst (λ (es : List TableEntry). IfOk c.cleared.result (λ (t : TableValue). t.entries ≡ es)) (sym (filter_none c.args.table.now.entries)) c.cleared.ensures.entries)

pub returns-in-Terminate-clause-entries : goal.returns-in-Terminate-clause-entries
returns-in-Terminate-clause-entries c =
    rw c.in-Terminate.is (subst (λ (es : List TableEntry). IfOk c.empty.result (λ (t : TableValue). t.entries ≡ es)) (sym (filter_none c.args.table.now.entries)) c.empty.ensures.entries)
