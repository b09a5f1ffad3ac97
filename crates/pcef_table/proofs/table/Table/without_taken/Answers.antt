use Rattle.std.proofs.Common.{◌≡◌, ◌≤◌, ap, arith, length, not}
use Rattle.pcef_table.specs.Tables.{TableValue, is_taken, without_taken}
use Rattle.pcef_base.proofs.Keeping.{filter_length}
use Rattle.pcef_table.proofs.Ordered.{part_is_table}
use Rattle.pcef_table.proofs.table.Table.without_taken.Goals as goal

pub invariant_of-result : goal.invariant_of-result
invariant_of-result g c =
    let old = c.args.self.now.entries in
    let offers = g.C.Offers.offers c.args.catalog.now in
    let command = c.args.command.now in
    let shorter : length (without_taken offers command old) ≤ length old = filter_length (λ e. not (is_taken offers command e)) old in
    let same : length c.in_ok-entries.entries.items ≡ length (without_taken offers command old) = rw (c.in_ok-entries.ensures, c.entries.ensures.entries) in
    let now = ap (λ (t : TableValue). length t.entries) c.self.view_is in
    omega arith

pub returns-clause-table : goal.returns-clause-table
returns-clause-table g c =
    let offers = g.C.Offers.offers c.args.catalog.now in
    rw (c.in_ok-entries.ensures, c.entries.ensures.entries)
    (part_is_table offers (λ e. not (is_taken offers c.args.command.now e)) c.args.self.now.entries c.requires.table)
