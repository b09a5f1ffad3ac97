use Rattle.std.proofs.Common.{◌≡◌, ◌∙◌, ap, arith, length}
use Rattle.pcef_model.specs.Entries.{commands}
use Rattle.pcef_share.specs.Amounts.{Account, command_ledger, plus, zeros}
use Rattle.pcef_handover.proofs.Loops.{account_is}
use Rattle.pcef_lock.proofs.FirstState.{sound_new}
use Rattle.pcef_lock.proofs.state.State.new.Goals as goal

pub invariant_of-state : goal.invariant_of-state
invariant_of-state g c =
    let totals : c.add_commands.new.self.totals ≡ plus zeros command_ledger (length (commands c.args.session.session.journal)) =
    ap (λ (b : Account). b.totals) c.add_commands.ensures.books ∙ ap (λ (b : Account). plus b.totals command_ledger c.commands_of-commands.result) c.issue-shares.ensures.books
    ∙ ap (λ (b : Account). plus b.totals command_ledger c.commands_of-commands.result) c.new-books.ensures ∙ ap (plus zeros command_ledger) c.commands_of-commands.ensures.commands in
    let issued : c.add_commands.new.self.issued ≡ 1 =
    omega (arith, ap (λ (b : Account). b.issued) c.add_commands.ensures.books, ap (λ (b : Account). b.issued) c.issue-shares.ensures.books, ap (λ (b : Account). b.issued) c.new-books.ensures) in
    let books = account_is c.add_commands.new.self (plus zeros command_ledger (length (commands c.args.session.session.journal))) 1 totals issued in (
      rw books (sound_new g.N.Naming.setting g.N.Naming.first c.args.session.session c.args.publishing.publisher c.args.places (length c.args.publishing.subscribers.items) c.requires.setting c.commands_of-commands.ensures.lawful c.requires.fresh
          c.requires.published c.commands_of-commands.ensures.few_rows c.requires.places c.requires.subscribers),
      c.requires.rates,
    )
