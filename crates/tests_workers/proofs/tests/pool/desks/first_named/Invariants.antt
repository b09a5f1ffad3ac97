use Rattle.pcef_model.specs.Journals.{gen}
use Rattle.pcef_share.specs.Names.{ledger_at}
use Rattle.tests_workers.proofs.tests.pool.desks.first_named.Given as goal

-- the name of the session, of its blanks and of its opened history
abbrev pub ghosts-second_named : goal.ghosts-second_named
ghosts-second_named g a =
    record { ledger = ledger_at a.side.opening.blanks; setting = a.side.opening.session.session.setting; book = a.side.opening.opened.book; root = a.side.opening.opened.root; first = gen a.side.opening.session.session.journal }
