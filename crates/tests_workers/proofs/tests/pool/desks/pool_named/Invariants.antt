use Rattle.pcef_model.specs.Journals.{gen}
use Rattle.pcef_share.specs.Names.{ledger_at}
use Rattle.tests_workers.proofs.tests.pool.desks.pool_named.Given as goal

-- the name of the session, of its blanks and of its opened history
abbrev pub ghosts-first_named : goal.ghosts-first_named
ghosts-first_named g a =
    record { ledger = ledger_at a.side.opening.blanks; setting = a.side.opening.session.session.setting; book = a.side.opening.opened.book; root = a.side.opening.opened.root; first = gen a.side.opening.session.session.journal }
