use Rattle.pcef_model.specs.Journals.{gen}
use Rattle.pcef_share.specs.Names.{ledger_at}
use Rattle.tests_workers.proofs.tests.halts.play.Given as goal

-- the name of the session, of the blanks and of the opened history
abbrev pub ghosts-behind_its_lock : goal.ghosts-behind_its_lock
ghosts-behind_its_lock g a =
    record { ledger = ledger_at a.opening.blanks; setting = a.opening.session.session.setting; book = a.opening.opened.book; root = a.opening.opened.root; first = gen a.opening.session.session.journal }
