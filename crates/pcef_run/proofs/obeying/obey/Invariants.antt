use Rattle.std.specs.Prelude.{◌≡◌, All}
use Rattle.pcef_gateway.specs.Commanding.{FoundMemory}
use Rattle.pcef_run.specs.Runs.{Obeyed}
use Rattle.pcef_run.proofs.obeying.obey.Given as goal

abbrev pub invariant-loop-command : goal.invariant-loop-command
invariant-loop-command l =
    Obeyed l.fn.session.session.setting l.fn.session.session.journal l.yielded l.answers.items l.session.session.journal
    × (l.session.session.setting ≡ l.fn.session.session.setting) × All FoundMemory l.answers.items
