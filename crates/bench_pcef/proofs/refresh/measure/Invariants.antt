use Rattle.pcef_share.specs.Names.{no_setting}
use Rattle.bench_pcef.proofs.refresh.measure.Given as goal

-- the session of the opened history
abbrev pub ghosts-measure_rounds : goal.ghosts-measure_rounds
ghosts-measure_rounds g a =
    record { ledger = λ k. 0; setting = no_setting; book = a.opened.book; root = a.opened.root; first = 0 }
