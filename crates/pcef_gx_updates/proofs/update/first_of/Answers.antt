use Rattle.std.proofs.Common.{sym, arith}
use Rattle.std.proofs.lemmas.List.{take_all}
use Rattle.pcef_gx_updates.proofs.update.first_of.Goals as goal

pub returns-then-reports-lt-MAX_REPORTS : goal.returns-then-reports-lt-MAX_REPORTS
returns-then-reports-lt-MAX_REPORTS c = sym (take_all 100 c.args.reports.now (omega arith))
