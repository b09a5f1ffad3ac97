use Rattle.pcef_script.proofs.LineReads.{lacking}
use Rattle.pcef_sessions.specs.Standing.{fixed, held}
use Rattle.pcef_sessions.proofs.ReadLines.{read_lacks}
use Rattle.pcef_sessions.proofs.sessions.Sessions.answer_read.Goals as goal

pub returns-in_err-run_read-clause-lacks : goal.returns-in_err-run_read-clause-lacks
returns-in_err-run_read-clause-lacks c =
    let old = c.args.self.now in
    let new = c.run_read.new.self in
    let name = c.args.name.now in
    lacking c.from_residual.result
    (λ line is. (read_lacks (fixed old) (held old name) (held new name) line c.args.read c.in_err-run_read.ensures.lacks is, c.in_err-run_read.ensures.others))
