use Rattle.std.proofs.Common.{Some, refl}
use Rattle.pcef_script.proofs.LineReads.{lacking}
use Rattle.pcef_sessions.specs.Sayings.{said_of}
use Rattle.pcef_sessions.specs.Standing.{fixed, held}
use Rattle.pcef_sessions.specs.private.FrameLines.{line_of}
use Rattle.pcef_sessions.proofs.FrameLines.{right_filled}
use Rattle.pcef_sessions.proofs.FrameNames.{frame_lacks, frame_told}
use Rattle.pcef_sessions.proofs.sessions.Sessions.answer_frame.Goals as goal

pub returns-in_err-answer-in-Ok-clause-lacks : goal.returns-in_err-answer-in-Ok-clause-lacks
returns-in_err-answer-in-Ok-clause-lacks c =
    let old = c.args.self.now in
    let new = c.answer_said.new.self in
    let is = c.in-Ok.ensures.ok in
    let lacks = c.in_err-answer-in-Ok.ensures.lacks in
    lacking c.from_residual.result
    (frame_lacks (fixed old) (held old) (held new) c.args.frame.now c.in-Ok.name (line_of c.in-Ok.said) is.0 (right_filled c.in-Ok.said is.1) is.2 lacks.0 lacks.1)

pub returns-in_ok-answer-in-Ok-clause-answer : goal.returns-in_ok-answer-in-Ok-clause-answer
returns-in_ok-answer-in-Ok-clause-answer c =
    let old = c.args.self.now in
    let new = c.answer_said.new.self in
    let is = c.in-Ok.ensures.ok in
    let told = c.in_ok-answer-in-Ok.ensures.answer in
    frame_told (fixed old) (held old) (held new) c.args.frame.now c.in-Ok.name (line_of c.in-Ok.said) (said_of (record { name = Some c.in-Ok.name; answer = c.in_ok-answer-in-Ok.answer })) is.0 (right_filled c.in-Ok.said is.1) is.2
    refl told.0 told.1
