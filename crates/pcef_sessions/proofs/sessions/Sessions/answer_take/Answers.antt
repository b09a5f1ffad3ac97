use Rattle.std.proofs.Common.{arith}
use Rattle.std.proofs.lemmas.Result.{IfOk-weaker, on_err_weaker}
use Rattle.hex.specs.Hex.{encode_lower}
use Rattle.pcef_line.specs.Canonical.{take_text}
use Rattle.pcef_sessions.proofs.FrameLines.{take_is_read}
use Rattle.pcef_sessions.proofs.sessions.Sessions.answer_take.Goals as goal

pub returns-clause-answer : goal.returns-clause-answer
returns-clause-answer c =
    let packet = c.args.packet.now in
    IfOk-weaker c.answer_read.result _ _
    (λ a told. told (take_text c.args.worker c.args.dir (encode_lower packet))
    (take_is_read c.args.worker c.args.dir packet c.take_line.result c.requires.worker c.requires.packet (λ i. let fits = c.type_inv.packet i in omega arith) c.take_line.ensures)) c.answer_read.ensures.answer

pub returns-clause-lacks : goal.returns-clause-lacks
returns-clause-lacks c =
    let packet = c.args.packet.now in
    on_err_weaker c.answer_read.result
    (λ told. told (take_text c.args.worker c.args.dir (encode_lower packet))
    (take_is_read c.args.worker c.args.dir packet c.take_line.result c.requires.worker c.requires.packet (λ i. let fits = c.type_inv.packet i in omega arith) c.take_line.ensures)) c.answer_read.ensures.lacks
