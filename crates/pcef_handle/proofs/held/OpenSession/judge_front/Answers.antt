use Rattle.std.proofs.Common.{Ok, Err, ap, refl, subst, take}
use Rattle.pcef_packet.specs.HeaderOf.{header_of}
use Rattle.pcef_front.specs.Fronts.{IsSettledBy}
use Rattle.pcef_front.specs.declared.fault.FrontFault.{FrontFault}
use Rattle.pcef_handle.specs.declared.judging.JudgeRefusal.TheVariants.{NoPacket, TooFew}
use Rattle.pcef_handle.proofs.held.OpenSession.judge_front.Goals as goal

pub returns-in-Ok-clause-judged : goal.returns-in-Ok-clause-judged
returns-in-Ok-clause-judged c = let told = c.judge.ensures.brief in (Ok told.0, (c.in-Ok.header, c.in-Ok.ensures.reading, told.1), ap Ok told.2)

pub returns-in-Err-Packet-clause-judged : goal.returns-in-Err-Packet-clause-judged
returns-in-Err-Packet-clause-judged c =
    let reads = λ (fault : FrontFault). IsSettledBy (header_of c.args.dir) (take c.args.whole c.args.front.now) c.args.whole (Err fault) in
    (Err (NoPacket c.in-Err-Packet.fault), subst reads c.in-Err-Packet.field-0-is c.in-Err-Packet.ensures.reading, refl)

pub returns-in-Err-TooFew-clause-judged : goal.returns-in-Err-TooFew-clause-judged
returns-in-Err-TooFew-clause-judged c =
    let reads = λ (fault : FrontFault). IsSettledBy (header_of c.args.dir) (take c.args.whole c.args.front.now) c.args.whole (Err fault) in
    (Err TooFew, subst reads c.in-Err-TooFew.field-0-is c.in-Err-TooFew.ensures.reading, refl)
