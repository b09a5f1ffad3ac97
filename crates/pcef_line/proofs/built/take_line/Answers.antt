use Rattle.std.proofs.Common.{arith}
use Rattle.pcef_line.proofs.BuiltLines.{take_fault, take_header}
use Rattle.pcef_line.proofs.built.take_line.Goals as goal

pub returns-in-Ok : goal.returns-in-Ok
returns-in-Ok c =
    take_header c.args.worker c.args.dir c.args.packet.now c.in-Ok.header c.requires (λ i. let fits = c.type_inv.packet i in omega arith) c.in-Ok.ensures.reading

pub returns-in-Err : goal.returns-in-Err
returns-in-Err c =
    take_fault c.args.worker c.args.dir c.args.packet.now c.in-Err.fault c.requires (λ i. let fits = c.type_inv.packet i in omega arith) c.in-Err.ensures.reading
