use Rattle.pcef_gx.proofs.Lengths as lengths
use Rattle.pcef_gx.proofs.writing.put_octets.Goals as goal

pub returns-clause-room : goal.returns-clause-room
returns-clause-room c =
    lengths.room c.put_avp.result c.args.code c.put_avp.new.out.items c.args.out.now.items c.args.octets.now (rw (← c.avp_of.ensures.avp) c.put_avp.ensures.written)
