use Rattle.pcef_gx_peer.proofs.Rooms.{product_name_room}
use Rattle.pcef_gx_peer.proofs.exchange.put_product_name.Goals as goal

pub returns-clause-room : goal.returns-clause-room
returns-clause-room c = product_name_room c.put_avp.result c.put_avp.new.out.items c.args.out.now.items c.put_avp.ensures.written
