use Rattle.pcef_gx_peer.proofs.exchange.put_address.Goals as goal

pub returns-in-V6-clause-written : goal.returns-in-V6-clause-written
returns-in-V6-clause-written c = rw (c.in-V6.is, ← c.to_be_bytes-in-V6.ensures) c.put_family-in-V6.ensures.written
