use Rattle.std.proofs.Common.{◌∙◌, sym, ap, rules}
use Rattle.pcef_packet.specs.declared.header.Addr.TheVariants.{V6}
use Rattle.pcef_packet.proofs.Packing.{read_again}
use Rattle.pcef_packet.proofs.packed.PackedAddr.new.Goals as goal

pub returns-in-V6 : goal.returns-in-V6
returns-in-V6 c = ap V6 (read_again 16 c.in-V6.number c.write_u128.new.buf _ c.write_u128.ensures (search rules)) ∙ sym c.in-V6.is
