-- Rows that no rule matches, as tests hand them over.
use Rattle.std.specs.Prelude.{ℕ, None, []}
use Rattle.pcef_packet.specs.declared.header.Addr.{Addr}
use Rattle.pcef_packet.specs.declared.header.Addr.TheVariants.{V4}
use Rattle.pcef_packet.specs.declared.header.Dir.TheVariants.{Up}
use Rattle.pcef_model.specs.declared.verdict.Verdict.TheVariants.{Unmatched}
use Rattle.pcef_session.specs.declared.batch.Item.{Item}

-- 10.0.0.2
abbrev pub ue : Addr
ue = V4 167772162

-- the row of worker 0 with this number: an ICMP packet of 100 octets to 198.51.100.7
abbrev pub unmatched_item : ℕ → Item
unmatched_item number = record {
  row = record {
    worker = 0;
    seq = number;
    generation = 0;
    header = record { dir = Up; src = ue; dst = V4 3325256711; proto = 1; ports = None; octets = 100; dscp = 0 };
    verdict = Unmatched;
  };
  slots = record { items = [] };
}
