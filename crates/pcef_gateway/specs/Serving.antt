-- What a worker does with the packets that it takes.
use Rattle.std.specs.Prelude.{ℕ, ◌≡◌, ◌+◌, List, length, map, take}
use Rattle.pcef_packet.specs.declared.header.Header.{Header}
use Rattle.pcef_session.specs.declared.batch.Item.{Item}
use Rattle.pcef_lock.specs.HandedIn.{HandedIn, abandoned_by}

-- the packet of a row
abbrev pub item_header : Item → Header
item_header i = i.row.header

-- of these packets a worker handed in the first; the others were abandoned, or are among the
-- `dropped` ones
pub record HandsIn (packets : List Header) (dropped : ℕ) (h : HandedIn) : Type 0 where
  pub first : map item_header h.items ≡ take (length h.items) packets
  pub whole : length packets ≡ length h.items + abandoned_by h + dropped
