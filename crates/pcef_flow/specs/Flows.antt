-- What a cache of flows remembers (own choice).
use Rattle.std.specs.Prelude.{ℕ, ◌≡◌, Bool, true, List, Option, All, IfSome, slice_get}
use Rattle.std.specs.List.{list_all}
use Rattle.std.specs.Option.{option_map_or}
use Rattle.pcef_packet.specs.declared.header.Addr.{Addr}
use Rattle.pcef_packet.specs.declared.header.Header.{Header}
use Rattle.pcef_packet.specs.Addresses.{is_assigned, ue_side}
use Rattle.pcef_catalog.specs.declared.listing.Offer.{Offer}
use Rattle.pcef_catalog.specs.Shapes.{shape_ignores_volume}
use Rattle.pcef_table.specs.declared.entry.Source.{Source}
use Rattle.pcef_table.specs.declared.entry.Source.TheVariants.{Dynamic, Predefined}
use Rattle.pcef_table.specs.declared.entry.TableEntry.{TableEntry}
use Rattle.pcef_index.specs.Places.{IsFirstPlace}

-- what is read of a packet, its volume left out: the same for all packets of a flow with one code point
abbrev pub flow_of : Header → Header
flow_of h = record h { octets = 0 }

-- a rule that looks at nothing but the flow of a packet
abbrev pub ignores_volume : List Offer → Source → Bool
ignores_volume offers (Dynamic rule) = true
ignores_volume offers (Predefined index) = option_map_or (λ o. shape_ignores_volume o.shape) (slice_get offers index) true

abbrev pub all_ignore_volume : List Offer → List TableEntry → Bool
all_ignore_volume offers entries = list_all (λ e. ignores_volume offers e.source) entries

-- a flow, and the place of the rule that decides of its packets
pub record Note : Type 0 where
  pub flow : Header
  pub place : Option ℕ

-- the packet is the session's, and this is the place of the first entry that fits it
abbrev pub IsOwnPlace : List Offer → List TableEntry → Addr → Header → Option ℕ → Type 0
IsOwnPlace offers entries ue h place = (is_assigned (ue_side h) ue ≡ true) × IsFirstPlace offers entries ue h place

-- what is noted holds of each packet of the flow
abbrev pub IsRight : List Offer → List TableEntry → Addr → Note → Type 0
IsRight offers entries ue note = (h : Header) → flow_of h ≡ note.flow → IsOwnPlace offers entries ue h note.place

-- the places of a cache, some of which have a note, and whether it is used
pub record Flows : Type 0 where
  pub notes : List (Option Note)
  pub is_used : Bool

-- each note is right by these entries; where the cache is used, none of their rules looks at the volume
pub record Remembers (offers : List Offer) (entries : List TableEntry) (ue : Addr) (c : Flows) : Type 0 where
  pub right : All (λ place. IfSome place (IsRight offers entries ue)) c.notes
  pub used : c.is_used ≡ true → all_ignore_volume offers entries ≡ true
