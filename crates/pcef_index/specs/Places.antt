-- The place of the rule that decides.
use Rattle.std.specs.Prelude.{ℕ, ◌≡◌, List, Option, find, slice_get}
use Rattle.std.specs.Option.{option_and_then}
use Rattle.pcef_packet.specs.declared.header.Addr.{Addr}
use Rattle.pcef_packet.specs.declared.header.Header.{Header}
use Rattle.pcef_catalog.specs.declared.listing.Offer.{Offer}
use Rattle.pcef_table.specs.declared.entry.TableEntry.{TableEntry}
use Rattle.pcef_table.specs.Sources.{source_fits}

-- at this place stands the first entry that fits a packet, and no place stands for that none does
abbrev pub IsFirstPlace : List Offer → List TableEntry → Addr → Header → Option ℕ → Type 0
IsFirstPlace offers entries ue header place =
    option_and_then (λ n. slice_get entries n) place ≡ find (λ e. source_fits offers ue header e.source) entries
