use Rattle.std.proofs.Common.{◌≡◌, ℕ, find, take, List, Option}
use Rattle.std.specs.Prelude.{option_map}
use Rattle.pcef_packet.specs.declared.header.Addr.{Addr}
use Rattle.pcef_packet.specs.declared.header.Header.{Header}
use Rattle.pcef_catalog.specs.declared.listing.Offer.{Offer}
use Rattle.pcef_index.specs.declared.lines.Line.{Line}
use Rattle.pcef_index.specs.private.Kinds.{kind_of}
use Rattle.pcef_index.specs.private.Lines.{standing_fits}
use Rattle.pcef_index.specs.private.Words.{first_of}
use Rattle.pcef_index.proofs.kinds.numbers_of.Given as goal

abbrev pub invariant-loop-number : goal.invariant-loop-number
invariant-loop-number l =
    (places : List (Option ℕ)) (offers : List Offer) (ue : Addr) (h : Header) → kind_of h ≡ l.kind
    → first_of (standing_fits places offers ue h) l.lines l.numbers.items
    ≡ option_map (λ (x : Line). x.place) (find (standing_fits places offers ue h) (take l.number l.lines))
