-- What a cache remembers as it is emptied and written.
use Rattle.std.proofs.Common.{◌≡◌, ◌∙◌, ℕ, ap, subst, sym, true, List, Some, None, All, Contains, map}
use Rattle.std.specs.Prelude.{IfSome, Option, option_map, replicate, set, slice_get}
use Rattle.std.proofs.lemmas.List.{map-set}
use Rattle.std.proofs.lemmas.List.Elements.{All-map, All-replicate, All-set}
use Rattle.std.proofs.lemmas.Option.{slice_get-map}
use Rattle.pcef_packet.specs.declared.header.Addr.{Addr}
use Rattle.pcef_packet.specs.declared.header.Header.{Header}
use Rattle.pcef_catalog.specs.declared.listing.Offer.{Offer}
use Rattle.pcef_table.specs.declared.entry.TableEntry.{TableEntry}
use Rattle.pcef_index.proofs.Places.{got_is_there}
use Rattle.pcef_flow.specs.declared.cache.Remembered.{Remembered}
use Rattle.pcef_flow.specs.Flows.{IsOwnPlace, IsRight, Note, all_ignore_volume, flow_of}
use Rattle.pcef_flow.specs.private.Packed.{header_of, note_of}
use Rattle.pcef_flow.proofs.Alike.{flow_decides, own_alike}

-- no place has a note
pub none_remembered : (offers : List Offer) (es : List TableEntry) (ue : Addr) (kept : List (Option Remembered)) (n : ℕ) → kept ≡ replicate n None
    → All (λ (place : Option Note). IfSome place (IsRight offers es ue)) (map note_of kept)
none_remembered offers es ue kept n is =
    let P : Option Note → Type 0 = λ place. IfSome place (IsRight offers es ue) in
    All-map P note_of kept (subst (λ xs. All (λ r. P (note_of r)) xs) (sym is) (All-replicate (λ r. P (note_of r)) n None tt))

-- what stands at a place is noted
pub noted : (kept : List (Option Remembered)) (at : ℕ) (r : Remembered) (h : Header) → slice_get kept at ≡ Some (Some r) → header_of r.flow ≡ flow_of h
    → Contains (map note_of kept) (Some (record { flow = flow_of h; place = r.place }))
noted kept at r h there same =
    got_is_there (map note_of kept) at _ (slice_get-map note_of kept at ∙ ap (λ o. option_map note_of o) there ∙ ap (λ f. Some (Some (record { flow = f; place = r.place }))) same)

-- a place that was found is noted
pub notes_one : (offers : List Offer) (es : List TableEntry) (ue : Addr) (kept : List (Option Remembered)) (at : ℕ) (r : Remembered) (h : Header) → all_ignore_volume offers es ≡ true
    → header_of r.flow ≡ flow_of h → IsOwnPlace offers es ue h r.place
    → All (λ (place : Option Note). IfSome place (IsRight offers es ue)) (map note_of kept)
    → All (λ (place : Option Note). IfSome place (IsRight offers es ue)) (map note_of (set kept at (Some r)))
notes_one offers es ue kept at r h ignore is own right =
    let P : Option Note → Type 0 = λ place. IfSome place (IsRight offers es ue) in
    rw (map-set note_of kept at (Some r))
    (All-set P (map note_of kept) at (note_of (Some r)) (λ k same. (own_alike ue k h (same ∙ is) own.0, flow_decides offers es ue k h r.place ignore (same ∙ is) own.1)) right)
