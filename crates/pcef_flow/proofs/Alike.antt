-- Rules that look at nothing but the flow of a packet fit all packets of a flow, or none.
use Rattle.std.proofs.Common.{◌≡◌, ◌∙◌, ℕ, ap, refl, sym, true, false, List, [], ◌∷◌, Some, None, find}
use Rattle.std.specs.Prelude.{Option, ◌&&◌, ◌||◌, if◌then◌else◌, slice_get}
use Rattle.std.specs.List.{list_all, list_any}
use Rattle.std.specs.Option.{option_map_or}
use Rattle.std.proofs.lemmas.Bool.{and_parts}
use Rattle.pcef_packet.specs.declared.header.Addr.{Addr}
use Rattle.pcef_packet.specs.declared.header.Dir.{Dir}
use Rattle.pcef_packet.specs.declared.header.Dir.TheVariants.{Up, Down}
use Rattle.pcef_packet.specs.declared.header.Header.{Header}
use Rattle.pcef_packet.specs.Addresses.{agrees_in, is_assigned, remote_side_in, ue_side}
use Rattle.pcef_filter.specs.declared.filter.Filter.{Filter}
use Rattle.pcef_filter.specs.Matching.{AsWritten, Exchanged, NotApplied, Orientation, matches, orientation_of, oriented_fits, proto_fits}
use Rattle.pcef_catalog.specs.declared.listing.Offer.{Offer}
use Rattle.pcef_catalog.specs.declared.shape.Test.{Test}
use Rattle.pcef_catalog.specs.declared.shape.Test.TheVariants.{Proto, Dscp, RemotePort, LocalPort, RemoteIn, OctetsAtMost, Going}
use Rattle.pcef_catalog.specs.Shapes.{shape_holds, shape_ignores_volume, test_holds, test_ignores_volume}
use Rattle.pcef_table.specs.declared.entry.Source.{Source}
use Rattle.pcef_table.specs.declared.entry.Source.TheVariants.{Dynamic, Predefined}
use Rattle.pcef_table.specs.declared.entry.TableEntry.{TableEntry}
use Rattle.pcef_table.specs.Sources.{source_fits}
use Rattle.pcef_index.specs.Places.{IsFirstPlace}
use Rattle.pcef_flow.specs.Flows.{all_ignore_volume, flow_of, ignores_volume}

remote_alike : (d : Dir) (h : Header) → remote_side_in d h ≡ remote_side_in d (flow_of h)
remote_alike Up h = refl
remote_alike Down h = refl

test_alike : (h : Header) (t : Test) → test_ignores_volume t ≡ true → test_holds h t ≡ test_holds (flow_of h) t
test_alike h (Proto proto) ignores = refl
test_alike h (Dscp point) ignores = refl
test_alike h (RemotePort low high) ignores = refl
test_alike h (LocalPort low high) ignores = refl
test_alike h (RemoteIn net) ignores = ap (λ a. agrees_in net.bits a net.addr) (remote_alike h.dir h)
test_alike h (OctetsAtMost most) ignores = absurd cc
test_alike h (Going dir) ignores = refl

tests_alike : (h : Header) (ts : List Test) → list_all test_ignores_volume ts ≡ true → list_all (test_holds h) ts ≡ list_all (test_holds (flow_of h)) ts
tests_alike h [] ignore = refl
tests_alike h (t ∷ ts) ignore =
    let parts = and_parts (test_ignores_volume t) (list_all test_ignores_volume ts) ignore in
    ap (λ b. b && list_all (test_holds h) ts) (test_alike h t parts.0) ∙ ap (λ b. test_holds (flow_of h) t && b) (tests_alike h ts parts.1)

shape_alike : (h : Header) (shape : List (List Test)) → shape_ignores_volume shape ≡ true → shape_holds shape h ≡ shape_holds shape (flow_of h)
shape_alike h [] ignores = refl
shape_alike h (ts ∷ shape) ignores =
    let parts = and_parts (list_all test_ignores_volume ts) (shape_ignores_volume shape) ignores in
    ap (λ b. b || shape_holds shape h) (tests_alike h ts parts.0) ∙ ap (λ b. list_all (test_holds (flow_of h)) ts || b) (shape_alike h shape parts.1)

offer_alike : (h : Header) (o : Option Offer) → option_map_or (λ (f : Offer). shape_ignores_volume f.shape) o true ≡ true
    → option_map_or (λ (f : Offer). shape_holds f.shape h) o false ≡ option_map_or (λ (f : Offer). shape_holds f.shape (flow_of h)) o false
offer_alike h None ignores = refl
offer_alike h (Some f) ignores = shape_alike h f.shape ignores

oriented_alike : (o : Orientation) (f : Filter) (ue : Addr) (h : Header) → oriented_fits o f ue h ≡ oriented_fits o f ue (flow_of h)
oriented_alike AsWritten f ue h = refl
oriented_alike Exchanged f ue h = refl
oriented_alike NotApplied f ue h = refl

filter_alike : (f : Filter) (ue : Addr) (h : Header) → matches f ue h ≡ matches f ue (flow_of h)
filter_alike f ue h = ap (λ b. proto_fits f.proto h.proto && b) (oriented_alike (orientation_of f.direction f.flow h.dir) f ue h)

filters_alike : (ue : Addr) (h : Header) (fs : List Filter) → list_any (λ f. matches f ue h) fs ≡ list_any (λ f. matches f ue (flow_of h)) fs
filters_alike ue h [] = refl
filters_alike ue h (f ∷ fs) =
    ap (λ b. b || list_any (λ g. matches g ue h) fs) (filter_alike f ue h) ∙ ap (λ b. matches f ue (flow_of h) || b) (filters_alike ue h fs)

source_alike : (offers : List Offer) (ue : Addr) (h : Header) (s : Source) → ignores_volume offers s ≡ true → source_fits offers ue h s ≡ source_fits offers ue (flow_of h) s
source_alike offers ue h (Dynamic rule) ignores = filters_alike ue h rule.filters
source_alike offers ue h (Predefined index) ignores = offer_alike h (slice_get offers index) ignores

found_alike : (offers : List Offer) (ue : Addr) (h : Header) (es : List TableEntry) → all_ignore_volume offers es ≡ true
    → find (λ (e : TableEntry). source_fits offers ue h e.source) es ≡ find (λ (e : TableEntry). source_fits offers ue (flow_of h) e.source) es
found_alike offers ue h [] ignore = refl
found_alike offers ue h (e ∷ es) ignore =
    let parts = and_parts (ignores_volume offers e.source) (all_ignore_volume offers es) ignore in
    ap (λ b. if b then Some e else find (λ (f : TableEntry). source_fits offers ue h f.source) es) (source_alike offers ue h e.source parts.0)
    ∙ ap (λ o. if source_fits offers ue (flow_of h) e.source then Some e else o) (found_alike offers ue h es parts.1)

side_alike : (d : Dir) (h : Header) → ue_side (record h { dir = d }) ≡ ue_side (record (flow_of h) { dir = d })
side_alike Up h = refl
side_alike Down h = refl

-- packets of one flow are of the session, or none is
pub own_alike : (ue : Addr) (h k : Header) → flow_of h ≡ flow_of k → is_assigned (ue_side k) ue ≡ true → is_assigned (ue_side h) ue ≡ true
own_alike ue h k same own =
    ap (λ a. is_assigned a ue) (side_alike h.dir h ∙ ap (λ (f : Header). ue_side f) same ∙ sym (side_alike k.dir k)) ∙ own

-- the place that is first for one packet of a flow is so for each
pub flow_decides : (offers : List Offer) (es : List TableEntry) (ue : Addr) (h k : Header) (place : Option ℕ) → all_ignore_volume offers es ≡ true
    → flow_of h ≡ flow_of k → IsFirstPlace offers es ue k place → IsFirstPlace offers es ue h place
flow_decides offers es ue h k place ignore same first =
    first ∙ found_alike offers ue k es ignore
    ∙ ap (λ (f : Header). find (λ (e : TableEntry). source_fits offers ue f e.source) es) (sym same)
    ∙ sym (found_alike offers ue h es ignore)
