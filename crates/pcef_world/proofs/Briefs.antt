-- What the rule at a place decides, in brief, is the decision on a packet that its entry is the first to fit.
use Rattle.std.proofs.Common.{◌≡◌, ◌∙◌, ℕ, ap, arith, inl, inr, refl, sym, true, false, List, Some, None}
use Rattle.std.specs.Prelude.{Bool, Option, find, slice_get}
use Rattle.std.specs.Option.{option_map, option_map_or}
use Rattle.std.proofs.lemmas.Bool.{cases_Bool}
use Rattle.std.proofs.lemmas.List.Elements.{All-contains}
use Rattle.std.proofs.lemmas.Option.{slice_get-map, slice_get_cases}
use Rattle.pcef_packet.specs.declared.header.Addr.{Addr}
use Rattle.pcef_packet.specs.declared.header.Dir.{Dir}
use Rattle.pcef_packet.specs.declared.header.Dir.TheVariants.{Down, Up}
use Rattle.pcef_packet.specs.declared.header.Header.{Header}
use Rattle.pcef_packet.specs.Addresses.{is_assigned, ue_side}
use Rattle.pcef_rule.specs.declared.rule.Properties.{Properties}
use Rattle.pcef_rule.specs.Gate.{opens}
use Rattle.pcef_catalog.specs.declared.listing.Offer.{Offer}
use Rattle.pcef_model.specs.declared.verdict.Verdict.TheVariants.{Unmatched}
use Rattle.pcef_table.specs.declared.entry.Source.{Source}
use Rattle.pcef_table.specs.declared.entry.Source.TheVariants.{Dynamic, Predefined}
use Rattle.pcef_table.specs.declared.entry.TableEntry.{TableEntry}
use Rattle.pcef_table.specs.SessionSlots.{slots_beside, slots_counted}
use Rattle.pcef_table.specs.Sources.{IsKnown, properties_of, source_fits}
use Rattle.pcef_table.specs.Tables.{IsTable, TableValue}
use Rattle.pcef_table.specs.Verdicts.{gate_verdict, slot_by, verdict_by}
use Rattle.pcef_table.proofs.Decided.{beside_counted, entry_counts, entry_decides, entry_is_placed}
use Rattle.pcef_base.proofs.Foremost.{none_passes}
use Rattle.pcef_index.specs.Places.{IsFirstPlace}
use Rattle.pcef_index.proofs.Places.{got_is_there}
use Rattle.pcef_world.specs.Newest.{IsBriefOf, brief_of}
use Rattle.pcef_world.specs.private.Followed.{decided_at, opens_in, rule_brief, rule_briefs, rule_decides}

-- a rule that is known has its properties
has_properties : (offers : List Offer) (s : Source) → IsKnown offers s → (p : Properties) × (properties_of offers s ≡ Some p)
has_properties offers (Dynamic rule) known = (rule.properties, refl)
has_properties offers (Predefined index) known =
    elim (slice_get_cases offers index).1 [
      | inl there ↦ (there.0.properties, ap (option_map (λ (o : Offer). o.properties)) there.2)
      | inr past ↦ absurd (omega (arith, known, past.0))
    ]

opens_alike : (offers : List Offer) (session : List Bool) (e : TableEntry) (p : Properties) (dir : Dir) → properties_of offers e.source ≡ Some p → opens_in (rule_brief offers session e) dir ≡ opens p.gate dir
opens_alike offers session e p Up known = ap (λ o. option_map_or (λ (q : Properties). opens q.gate Up) o false) known
opens_alike offers session e p Down known = ap (λ o. option_map_or (λ (q : Properties). opens q.gate Down) o false) known

-- the rule's decision is that of its gate
rule_is_brief : (offers : List Offer) (t : TableValue) (e : TableEntry) (p : Properties) (dir : Dir) (place : ℕ) → properties_of offers e.source ≡ Some p
    → rule_decides t.number place dir (rule_brief offers t.session e)
    ≡ brief_of t.number (gate_verdict p e.bearer dir) (Some place) (slots_beside (slot_by e (gate_verdict p e.bearer dir)) t.session (gate_verdict p e.bearer dir))
rule_is_brief offers t e p dir place known =
    rw (opens_alike offers t.session e p dir known)
    (elim (cases_Bool (opens p.gate dir)) [ inl opening ↦ rw opening refl | inr closing ↦ rw closing refl ])

-- where an entry is the first that fits, its rule's decision is the brief one
entry_is_brief : (offers : List Offer) (t : TableValue) (ue : Addr) (header : Header) (place : ℕ) (e : TableEntry) → IsTable offers t.entries → is_assigned (ue_side header) ue ≡ true → slice_get t.entries place ≡ Some e
    → find (λ (f : TableEntry). source_fits offers ue header f.source) t.entries ≡ Some e → IsBriefOf offers t ue header (rule_decides t.number place header.dir (rule_brief offers t.session e))
entry_is_brief offers t ue header place e table own at found =
    let there = got_is_there t.entries place e at in
    let has = has_properties offers e.source (All-contains (λ (f : TableEntry). IsKnown offers f.source) t.entries e table.known there) in
    let p : Properties = has.0 in
    let v = gate_verdict p e.bearer header.dir in
    let by : verdict_by offers header.dir e ≡ Some v = ap (option_map (λ (q : Properties). gate_verdict q e.bearer header.dir)) has.1 in
    let counted : slots_beside (slot_by e v) t.session v ≡ slots_counted offers t v =
    ap (λ o. slots_beside o t.session v) (entry_counts offers t.entries e header.dir v table.names there by) ∙ beside_counted offers t v in (
      v,
      Some place,
      entry_decides offers t.entries ue header e v own table.ordered found by,
      entry_is_placed offers t.entries e header.dir v place table.names there at by,
      rule_is_brief offers t e p header.dir place has.1 ∙ ap (brief_of t.number v (Some place)) counted,
    )

none_is_brief : (offers : List Offer) (t : TableValue) (ue : Addr) (header : Header) → is_assigned (ue_side header) ue ≡ true
    → find (λ (f : TableEntry). source_fits offers ue header f.source) t.entries ≡ None → IsBriefOf offers t ue header (decided_at t.number (rule_briefs offers t) None header.dir)
none_is_brief offers t ue header own none = (Unmatched, None, (own, none_passes (λ (f : TableEntry). source_fits offers ue header f.source) t.entries none), refl, refl)

-- what the rule at the first place decides is the brief decision
pub place_is_brief : (offers : List Offer) (t : TableValue) (ue : Addr) (header : Header) (place : Option ℕ) → IsTable offers t.entries → is_assigned (ue_side header) ue ≡ true → IsFirstPlace offers t.entries ue header place
    → IsBriefOf offers t ue header (decided_at t.number (rule_briefs offers t) place header.dir)
place_is_brief offers t ue header None table own first = none_is_brief offers t ue header own (sym first)
place_is_brief offers t ue header (Some n) table own first = from (slice_get t.entries n) refl
  where
    from : (o : Option TableEntry) → slice_get t.entries n ≡ o → IsBriefOf offers t ue header (decided_at t.number (rule_briefs offers t) (Some n) header.dir)
    from None none =
        rw (slice_get-map (rule_brief offers t.session) t.entries n, none) (none_is_brief offers t ue header own (sym first ∙ none))
    from (Some e) there =
        rw (slice_get-map (rule_brief offers t.session) t.entries n, there) (entry_is_brief offers t ue header n e table own there (sym first ∙ there))
