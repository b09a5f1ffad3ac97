-- From the first entry that fits to the verdict.
use Rattle.std.proofs.Common.{◌≡◌, ◌∙◌, ◌⊎◌, ℕ, List, [], Some, None, find, ap, inl, inr, refl, sym, subst, true, AllPairs, Contains}
use Rattle.std.specs.Prelude.{Option, slice_get}
use Rattle.std.specs.Option.{option_map, option_map_or}
use Rattle.std.proofs.lemmas.Bool.{cond_both}
use Rattle.std.proofs.lemmas.List.Elements.{All-contains}
use Rattle.std.proofs.lemmas.Slice.Eq.{bytes_eq-Decides}
use Rattle.pcef_packet.specs.declared.header.Addr.{Addr}
use Rattle.pcef_packet.specs.declared.header.Dir.{Dir}
use Rattle.pcef_packet.specs.declared.header.Header.{Header}
use Rattle.pcef_packet.specs.Addresses.{is_assigned, ue_side}
use Rattle.pcef_rule.specs.declared.rule.Properties.{Properties}
use Rattle.pcef_rule.specs.Gate.{opens}
use Rattle.pcef_table.specs.declared.entry.TableEntry.{TableEntry}
use Rattle.pcef_catalog.specs.declared.listing.Offer.{Offer}
use Rattle.pcef_model.specs.declared.verdict.Verdict.{Verdict}
use Rattle.pcef_model.specs.declared.verdict.Verdict.TheVariants.{Gated, Passed, Stray, Unmatched}
use Rattle.pcef_table.specs.Sources.{source_fits, source_is_named, name_of, properties_of}
use Rattle.pcef_table.specs.Tables.{AreNamedApart, GoesBefore, TableValue}
use Rattle.pcef_table.specs.SessionSlots.{slots_beside, slots_counted}
use Rattle.pcef_table.specs.Verdicts.{IsDecisive, IsPlaced, IsVerdict, counted_slot, gate_verdict, slot_by, slot_for, verdict_by}
use Rattle.pcef_base.proofs.Foremost.{found_is_foremost}
use Rattle.pcef_base.proofs.Found.{find_some}

-- the first entry that fits is decisive
first_is_decisive : (offers : List Offer) (entries : List TableEntry) (ue : Addr) (header : Header) (e : TableEntry) (p : Properties) → AllPairs (GoesBefore offers) entries → find (λ (f : TableEntry). source_fits offers ue header f.source) entries ≡ Some e → properties_of offers e.source ≡ Some p → IsDecisive offers entries ue header e p
first_is_decisive offers entries ue header e p ordered found known =
    let foremost = found_is_foremost (GoesBefore offers) (λ (f : TableEntry). source_fits offers ue header f.source) entries e ordered found in
    record {
      there = foremost.there;
      properties_are = known;
      fitting = foremost.passes;
      first = foremost.first;
    }

-- where the first entry that fits is known, its gate decides
pub gate_decides : (offers : List Offer) (entries : List TableEntry) (ue : Addr) (header : Header) (e : TableEntry) (p : Properties) (verdict : Verdict) → is_assigned (ue_side header) ue ≡ true → AllPairs (GoesBefore offers) entries → find (λ (f : TableEntry). source_fits offers ue header f.source) entries ≡ Some e → properties_of offers e.source ≡ Some p → verdict ≡ gate_verdict p e.bearer header.dir → IsVerdict offers entries ue header verdict
gate_decides offers entries ue header e p verdict own ordered found known is =
    let decisive = first_is_decisive offers entries ue header e p ordered found known in
    subst (IsVerdict offers entries ue header) (sym is)
    (cond_both (opens p.gate header.dir) (Passed p.name e.bearer) (Gated p.name) (IsVerdict offers entries ue header)
    (λ opening. (own, e, p, decisive, opening, refl, refl))
    (λ closing. (own, e, p, decisive, closing, refl)))

-- ---- the slot
-- where no two entries have one name, an entry is the first of its name
named_is_found : (offers : List Offer) (entries : List TableEntry) (e : TableEntry) → AllPairs (AreNamedApart offers) entries → Contains entries e → find (λ (f : TableEntry). source_is_named offers (name_of offers e.source) f.source) entries ≡ Some e
named_is_found offers entries e apart there =
    let named = λ (f : TableEntry). source_is_named offers (name_of offers e.source) f.source in
    let own : named e ≡ true = (bytes_eq-Decides (name_of offers e.source) (name_of offers e.source)).1 refl in
    let some = find_some named entries e there own in
    let foremost = found_is_foremost (AreNamedApart offers) named entries some.0 apart some.1 in
    elim (All-contains (λ (y : TableEntry). named y ≡ true → (y ≡ some.0) ⊎ AreNamedApart offers some.0 y) entries e foremost.first there own) [
      | inl same ↦ some.1 ∙ ap (λ y. Some y) (sym same)
      | inr differs ↦ absurd (differs ((bytes_eq-Decides (name_of offers some.0.source) (name_of offers e.source)).0 foremost.passes))
    ]

-- where no two entries have one name, the entry of the properties' name is the one that has them
named_by : (offers : List Offer) (entries : List TableEntry) (e : TableEntry) (p : Properties) → AllPairs (AreNamedApart offers) entries → Contains entries e → properties_of offers e.source ≡ Some p → find (λ (f : TableEntry). source_is_named offers p.name f.source) entries ≡ Some e
named_by offers entries e p apart there known =
    subst (λ (n : List ℕ). find (λ (f : TableEntry). source_is_named offers n f.source) entries ≡ Some e) (ap (λ o. option_map_or (λ (q : Properties). q.name) o []) known) (named_is_found offers entries e apart there)

-- what an entry's gate decides is one of two verdicts that name its rule
decided_by : (offers : List Offer) (e : TableEntry) (dir : Dir) (verdict : Verdict) → verdict_by offers dir e ≡ Some verdict → (p : Properties) × (properties_of offers e.source ≡ Some p) × (gate_verdict p e.bearer dir ≡ verdict)
decided_by offers e dir verdict by = from (properties_of offers e.source) refl
  where
    from : (o : Option Properties) → properties_of offers e.source ≡ o → (p : Properties) × (properties_of offers e.source ≡ Some p) × (gate_verdict p e.bearer dir ≡ verdict)
    from None none = let e : None ≡ Some verdict = sym (ap (option_map (λ (p : Properties). gate_verdict p e.bearer dir)) none) ∙ by in absurd cc
    from (Some p) known =
        let is : Some (gate_verdict p e.bearer dir) ≡ Some verdict = sym (ap (option_map (λ (q : Properties). gate_verdict q e.bearer dir)) known) ∙ by in
        (p, known, cc)

-- the slot of what an entry's gate decides is that of the entry
pub entry_counts : (offers : List Offer) (entries : List TableEntry) (e : TableEntry) (dir : Dir) (verdict : Verdict) → AllPairs (AreNamedApart offers) entries → Contains entries e → verdict_by offers dir e ≡ Some verdict → slot_by e verdict ≡ slot_for offers entries verdict
entry_counts offers entries e dir verdict apart there by =
    let decided = decided_by offers e dir verdict by in
    let p : Properties = decided.0 in
    subst (λ v. slot_by e v ≡ slot_for offers entries v) decided.2
    (cond_both (opens p.gate dir) (Passed p.name e.bearer) (Gated p.name) (λ v. slot_by e v ≡ slot_for offers entries v)
    (λ _. ap (λ o. option_map_or counted_slot o None) (sym (named_by offers entries e p apart there decided.1)))
    (λ _. refl))

-- the place of an entry is that of the rule that its gate's verdict names
pub entry_is_placed : (offers : List Offer) (entries : List TableEntry) (e : TableEntry) (dir : Dir) (verdict : Verdict) (place : ℕ) → AllPairs (AreNamedApart offers) entries → Contains entries e → slice_get entries place ≡ Some e → verdict_by offers dir e ≡ Some verdict → IsPlaced offers entries verdict (Some place)
entry_is_placed offers entries e dir verdict place apart there at by =
    let decided = decided_by offers e dir verdict by in
    let p : Properties = decided.0 in
    let is : slice_get entries place ≡ find (λ (f : TableEntry). source_is_named offers p.name f.source) entries = at ∙ sym (named_by offers entries e p apart there decided.1) in
    subst (λ v. IsPlaced offers entries v (Some place)) decided.2
    (cond_both (opens p.gate dir) (Passed p.name e.bearer) (Gated p.name) (λ v. IsPlaced offers entries v (Some place)) (λ _. is) (λ _. is))

-- where the first entry that fits is known, what its gate decides is the verdict
pub entry_decides : (offers : List Offer) (entries : List TableEntry) (ue : Addr) (header : Header) (e : TableEntry) (verdict : Verdict) → is_assigned (ue_side header) ue ≡ true → AllPairs (GoesBefore offers) entries → find (λ (f : TableEntry). source_fits offers ue header f.source) entries ≡ Some e → verdict_by offers header.dir e ≡ Some verdict → IsVerdict offers entries ue header verdict
entry_decides offers entries ue header e verdict own ordered found by =
    let decided = decided_by offers e header.dir verdict by in
    gate_decides offers entries ue header e decided.0 verdict own ordered found decided.1 (sym decided.2)

-- what is found is there
pub found_there : (offers : List Offer) (entries : List TableEntry) (ue : Addr) (header : Header) (e : TableEntry) → AllPairs (GoesBefore offers) entries → find (λ (f : TableEntry). source_fits offers ue header f.source) entries ≡ Some e → Contains entries e
found_there offers entries ue header e ordered found =
    (found_is_foremost (GoesBefore offers) (λ (f : TableEntry). source_fits offers ue header f.source) entries e ordered found).there

-- the slots of a verdict are its own slot and those of the keys of session level
pub beside_counted : (offers : List Offer) (t : TableValue) (v : Verdict) → slots_beside (slot_for offers t.entries v) t.session v ≡ slots_counted offers t v
beside_counted offers t Stray = refl
beside_counted offers t Unmatched = refl
beside_counted offers t (Gated rule) = refl
beside_counted offers t (Passed rule bearer) = refl
