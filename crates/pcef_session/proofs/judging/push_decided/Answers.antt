use Rattle.std.proofs.Common.{◌∙◌, List, Some, ap, refl, subst, sym}
use Rattle.std.proofs.lemmas.List.Elements.{All-contains}
use Rattle.pcef_rule.specs.declared.quantity.Slot.{Slot}
use Rattle.pcef_model.specs.declared.verdict.Verdict.{Verdict}
use Rattle.pcef_model.specs.declared.verdict.Verdict.TheVariants.{Gated, Passed, Unmatched}
use Rattle.pcef_table.specs.declared.entry.TableEntry.{TableEntry}
use Rattle.pcef_table.specs.SessionSlots.{slots_up, with_flag_up}
use Rattle.pcef_table.specs.Sources.{IsKnown, source_fits}
use Rattle.pcef_table.specs.Tables.{TableValue}
use Rattle.pcef_table.proofs.Decided.{entry_counts}
use Rattle.pcef_base.proofs.Foremost.{none_passes}
use Rattle.pcef_index.proofs.Places.{got_is_there}
use Rattle.pcef_session.specs.Deciding.{Adds}
use Rattle.pcef_session.proofs.Deciding.{adds_decided, gated_by, passed_by}
use Rattle.pcef_session.proofs.judging.push_decided.Goals as goal

pub returns-in_default-clause-added : goal.returns-in_default-clause-added
returns-in_default-clause-added g c =
    let offers = g.C.Offers.offers c.args.catalog.now in
    let entries = c.args.held.now.entries in
    record {
      verdict = Unmatched;
      added = subst (λ (xs : List Slot). Adds c.args.id c.args.header.now Unmatched xs c.args.items.now.items c.push.new.items.items) c.new.ensures c.push.ensures.added;
      verdict_is = λ ue own first. (own, none_passes (λ (e : TableEntry). source_fits offers ue c.args.header.now e.source) entries (sym first ∙ sym c.in_default.ensures.entry));
      placed = refl;
    }

pub properties-properties-requires : goal.properties-properties-requires
properties-properties-requires g c =
    let offers = g.C.Offers.offers c.args.catalog.now in
    let entries = c.args.held.now.entries in
    All-contains (λ (e : TableEntry). IsKnown offers e.source) entries c.in-Some.entry.now c.requires.table.known
    (got_is_there entries c.in-Some.place c.in-Some.entry.now c.in-Some.ensures.place)

pub returns-then-not-opens-clause-added : goal.returns-then-not-opens-clause-added
returns-then-not-opens-clause-added g c =
    let offers = g.C.Offers.offers c.args.catalog.now in
    let entry = c.in-Some.entry.now in
    let dir = c.args.header.now.dir in
    adds_decided offers c.args.held.now entry c.args.place c.in-Some.place c.args.id c.args.header.now (Gated c.copy-rule.result) c.new-then-not-opens.result.items
    c.args.items.now.items c.push-then-not-opens.new.items.items c.requires.table c.in-Some.ensures.place (sym c.in-Some.ensures.entry)
    (gated_by offers entry c.properties-properties.result.now dir c.properties-properties.ensures (sym c.opens.ensures ∙ c.if-not-opens.true)
    ∙ ap (λ n. Some (Gated n)) (sym c.copy-rule.ensures))
    c.new-then-not-opens.ensures c.push-then-not-opens.ensures.added

pub returns-clause-added : goal.returns-clause-added
returns-clause-added g c =
    let offers = g.C.Offers.offers c.args.catalog.now in
    let t : TableValue = c.args.held.now in
    let entry = c.in-Some.entry.now in
    let dir = c.args.header.now.dir in
    let verdict : Verdict = Passed c.copy-rule-2.result entry.bearer in
    let by = passed_by offers entry c.properties-properties.result.now dir c.properties-properties.ensures (sym c.opens.ensures ∙ c.if-not-opens.false)
    ∙ ap (λ n. Some (Passed n entry.bearer)) (sym c.copy-rule-2.ensures) in
    let own = c.counted_slot.ensures
    ∙ entry_counts offers t.entries entry dir verdict c.requires.table.names (got_is_there t.entries c.in-Some.place entry c.in-Some.ensures.place) by in
    let slots = c.slots_where_passed-slots.ensures
    ∙ ap (λ (held : TableValue). slots_up (with_flag_up c.counted_slot.result held.session)) c.table.ensures
    ∙ ap (λ slot. slots_up (with_flag_up slot t.session)) own in
    adds_decided offers t entry c.args.place c.in-Some.place c.args.id c.args.header.now verdict c.slots_where_passed-slots.result.items
    c.args.items.now.items c.push-2.new.items.items c.requires.table c.in-Some.ensures.place (sym c.in-Some.ensures.entry) by slots c.push-2.ensures.added
