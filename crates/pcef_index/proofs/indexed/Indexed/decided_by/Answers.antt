use Rattle.std.proofs.Common.{◌∙◌, ap}
use Rattle.std.proofs.lemmas.List.Elements.{All-contains}
use Rattle.pcef_table.specs.declared.entry.TableEntry.{TableEntry}
use Rattle.pcef_table.specs.SessionSlots.{slots_beside}
use Rattle.pcef_table.specs.Sources.{IsKnown}
use Rattle.pcef_table.specs.Tables.{TableValue}
use Rattle.pcef_table.proofs.Decided.{beside_counted, entry_counts, entry_is_placed}
use Rattle.pcef_index.proofs.Places.{got_is_there}
use Rattle.pcef_index.proofs.indexed.Indexed.decided_by.Goals as goal

pub judged_by-verdict-requires : goal.judged_by-verdict-requires
judged_by-verdict-requires g c =
    let offers = g.C.Offers.offers c.args.catalog.now in
    let entries = c.args.self.now.entries in
    All-contains (λ (e : TableEntry). IsKnown offers e.source) entries c.args.entry.now c.requires.table.known
    (got_is_there entries c.args.place c.args.entry.now c.requires.there)

pub returns-clause-place : goal.returns-clause-place
returns-clause-place g c =
    let offers = g.C.Offers.offers c.args.catalog.now in
    let entries = c.args.self.now.entries in
    let entry = c.args.entry.now in
    entry_is_placed offers entries entry c.args.header.now.dir c.judged_by-verdict.result.0 c.args.place c.requires.table.names
    (got_is_there entries c.args.place entry c.requires.there) c.requires.there c.judged_by-verdict.ensures.verdict

pub returns-clause-slots : goal.returns-clause-slots
returns-clause-slots g c =
    let offers = g.C.Offers.offers c.args.catalog.now in
    let entries = c.args.self.now.entries in
    let entry = c.args.entry.now in
    let own = c.judged_by-verdict.ensures.slot
    ∙ entry_counts offers entries entry c.args.header.now.dir c.judged_by-verdict.result.0 c.requires.table.names
    (got_is_there entries c.args.place entry c.requires.there) c.judged_by-verdict.ensures.verdict in
    c.slots_beside-slots.ensures
    ∙ ap (λ (t : TableValue). slots_beside c.judged_by-verdict.result.1 t.session c.judged_by-verdict.result.0) c.self.view_is
    ∙ ap (λ o. slots_beside o c.args.self.now.session c.judged_by-verdict.result.0) own
    ∙ beside_counted offers c.args.self.now c.judged_by-verdict.result.0
