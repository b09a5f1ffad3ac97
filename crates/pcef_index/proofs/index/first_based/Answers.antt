use Rattle.std.proofs.Common.{◌∙◌, Some, ap, subst, sym}
use Rattle.std.specs.Prelude.{slice_get}
use Rattle.pcef_index.specs.private.Bases.{IsFirstOf, fits_at}
use Rattle.pcef_index.proofs.Entries.{entry_at, known_at, no_entry, sources_of}
use Rattle.pcef_index.proofs.index.first_based.Goals as goal

pub returns-in_default-clause-first : goal.returns-in_default-clause-first
returns-in_default-clause-first g c =
    let offers = g.C.Offers.offers c.args.catalog.now in
    let entries = c.args.table.now.entries in
    let first = c.first_place.ensures (sources_of entries) c.requires.based in
    sym (no_entry offers c.args.ue.now c.args.header.now entries (subst (IsFirstOf (fits_at offers c.args.ue.now c.args.header.now (sources_of entries))) c.in_default.is first))

pub returns-in_default-entry-clause-first : goal.returns-in_default-entry-clause-first
returns-in_default-entry-clause-first g c =
    let offers = g.C.Offers.offers c.args.catalog.now in
    let entries = c.args.table.now.entries in
    let first = c.first_place.ensures (sources_of entries) c.requires.based in
    c.in_default-entry.ensures ∙ ap (slice_get entries) c.from.ensures
    ∙ entry_at offers c.args.ue.now c.args.header.now c.in-Some.place entries (subst (IsFirstOf (fits_at offers c.args.ue.now c.args.header.now (sources_of entries))) c.in-Some.is first)

pub returns-clause-known : goal.returns-clause-known
returns-clause-known g c =
    known_at (g.C.Offers.offers c.args.catalog.now) c.args.table.now.entries c.from.result (Some c.in-Some-entry.entry) c.requires.table.known c.in-Some-entry.ensures

pub returns-clause-first : goal.returns-clause-first
returns-clause-first g c =
    let offers = g.C.Offers.offers c.args.catalog.now in
    let entries = c.args.table.now.entries in
    let first = c.first_place.ensures (sources_of entries) c.requires.based in
    c.in-Some-entry.ensures ∙ ap (slice_get entries) c.from.ensures
    ∙ entry_at offers c.args.ue.now c.args.header.now c.in-Some.place entries (subst (IsFirstOf (fits_at offers c.args.ue.now c.args.header.now (sources_of entries))) c.in-Some.is first)
