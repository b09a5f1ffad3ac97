use Rattle.std.proofs.Common.{◌≡◌, ◌∙◌, Some, None, ap, find, sym}
use Rattle.pcef_table.specs.declared.entry.TableEntry.{TableEntry}
use Rattle.pcef_table.specs.Sources.{source_fits}
use Rattle.pcef_table.proofs.Decided.{gate_decides}
use Rattle.pcef_base.proofs.Foremost.{none_passes}
use Rattle.pcef_table.proofs.table.Table.classify.Goals as goal

pub returns-in-None : goal.returns-in-None
returns-in-None g c =
    let offers = g.C.Offers.offers c.args.catalog.now in
    let passes = λ (e : TableEntry). source_fits offers c.args.ue c.args.header.now e.source in
    let none : find passes c.args.self.now.entries ≡ None = ap (find passes) (sym c.entries.ensures.entries) ∙ sym c.in-None.ensures.first in
    (sym c.is_own.ensures ∙ c.if-not-is_own.false, none_passes passes c.args.self.now.entries none)

pub returns-in-Some : goal.returns-in-Some
returns-in-Some g c =
    let offers = g.C.Offers.offers c.args.catalog.now in
    let passes = λ (e : TableEntry). source_fits offers c.args.ue c.args.header.now e.source in
    let found : find passes c.args.self.now.entries ≡ Some c.in-Some.entry.now = ap (find passes) (sym c.entries.ensures.entries) ∙ sym c.in-Some.ensures.first in
    gate_decides offers c.args.self.now.entries c.args.ue c.args.header.now c.in-Some.entry.now c.properties-properties.result.now c.gate_verdict.result
    (sym c.is_own.ensures ∙ c.if-not-is_own.false) c.requires.ordered found c.properties-properties.ensures c.gate_verdict.ensures
