use Rattle.std.proofs.Common.{◌∙◌, sym}
use Rattle.pcef_table.specs.declared.entry.TableEntry.{TableEntry}
use Rattle.pcef_table.specs.Sources.{source_fits}
use Rattle.pcef_table.proofs.Decided.{gate_decides}
use Rattle.pcef_base.proofs.Foremost.{none_passes}
use Rattle.pcef_index.proofs.indexed.Indexed.classify.Goals as goal

pub returns-in_default : goal.returns-in_default
returns-in_default g c =
    let offers = g.C.Offers.offers c.args.catalog.now in
    let passes = λ (e : TableEntry). source_fits offers c.args.ue c.args.header.now e.source in
    (sym c.is_own.ensures ∙ c.if-not-is_own.false, none_passes passes c.args.self.now.entries (sym c.in_default.ensures.first))

pub returns : goal.returns
returns g c =
    let offers = g.C.Offers.offers c.args.catalog.now in
    gate_decides offers c.args.self.now.entries c.args.ue c.args.header.now c.in-Some.entry.now c.properties-properties.result.now c.gate_verdict.result
    (sym c.is_own.ensures ∙ c.if-not-is_own.false) c.requires.ordered (sym c.in-Some.ensures.first) c.properties-properties.ensures c.gate_verdict.ensures
