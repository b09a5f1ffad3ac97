use Rattle.std.proofs.Common.{◌∙◌, subst, sym}
use Rattle.pcef_table.specs.declared.entry.TableEntry.{TableEntry}
use Rattle.pcef_table.specs.Sources.{source_fits}
use Rattle.pcef_table.specs.Verdicts.{IsVerdict}
use Rattle.pcef_table.proofs.Decided.{entry_decides}
use Rattle.pcef_base.proofs.Foremost.{none_passes}
use Rattle.pcef_index.proofs.indexed.Indexed.judged.Goals as goal

pub returns-in_default-clause-verdict : goal.returns-in_default-clause-verdict
returns-in_default-clause-verdict g c =
    let offers = g.C.Offers.offers c.args.catalog.now in
    let passes = λ (e : TableEntry). source_fits offers c.args.ue c.args.header.now e.source in
    subst (IsVerdict offers c.args.self.now.entries c.args.ue c.args.header.now) (sym c.undecided-in_default.ensures.verdict)
    (sym c.is_own.ensures ∙ c.if-not-is_own.false, none_passes passes c.args.self.now.entries (sym c.in_default.ensures.first))

pub returns-clause-verdict : goal.returns-clause-verdict
returns-clause-verdict g c =
    let offers = g.C.Offers.offers c.args.catalog.now in
    entry_decides offers c.args.self.now.entries c.args.ue c.args.header.now c.in-Some.entry.now c.decided_by.result.verdict
    (sym c.is_own.ensures ∙ c.if-not-is_own.false) c.requires.ordered (sym c.in-Some.ensures.first) c.decided_by.ensures.verdict
