use Rattle.std.proofs.Common.{◌∙◌, List, None, ap, find}
use Rattle.std.specs.Option.{option_map_or}
use Rattle.pcef_table.specs.declared.entry.TableEntry.{TableEntry}
use Rattle.pcef_table.specs.Sources.{source_is_named}
use Rattle.pcef_table.specs.Verdicts.{counted_slot}
use Rattle.pcef_table.proofs.table.Table.counts.Goals as goal

pub returns-in-Passed : goal.returns-in-Passed
returns-in-Passed g c =
    let offers = g.C.Offers.offers c.args.catalog.now in
    rw c.in-Passed.is (c.slot_of.ensures ∙ ap (λ (l : List TableEntry). option_map_or counted_slot (find (λ (e : TableEntry). source_is_named offers c.in-Passed.rule e.source) l) None) c.entries.ensures.entries)
