use Rattle.std.proofs.Common.{◌∙◌, sym, ap, ◌==◌}
use Rattle.std.specs.Prelude.{reverse, filter}
use Rattle.std.proofs.lemmas.List.{reverse-reverse}
use Rattle.pcef_journaled.specs.KeptRows.{lane_in, rows_of}
use Rattle.pcef_journaled.proofs.Walked.{filter-reverse}
use Rattle.pcef_journaled.proofs.store.Store.lane.Goals as goal

pub returns : goal.returns
returns c =
    let rows = rows_of c.self.inside.names.names c.self.inside.rows.items in
    rw (← c.self.view_is)
    (c.new.ensures ∙ ap (λ ns. lane_in c.args.worker ns c.as_slice.result.now) c.as_slice-2.ensures ∙ ap (lane_in c.args.worker c.self.inside.names.names) c.as_slice.ensures.value
    ∙ sym (ap reverse (filter-reverse (λ r. r.worker == c.args.worker) rows) ∙ reverse-reverse _))
