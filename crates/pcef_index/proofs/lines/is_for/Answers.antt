use Rattle.std.proofs.Common.{◌∙◌, ap}
use Rattle.pcef_filter.specs.declared.filter.Endpoint.{Endpoint}
use Rattle.pcef_filter.specs.Matching.{place_fits}
use Rattle.pcef_packet.specs.Addresses.{ue_side}
use Rattle.pcef_index.proofs.Matching.{sides_match}
use Rattle.pcef_index.proofs.lines.is_for.Goals as goal

pub returns : goal.returns
returns c h own fits =
    let sides = sides_match c.args.filter.now c.args.ue h fits in
    c.meets.ensures (ue_side h) own
    (ap (λ (e : Endpoint). place_fits e.place c.args.ue (ue_side h)) c.end_on.ensures ∙ sides.local.place)
