use Rattle.std.proofs.Common.{◌∙◌, ap}
use Rattle.pcef_filter.specs.declared.filter.Endpoint.{Endpoint}
use Rattle.pcef_filter.specs.Matching.{place_fits}
use Rattle.pcef_index.specs.declared.kinds.Kind.{Kind}
use Rattle.pcef_index.specs.declared.sides.Side.TheVariants.{Remote}
use Rattle.pcef_index.specs.private.Sides.{addr_on}
use Rattle.pcef_index.proofs.Matching.{sides_match}
use Rattle.pcef_index.proofs.kinds.may_match.Goals as goal

pub returns-then-is_of_class : goal.returns-then-is_of_class
returns-then-is_of_class c ue h is fits =
    c.is_of_version.ensures ue (addr_on Remote h)
    (ap (λ (e : Endpoint). place_fits e.place ue (addr_on Remote h)) c.end_on.ensures ∙ (sides_match c.args.filter.now ue h fits).remote.place)
    (ap (λ (k : Kind). k.version) is)
