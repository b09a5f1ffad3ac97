use Rattle.std.proofs.Common.{◌∙◌, ap, codes, map, string_bytes}
use Rattle.std.proofs.lemmas.Result.{IfOk-weaker}
use Rattle.pcef_renewal_lines.specs.Filters.{filter_object}
use Rattle.pcef_renewal_lines.proofs.Joined.{joined_alike}
use Rattle.pcef_renewal_lines.proofs.filter.filters_text.Goals as goal

pub returns : goal.returns
returns c =
    IfOk-weaker c.join.result _ _
    (λ text is. is ∙ joined_alike string_bytes filter_object (codes ",") c.deref.result.now c.args.filters.now (ap (map string_bytes) c.deref.ensures.value ∙ c.in_ok-filter_objects.ensures))
    c.join.ensures.ok
