use Rattle.std.proofs.Common.{◌≡◌, ◌∙◌, ap, codes, map, string_bytes, sym}
use Rattle.std.specs.List.{join_by}
use Rattle.pcef_renewal_lines.specs.Filters.{range_text}
use Rattle.pcef_renewal_lines.proofs.Joined.{joined_alike}
use Rattle.pcef_renewal_lines.proofs.Ports.{some_ports}
use Rattle.pcef_renewal_lines.proofs.filter.ports_text.Goals as goal

pub returns : goal.returns
returns c =
    let ports = c.args.ports.now in
    let are : map string_bytes c.deref.result.now ≡ map range_text ports = ap (map string_bytes) c.deref.ensures.value ∙ c.in_ok-range_texts.ensures in
    let list : string_bytes c.in_ok-list.list ≡ join_by range_text (codes ",") ports = c.in_ok-list.ensures.ok ∙ joined_alike string_bytes range_text (codes ",") c.deref.result.now ports are in
    rw (some_ports ports c.is_empty.result c.is_empty.ensures c.if-is_empty.false, sym list) c.format.ensures.ok
