use Rattle.std.proofs.Common.{◌≡◌, ◌∙◌, codes, map, string_bytes, sym}
use Rattle.pcef_renewal_lines.specs.Commands.{with_commas}
use Rattle.pcef_renewal_lines.proofs.Joined.{joined}
use Rattle.pcef_renewal_lines.proofs.answer.lines_text.Goals as goal

pub returns : goal.returns
returns c =
    let list : string_bytes c.in_ok-list.list ≡ with_commas (map string_bytes c.args.lines.now) = c.in_ok-list.ensures.ok ∙ joined string_bytes (codes ",") c.args.lines.now in
    rw (sym list) c.format.ensures.ok
