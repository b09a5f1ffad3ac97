use Rattle.std.proofs.Common.{◌≡◌, ◌∙◌, ap, codes, map, string_bytes, sym}
use Rattle.pcef_renewal_lines.specs.Commands.{event_words, line_text, with_commas}
use Rattle.pcef_renewal_lines.proofs.Joined.{joined}
use Rattle.pcef_renewal_lines.proofs.command.triggers_line.Goals as goal

pub returns : goal.returns
unfolding line_text
returns c =
    let words = c.deref.result.now in
    let are : map string_bytes words ≡ event_words c.args.set = ap (map string_bytes) c.deref.ensures.value ∙ c.in_ok-events.ensures in
    let list : string_bytes c.in_ok-events-2.events ≡ with_commas (event_words c.args.set) = c.in_ok-events-2.ensures.ok ∙ joined string_bytes (codes ",") words ∙ ap with_commas are in
    rw (sym list) c.format.ensures.ok
