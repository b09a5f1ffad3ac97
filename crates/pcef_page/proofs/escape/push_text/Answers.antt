use Rattle.std.proofs.Common.{string_bytes}
use Rattle.pcef_page.specs.Escaping.{escaped_octet}
use Rattle.pcef_page.proofs.RuleLists.{flat_next}
use Rattle.pcef_page.proofs.escape.push_text.Goals as goal

pub loop-octet-preserved : goal.loop-octet-preserved
loop-octet-preserved c =
    flat_next escaped_octet (string_bytes c.loop-octet.page) (string_bytes c.args.page.now) (string_bytes c.push_octet.new.page) c.as_bytes-octet-items.result.now
    c.loop-octet.octet-index c.loop-octet-test.true c.loop-octet.invariant c.in_ok-push_octet.ensures
