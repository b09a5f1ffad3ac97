use Rattle.std.proofs.Common.{string_bytes}
use Rattle.std.specs.Prelude.{codes}
use Rattle.pcef_answer.proofs.WrittenTexts.{last_three, last_two}
use Rattle.pcef_answer.proofs.written.push_change.Goals as goal

pub returns : goal.returns
returns c =
    let generation = rw c.from.ensures at c.in_ok-push_count.ensures in
    let end = last_three c.push_end.result (string_bytes c.push_count.new.text) _ _ _ (codes ",\"ok\":true,\"reports\":") _ _ c.in_ok-push_str.ensures.bytes c.in_ok-push_reports.ensures c.push_end.ensures in
    last_two c.push_end.result _ _ _ _ _ generation end
