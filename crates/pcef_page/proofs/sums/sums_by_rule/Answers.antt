use Rattle.std.proofs.Common.{◌∙◌, ◌+◌, ap, string_bytes, subst, sym, take, if◌then◌else◌}
use Rattle.std.specs.Str.{bytes_eq}
use Rattle.std.proofs.lemmas.List.Sums.{sum_by_more}
use Rattle.pcef_page.specs.Sums.{IsSum, counted_for_rule, sum_in, weight_by}
use Rattle.pcef_page.proofs.sums.sums_by_rule.Goals as goal

pub loop-packet-preserved : goal.loop-packet-preserved
loop-packet-preserved c = λ rule.
    let judged = c.args.judged.now in
    let count = c.args.count in
    let place = c.loop-packet.packet-index in
    let packet = c.packet-item.result in
    let sum = counted_for_rule count rule (take place judged) in
    let same = ap (λ t. sum + (if bytes_eq t rule then c.weight.result else 0)) c.as_str.ensures.value
    ∙ ap (λ w. sum + (if bytes_eq (string_bytes packet.rule) rule then w else 0)) c.weight.ensures
    ∙ ap (λ j. sum + weight_by count rule j) c.packet-item.is ∙ sym (sum_by_more (weight_by count rule) judged place packet c.loop-packet-test.true) in
    subst (λ n. IsSum n (sum_in c.add.new.sums rule)) same (c.in_ok-add.ensures rule sum (c.loop-packet.invariant rule))
