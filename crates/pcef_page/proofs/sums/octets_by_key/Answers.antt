use Rattle.std.proofs.Common.{◌∙◌, ◌+◌, ap, subst, sym, take, if◌then◌else◌}
use Rattle.std.specs.Str.{bytes_eq}
use Rattle.std.proofs.lemmas.List.Sums.{sum_by_more}
use Rattle.pcef_page.specs.Sums.{IsSum, reported_for, sum_in, usage_octets}
use Rattle.pcef_page.proofs.sums.octets_by_key.Goals as goal

pub loop-report-preserved : goal.loop-report-preserved
loop-report-preserved c = λ key.
    let usage = c.args.usage.now in
    let place = c.loop-report.report-index in
    let report = c.report-item.result in
    let sum = usage_octets key (take place usage) in
    let same = ap (λ t. sum + (if bytes_eq t key then report.octets else 0)) c.as_str.ensures.value ∙ ap (λ r. sum + reported_for key r) c.report-item.is
    ∙ sym (sum_by_more (reported_for key) usage place report c.loop-report-test.true) in
    subst (λ n. IsSum n (sum_in c.add.new.sums key)) same (c.in_ok-add.ensures key sum (c.loop-report.invariant key))
