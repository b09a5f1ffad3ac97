use Rattle.std.proofs.Common.{◌∙◌, ◌++◌, ap, sym}
use Rattle.std.specs.Prelude.{codes}
use Rattle.pcef_line.proofs.Canonical.{flush_due, refresh_due}
use Rattle.pcef_line.proofs.spelling.canonical_step.Goals as goal

pub returns-in-Some : goal.returns-in-Some
returns-in-Some c =
    let whole = c.in_ok-rest.ensures.cases in
    let front = c.in-Some.ensures.cases in
    let x = c.in_ok-worker in
    flush_due x.worker c.args.text.now c.in_ok-rest.rest.now c.in-Some.digits.now x.ensures.small (whole.1.1 ∙ ap (λ r. r ++ codes "}") (sym whole.2)) (front.1.1 ∙ ap (λ d. codes "{\"do\":\"flush\",\"worker\":" ++ d) (sym front.2)) x.ensures.spelled

pub returns : goal.returns
returns c =
    let whole = c.in_ok-rest.ensures.cases in
    let front = c.in_ok-digits.ensures.cases in
    let x = c.in_ok-worker-2 in
    refresh_due x.worker c.args.text.now c.in_ok-rest.rest.now c.in_ok-digits.digits.now x.ensures.small (whole.1.1 ∙ ap (λ r. r ++ codes "}") (sym whole.2)) (front.1.1 ∙ ap (λ d. codes "{\"do\":\"refresh\",\"worker\":" ++ d) (sym front.2)) x.ensures.spelled
