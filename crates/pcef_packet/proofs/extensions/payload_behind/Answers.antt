use Rattle.std.proofs.Common.{sym, ap, ◌∙◌, Some}
use Rattle.pcef_packet.proofs.CarryingLaws.{past_shorter, step_cut, step_end, step_later, step_on}
use Rattle.pcef_packet.proofs.extensions.payload_behind.Goals as goal

pub returns-in_default : goal.returns-in_default
returns-in_default c = step_cut _ _ _ c.headers.invariant (sym c.is_extension.ensures ∙ c.headers-test.true) c.in_default.ensures

pub returns-then-later : goal.returns-then-later
returns-then-later c = step_later _ _ _ c.in-Some.next c.in-Some.behind.now c.headers.invariant (sym c.is_extension.ensures ∙ c.headers-test.true) (c.in-Some.ensures ∙ ap (λ b. Some (c.in-Some.next, c.in-Some.behind.now, b)) c.if-later.true)

pub headers-smaller : goal.headers-smaller
headers-smaller c = past_shorter c.headers.kind c.headers.left.now (c.in-Some.next, c.in-Some.behind.now, c.in-Some.later) c.in-Some.ensures

pub headers-preserved : goal.headers-preserved
headers-preserved c = step_on _ _ _ c.in-Some.next c.in-Some.behind.now c.headers.invariant (sym c.is_extension.ensures ∙ c.headers-test.true) (c.in-Some.ensures ∙ ap (λ b. Some (c.in-Some.next, c.in-Some.behind.now, b)) c.if-later.false)

pub returns : goal.returns
returns c = step_end _ _ _ c.headers.invariant (sym c.is_extension.ensures ∙ c.headers-test.false)
