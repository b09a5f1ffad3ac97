use Rattle.std.proofs.Common.{◌∙◌, None, Ok, arith, length-drop, subst, sym}
use Rattle.pcef_front.specs.Fronts.{IsSettledBy}
use Rattle.pcef_front.specs.private.Transports.{LeadsTo, transport, transport_in}
use Rattle.pcef_front.proofs.FrontExtensions.{pass_on, payload_read}
use Rattle.pcef_front.proofs.Told.{on_front}
use Rattle.pcef_front.proofs.extensions.transport_of.Goals as goal

pub returns-in-Portless : goal.returns-in-Portless
returns-in-Portless c =
    c.headers.invariant.told (Ok (transport c.in-Portless.proto None))
    (subst (λ b. LeadsTo c.headers.kind c.headers.left.now c.headers.left_room (Ok b)) c.in-Portless.is c.in_ok-proto.ensures)

pub headers-preserved : goal.headers-preserved
headers-preserved c =
    let passes = subst (λ b. LeadsTo c.headers.kind c.headers.left.now c.headers.left_room (Ok b)) c.in-To.is c.in_ok-proto.ensures in
    let cut = length-drop c.in-To.len c.headers.left.now in
    let within = c.headers.invariant.within in
    rw c.behind-left.ensures (record {
      within = omega arith;
      told = λ r told. c.headers.invariant.told r
          (pass_on c.headers.kind c.in-To.next c.in-To.len c.headers.left_room c.headers.left.now within (sym c.is_extension.ensures ∙ c.headers-test.true) passes r told);
    })

pub returns-in-Ok : goal.returns-in-Ok
returns-in-Ok c =
    subst (λ r. IsSettledBy (transport_in c.args.first) c.args.front.now c.args.room (on_front (transport c.headers.kind) r)) c.in-Ok.is
    (c.headers.invariant.told (on_front (transport c.headers.kind) c.ports_of.result)
    (payload_read c.headers.kind c.headers.left_room c.headers.left.now (sym c.is_extension.ensures ∙ c.headers-test.false) c.ports_of.result c.ports_of.ensures))

pub returns-in-Err : goal.returns-in-Err
returns-in-Err c =
    subst (λ r. IsSettledBy (transport_in c.args.first) c.args.front.now c.args.room (on_front (transport c.headers.kind) r)) c.in-Err.is
    (c.headers.invariant.told (on_front (transport c.headers.kind) c.ports_of.result)
    (payload_read c.headers.kind c.headers.left_room c.headers.left.now (sym c.is_extension.ensures ∙ c.headers-test.false) c.ports_of.result c.ports_of.ensures))
