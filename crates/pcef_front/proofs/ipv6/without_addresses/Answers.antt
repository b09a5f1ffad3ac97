use Rattle.std.proofs.Common.{◌≡◌, ◌-◌, [], Err, ap, arith, slice_index, subst}
use Rattle.pcef_packet.specs.HeaderOf.{reading_v6, volume_v6}
use Rattle.pcef_front.specs.Fronts.{IsSettledBy}
use Rattle.pcef_front.specs.private.Transports.{transport_in}
use Rattle.pcef_front.proofs.FrontsV6.{addresses_told, kind_missing, only_fault}
use Rattle.pcef_front.proofs.ipv6.without_addresses.Goals as goal

pub returns-then-front-eq6 : goal.returns-then-front-eq6
returns-then-front-eq6 c = λ dir.
    let volume = c.requires.is_volume in
    let within = c.requires.within in
    kind_missing dir c.args.front.now c.args.whole c.if-front-eq6.true (omega arith)

pub returns-in-Ok : goal.returns-in-Ok
returns-in-Ok c = λ dir.
    subst (λ r. IsSettledBy (reading_v6 dir) c.args.front.now c.args.whole (Err (only_fault r))) c.in-Ok.is
    (let volume = c.requires.is_volume in
    let within = c.requires.within in
    let some = c.requires.some in
    let other = c.if-front-eq6.false in
    let room : c.args.volume - 40 ≡ volume_v6 c.args.front.now - 40 = ap (λ n. n - 40) volume in
    addresses_told dir c.args.front.now c.args.whole (omega arith) c.requires.few (omega arith) c.transport_of.result
    (subst (λ room. IsSettledBy (transport_in (slice_index c.args.front.now 6)) [] room c.transport_of.result) room c.transport_of.ensures))

pub returns-in-Err : goal.returns-in-Err
returns-in-Err c = λ dir.
    subst (λ r. IsSettledBy (reading_v6 dir) c.args.front.now c.args.whole (Err (only_fault r))) c.in-Err.is
    (let volume = c.requires.is_volume in
    let within = c.requires.within in
    let some = c.requires.some in
    let other = c.if-front-eq6.false in
    let room : c.args.volume - 40 ≡ volume_v6 c.args.front.now - 40 = ap (λ n. n - 40) volume in
    addresses_told dir c.args.front.now c.args.whole (omega arith) c.requires.few (omega arith) c.transport_of.result
    (subst (λ room. IsSettledBy (transport_in (slice_index c.args.front.now 6)) [] room c.transport_of.result) room c.transport_of.ensures))
