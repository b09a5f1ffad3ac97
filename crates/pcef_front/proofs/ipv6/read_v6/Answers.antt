use Rattle.std.proofs.Common.{◌≡◌, ◌∙◌, ◌-◌, ap, arith, refl, slice_index, subst, take}
use Rattle.std.specs.List.{slice_range}
use Rattle.pcef_packet.specs.HeaderOf.{reading_v6, volume_v6}
use Rattle.pcef_front.specs.Fronts.{IsSettledBy}
use Rattle.pcef_front.specs.private.Transports.{header_with_v6, transport_in}
use Rattle.pcef_front.proofs.Told.{on_front}
use Rattle.pcef_front.proofs.FrontsV6.{beyond_told, header_told, short_told}
use Rattle.pcef_front.proofs.ipv6.read_v6.Goals as goal

pub returns-then-whole-lt-FIXED_LEN : goal.returns-then-whole-lt-FIXED_LEN
returns-then-whole-lt-FIXED_LEN c = short_told c.args.dir c.args.front.now c.args.whole c.if-whole-lt-FIXED_LEN.true

pub returns-then-front-lt-PAYLOAD_LEN_END : goal.returns-then-front-lt-PAYLOAD_LEN_END
returns-then-front-lt-PAYLOAD_LEN_END c = c.without_volume.ensures c.args.dir

pub returns-then-whole-volume : goal.returns-then-whole-volume
returns-then-whole-volume c =
    let volume = c.volume_of-volume.ensures.volume in
    let beyond = c.if-whole-volume.true in
    beyond_told c.args.dir c.args.front.now c.args.whole c.if-front-lt-PAYLOAD_LEN_END.false c.if-whole-lt-FIXED_LEN.false (omega arith)

pub returns-then-front-lt-FIXED_LEN : goal.returns-then-front-lt-FIXED_LEN
returns-then-front-lt-FIXED_LEN c = c.without_addresses.ensures c.args.dir

pub returns-in-Ok : goal.returns-in-Ok
returns-in-Ok c =
    let front = c.args.front.now in
    let volume = c.volume_of-volume.ensures.volume in
    let within = c.if-whole-volume.false in
    let fewer = c.requires.fewer in
    let room : c.volume_of-volume.result - 40 ≡ volume_v6 front - 40 = ap (λ n. n - 40) volume in
    let at_hand : c.first-at_hand.result.now ≡ slice_range front 40 (volume_v6 front) =
    c.first-at_hand.ensures ∙ ap (take (c.volume_of-volume.result - 40)) c.behind.ensures ∙ rw volume refl in
    let told = header_told c.args.dir front c.args.whole c.if-front-lt-FIXED_LEN.false (omega arith) (omega arith) c.transport_of.result
    (subst (λ room. IsSettledBy (transport_in (slice_index front 6)) (slice_range front 40 (volume_v6 front)) room c.transport_of.result) room
    (subst (λ l. IsSettledBy (transport_in (slice_index front 6)) l (c.volume_of-volume.result - 40) c.transport_of.result) at_hand c.transport_of.ensures)) in
    rw c.header_with.ensures (subst (λ r. IsSettledBy (reading_v6 c.args.dir) front c.args.whole (on_front (header_with_v6 c.args.dir front) r)) c.in-Ok.is told)

pub returns-in-Err : goal.returns-in-Err
returns-in-Err c =
    let front = c.args.front.now in
    let volume = c.volume_of-volume.ensures.volume in
    let within = c.if-whole-volume.false in
    let fewer = c.requires.fewer in
    let room : c.volume_of-volume.result - 40 ≡ volume_v6 front - 40 = ap (λ n. n - 40) volume in
    let at_hand : c.first-at_hand.result.now ≡ slice_range front 40 (volume_v6 front) =
    c.first-at_hand.ensures ∙ ap (take (c.volume_of-volume.result - 40)) c.behind.ensures ∙ rw volume refl in
    let told = header_told c.args.dir front c.args.whole c.if-front-lt-FIXED_LEN.false (omega arith) (omega arith) c.transport_of.result
    (subst (λ room. IsSettledBy (transport_in (slice_index front 6)) (slice_range front 40 (volume_v6 front)) room c.transport_of.result) room
    (subst (λ l. IsSettledBy (transport_in (slice_index front 6)) l (c.volume_of-volume.result - 40) c.transport_of.result) at_hand c.transport_of.ensures)) in
    subst (λ r. IsSettledBy (reading_v6 c.args.dir) front c.args.whole (on_front (header_with_v6 c.args.dir front) r)) c.in-Err.is told
