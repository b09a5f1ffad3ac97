use Rattle.std.proofs.Common.{◌≤◌, arith, length, map}
use Rattle.pcef_diameter.specs.Avps.{shown}
use Rattle.pcef_diameter.specs.Spellings.{avps_octets}
use Rattle.pcef_diameter.proofs.Rooms.{reads_len}
use Rattle.pcef_gx_peer.proofs.answering.error_answer.Goals as goal

pub error_avps-requires : goal.error_avps-requires
error_avps-requires c =
    let read = c.in_ok-read.read in
    let room : length (avps_octets (map shown read.avps.items)) ≤ length c.args.octets.now =
    reads_len c.args.octets.now (map shown read.avps.items) read.rest.now read.fault c.in_ok-read.ensures in
    rw c.deref.ensures.value (omega (arith, room, c.requires.octets))
