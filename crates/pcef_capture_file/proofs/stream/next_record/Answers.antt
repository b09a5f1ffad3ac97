use Rattle.std.proofs.Common.{◌<◌, ◌∙◌, length, sym}
use Rattle.pcef_capture_file.proofs.Growth.{record_behind}
use Rattle.pcef_capture_file.proofs.Readings.{some_length}
use Rattle.pcef_capture_file.proofs.Streams.{record_goes, record_stops}
use Rattle.pcef_capture_file.proofs.stream.next_record.Goals as goal

pub returns-in-Ok-clause-goes_on : goal.returns-in-Ok-clause-goes_on
returns-in-Ok-clause-goes_on c = record_goes c.args.header c.args.octets.now c.in-Ok.found.1.now _ c.in-Ok.ensures.packet

pub returns-in-Ok-clause-behind : goal.returns-in-Ok-clause-behind
returns-in-Ok-clause-behind c =
    let behind = record_behind c.args.header c.args.octets.now c.in-Ok.found.1.now _ c.in-Ok.ensures.packet in
    (behind.0, behind.3)

pub returns-in-Err-clause-stops : goal.returns-in-Err-clause-stops
returns-in-Err-clause-stops c =
    let some : 0 < length c.args.octets.now = some_length c.args.octets.now (sym c.is_empty.ensures ∙ c.if-is_empty.false) in
    rw c.record_stop.ensures (record_stops c.args.header c.args.octets.now c.in-Err.fault some c.in-Err.ensures.fault)
