use Rattle.std.proofs.Common.{◌<◌, ◌∙◌, length, sym}
use Rattle.std.specs.Prelude.{option_map}
use Rattle.pcef_capture_file.specs.Captured.{captured}
use Rattle.pcef_capture_file.specs.Sections.{standing}
use Rattle.pcef_capture_file.proofs.Growth.{block_behind}
use Rattle.pcef_capture_file.proofs.Readings.{some_length}
use Rattle.pcef_capture_file.proofs.Streams.{block_goes, block_stops, content_stops}
use Rattle.pcef_capture_file.proofs.stream.next_block.Goals as goal

pub returns-in-Err-clause-stops : goal.returns-in-Err-clause-stops
returns-in-Err-clause-stops c =
    let some : 0 < length c.args.octets.now = some_length c.args.octets.now (sym c.is_empty.ensures ∙ c.if-is_empty.false) in
    rw c.block_stop.ensures (block_stops (standing c.args.section.now) c.args.octets.now c.in-Err.fault some c.in-Err.ensures.fault)

pub returns-in-Ok-take_block-clause-goes_on : goal.returns-in-Ok-take_block-clause-goes_on
returns-in-Ok-take_block-clause-goes_on c =
    block_goes (standing c.args.section.now) (standing c.take_block.new.section) c.args.octets.now c.in-Ok.found.1.now _ (option_map captured c.in-Ok-take_block.packet)
    c.in-Ok.ensures.block c.in-Ok-take_block.ensures.ok

pub returns-in-Ok-take_block-clause-behind : goal.returns-in-Ok-take_block-clause-behind
returns-in-Ok-take_block-clause-behind c =
    let behind = block_behind c.args.section.now.endianness c.args.octets.now c.in-Ok.found.1.now _ c.in-Ok.ensures.block in
    (behind.0, behind.3)

pub returns-in-Err-take_block-clause-stops : goal.returns-in-Err-take_block-clause-stops
returns-in-Err-take_block-clause-stops c =
    let some : 0 < length c.args.octets.now = some_length c.args.octets.now (sym c.is_empty.ensures ∙ c.if-is_empty.false) in
    rw c.content_stop.ensures (content_stops (standing c.args.section.now) (standing c.take_block.new.section) c.args.octets.now c.in-Ok.found.1.now _ c.in-Err-take_block.fault some
    c.in-Ok.ensures.block c.in-Err-take_block.ensures.fault)
