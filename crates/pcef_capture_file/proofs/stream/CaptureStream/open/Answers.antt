use Rattle.std.proofs.Common.{◌∙◌, subst, sym}
use Rattle.pcef_capture_file.specs.Places.{in_records}
use Rattle.pcef_capture_file.specs.Streams.{OpensCapture}
use Rattle.pcef_capture_file.proofs.Streams.{opens_blocks, opens_records, refused_on}
use Rattle.pcef_capture_file.proofs.stream.CaptureStream.open.Goals as goal

pub returns-then-begins_section-clause-opens : goal.returns-then-begins_section-clause-opens
returns-then-begins_section-clause-opens c =
    let begins = sym c.begins_section.ensures ∙ c.if-begins_section.true in
    rw c.new.ensures.items (opens_blocks c.args.octets.now begins)

pub returns-in-Ok-clause-opens : goal.returns-in-Ok-clause-opens
returns-in-Ok-clause-opens c =
    let not = sym c.begins_section.ensures ∙ c.if-begins_section.false in
    subst (OpensCapture c.args.octets.now (in_records c.in-Ok.header)) (sym c.split_at.ensures.back)
    (opens_records c.in-Ok.header c.args.octets.now not (sym c.in-Ok.ensures.header) c.in-Ok.ensures.len)

pub returns-in-Err-clause-lasting : goal.returns-in-Err-clause-lasting
returns-in-Err-clause-lasting c = λ more le.
    let not = sym c.begins_section.ensures ∙ c.if-begins_section.false in
    refused_on c.args.octets.now more c.in-Err.fault not (sym c.in-Err.ensures.header) le
