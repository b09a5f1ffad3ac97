use Rattle.pcef_gx_messages.specs.Sent.{kind_avps, speaker_avps}
use Rattle.pcef_gx_messages.proofs.Parts.{both_written}
use Rattle.pcef_gx_messages.proofs.requesting.put_avps.Goals as goal

pub returns-clause-written : goal.returns-clause-written
returns-clause-written c =
    both_written c.args.out.now.items c.put_speaker.new.out.items c.put_kind.new.out.items (speaker_avps c.args.identity.now) (kind_avps c.args.kind c.args.number) c.put_speaker.ensures.written c.put_kind.ensures.written
