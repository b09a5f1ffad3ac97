use Rattle.pcef_gx_peer.proofs.Streams.{avps_are_padded, written_is_whole}
use Rattle.pcef_gx_peer.proofs.laws.what_is_written_is_whole.Goals as goal

pub returns-clause-message : goal.returns-clause-message
returns-clause-message c = written_is_whole

pub returns-clause-avps : goal.returns-clause-avps
returns-clause-avps c = avps_are_padded
