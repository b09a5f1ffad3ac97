use Rattle.pcef_gx_peer.proofs.Streams.{cut_is_more, lost_stays, whole_stays}
use Rattle.pcef_gx_peer.proofs.laws.a_front_stays.Goals as goal

pub returns-clause-whole : goal.returns-clause-whole
returns-clause-whole c = whole_stays

pub returns-clause-lost : goal.returns-clause-lost
returns-clause-lost c = lost_stays

pub returns-clause-cut : goal.returns-clause-cut
returns-clause-cut c = cut_is_more
