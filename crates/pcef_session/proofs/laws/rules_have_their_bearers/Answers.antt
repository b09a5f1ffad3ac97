use Rattle.pcef_session.proofs.BearerLaws.{stands_on, sums_are}
use Rattle.pcef_session.proofs.laws.rules_have_their_bearers.Goals as goal

pub returns : goal.returns
returns c = record {
  bearers = stands_on;
  sums = sums_are;
}
