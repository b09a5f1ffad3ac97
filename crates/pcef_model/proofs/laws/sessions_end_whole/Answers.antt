use Rattle.pcef_model.proofs.Ending.{nothing_follows, nothing_unreported}
use Rattle.pcef_model.proofs.laws.sessions_end_whole.Goals as goal

pub returns : goal.returns
returns c = record {
  reported = λ p j lawful key there. nothing_unreported p j lawful key there;
  over = λ p j accepted. nothing_follows p j accepted;
}
