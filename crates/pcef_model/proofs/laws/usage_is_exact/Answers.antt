use Rattle.std.proofs.Common.{arith}
use Rattle.pcef_model.proofs.Exactness.{lawful_exact}
use Rattle.pcef_model.proofs.laws.usage_is_exact.Goals as goal

pub returns : goal.returns
returns c = record {
  twice = λ p j l key. (lawful_exact p j l).exact key;
  lost = λ p j l key. omega (arith, (lawful_exact p j l).exact key);
}
