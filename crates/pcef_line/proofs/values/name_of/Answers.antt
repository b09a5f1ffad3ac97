use Rattle.std.proofs.Common.{inr, refl}
use Rattle.std.proofs.lemmas.Bool.{false≢true}
use Rattle.pcef_line.proofs.NameTests.{named, unnamed}
use Rattle.pcef_line.proofs.values.name_of.Goals as goal

pub returns-in-Ok : goal.returns-in-Ok
returns-in-Ok g c = named c.args.text.now _ _ (c.in-Ok.ensures.variant.0 refl) c.in-Ok.ensures.ok

pub returns-in-Err : goal.returns-in-Err
returns-in-Err g c = inr (unnamed c.args.text.now _ (λ is. false≢true (c.in-Err.ensures.variant.1 is)))
