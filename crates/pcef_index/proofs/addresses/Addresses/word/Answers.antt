use Rattle.pcef_index.proofs.Bits.{full_has}
use Rattle.pcef_index.proofs.addresses.Addresses.word.Goals as goal

pub returns-in_default : goal.returns-in_default
returns-in_default c i a small sought lets = full_has i small

pub returns-in_default-2 : goal.returns-in_default-2
returns-in_default-2 c i a small sought lets = full_has i small
