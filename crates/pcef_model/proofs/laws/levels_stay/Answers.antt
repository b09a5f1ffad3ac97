use Rattle.pcef_model.proofs.FewKeys.{few_slots}
use Rattle.pcef_model.proofs.Levels.{levels_stay, session_keys_have_no_rule}
use Rattle.pcef_model.proofs.laws.levels_stay.Goals as goal

pub returns : goal.returns
returns c = record { few = few_slots; stay = levels_stay; rules = session_keys_have_no_rule }
