use Rattle.std.proofs.Common.{◌∙◌, [], ap, append-nil, inl, inr, sym}
use Rattle.std.proofs.lemmas.Bool.{cases_Bool}
use Rattle.pcef_model.specs.Commands.{is_table}
use Rattle.pcef_model.specs.Generations.{slots_of}
use Rattle.pcef_model.specs.Journals.{slots, tables}
use Rattle.pcef_model.proofs.Growth.{tables_of_other, tables_of_table}
use Rattle.pcef_model.proofs.SlotPlaces.{slots_grow}
use Rattle.pcef_core.proofs.laws.slots_stay_in_their_places.Goals as goal

pub returns : goal.returns
returns c = λ p j command.
    elim (cases_Bool (is_table command)) [
      | inl table ↦ let grown = slots_grow p command (tables j) in (grown.0, ap (slots_of p) (tables_of_table j command table) ∙ grown.1)
      | inr other ↦ ([], ap (slots_of p) (tables_of_other j command other) ∙ sym (append-nil (slots p j)))
    ]
