use Rattle.pcef_model.specs.Generations.{oldest}
use Rattle.pcef_model.specs.Journals.{tables}
use Rattle.pcef_session.proofs.ShownLater.{shows_after_command}
use Rattle.pcef_session.proofs.ShownSlots.{shown_slots_of}
use Rattle.pcef_model.proofs.Decisive.{made_once}
use Rattle.pcef_session.proofs.ShownVerdicts.{shown_judges}
use Rattle.pcef_session.proofs.laws.shown_tables_judge.Goals as goal

pub returns : goal.returns
returns c = record {
  verdicts = λ p j g t header v shows verdict. shown_judges p j g t header v shows (made_once p (oldest g (tables j))) verdict;
  counts = λ p j g t header v shows verdict.
      let once = made_once p (oldest g (tables j)) in
      shown_slots_of p j g t header v shows once (shown_judges p j g t header v shows once verdict);
  stay = λ p j c2 g t within shows. shows_after_command p j c2 g t within shows;
}
