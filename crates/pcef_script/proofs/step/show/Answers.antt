use Rattle.std.proofs.Common.{refl, string_bytes, subst}
use Rattle.std.specs.Prelude.{IfOk}
use Rattle.std.proofs.lemmas.Result.{IfOk-weaker}
use Rattle.pcef_answer.specs.ShowAnswers.{ShowsJournal}
use Rattle.pcef_script.proofs.step.show.Goals as goal

pub returns : goal.returns
returns c =
    let told = subst (λ s. IfOk c.show_answer.result (λ text. ShowsJournal s.setting s.journal (string_bytes text))) c.session.ensures.session c.show_answer.ensures in
    IfOk-weaker c.show_answer.result _ _ (λ text known. (known, refl)) told
