-- What CCRs have told.
use Rattle.std.proofs.Common.{◌≡◌, ◌∙◌, ◌+◌, ◌++◌, List, [], ◌∷◌, drop, length, take, sym, ap, arith}
use Rattle.std.proofs.Math.Seq.{take-add}
use Rattle.std.proofs.lemmas.List.{append-nil, append_assoc, length-take, length-drop, length-reverse, take_all, take_min}
use Rattle.pcef_model.specs.Entries.{reports}
use Rattle.pcef_model.specs.Journals.{report_count}
use Rattle.pcef_model.specs.declared.report.Report.{Report}
use Rattle.pcef_gx_updates.proofs.AddsUp.{adds_up}
use Rattle.pcef_gx_updates.specs.Laws.{joined}
use Rattle.pcef_gx_updates.specs.Updates.{most_reports}
use Rattle.pcef_gx_dialogue.specs.Adding.{AnsweredIsTold, OctetsAddUp, UntoldIsNext, in_turn}
use Rattle.pcef_gx_dialogue.specs.Ccrs.{past_of}

pub untold_next : UntoldIsNext
untold_next j told few = record {
  few =
      omega
      (arith, length-take most_reports (drop told (in_turn j)), length-drop told (in_turn j), length-reverse (reports j), few);
  next = sym (ap (λ n. take n (drop told (in_turn j))) (length-take most_reports (drop told (in_turn j))) ∙ take_min most_reports (drop told (in_turn j)));
}

joined_one : (runs : List (List Report)) (run : List Report) → joined (runs ++ run ∷ []) ≡ joined runs ++ run
joined_one [] run = append-nil run
joined_one (first ∷ runs) run = ap (λ rs. first ++ rs) (joined_one runs run) ∙ sym (append_assoc first (joined runs) run)

pub answered_told : AnsweredIsTold
answered_told j c runs o run told is past next =
    let on : past_of c c.out ≡ c.told + length run = ap (past_of c) is ∙ past in
    record {
      few = rw on next.few;
      told =
          joined_one runs run ∙ ap (λ rs. rs ++ run) told.told ∙ ap (λ rs. take c.told (in_turn j) ++ rs) next.next
          ∙ sym (take-add c.told (length run) (in_turn j)) ∙ ap (λ n. take n (in_turn j)) (sym on);
    }

pub octets_add : OctetsAddUp
octets_add j c runs key told all =
    adds_up j key runs
    (told.told ∙ ap (λ n. take n (in_turn j)) all ∙ take_all (report_count j) (in_turn j) (omega (arith, length-reverse (reports j))))
