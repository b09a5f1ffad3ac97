-- Commands that are given one after the other.
use Rattle.std.proofs.Common.{◌≡◌, ◌∙◌, ℕ, List, [], ◌∷◌, ◌++◌, refl, sym, ap, inl, inr, Bool, true, false}
use Rattle.std.specs.Prelude.{Option, Some, None, Result, Ok, Err}
use Rattle.pcef_model.specs.declared.answer.Accepted.{Accepted}
use Rattle.pcef_model.specs.declared.answer.Refusal.{Refusal}
use Rattle.pcef_model.specs.declared.command.Command.{Command}
use Rattle.pcef_model.specs.Entries.{Journal}
use Rattle.pcef_model.specs.Journals.{attach_count}
use Rattle.pcef_model.specs.Outcomes.{CommandStep, changes, command_outcome, command_outcome_by}
use Rattle.pcef_model.specs.Refusals.{first_of, refusals}
use Rattle.pcef_model.specs.Setting.{Setting}
use Rattle.pcef_model.proofs.JournalExtends.{attach_count_after_command}
use Rattle.pcef_run.specs.Runs.{Obeyed}

-- one more
pub obeyed_more : (p : Setting) (before now after : Journal) (cs : List Command) (answers : List (Result Accepted Refusal)) (c : Command) (answer : Result Accepted Refusal)
    → Obeyed p before cs answers now → CommandStep p c now answer after → Obeyed p before (cs ++ c ∷ []) (answers ++ answer ∷ []) after
obeyed_more p before now after [] answers c answer (none, same) step = (answer, [], after, ap (λ t. t ++ answer ∷ []) none, rw (← same) step, (refl, refl))
obeyed_more p before now after (d ∷ cs) answers c answer (first, others, between, is, done, rest) step =
    (first, others ++ answer ∷ [], between, ap (λ t. t ++ answer ∷ []) is, done, obeyed_more p between now after cs others c answer rest step)

by_change : (p : Setting) (j : Journal) (c : Command) (test : Bool) → changes p j c ≡ test → attach_count (command_outcome_by p j c None).1 ≡ attach_count j
by_change p j c true is = rw is (attach_count_after_command p j c)
by_change p j c false is = rw is refl

by_refusal : (p : Setting) (j : Journal) (c : Command) (first : Option Refusal) → attach_count (command_outcome_by p j c first).1 ≡ attach_count j
by_refusal p j c None = by_change p j c (changes p j c) refl
by_refusal p j c (Some r) = refl

-- a command attaches nobody
attaches_nobody : (p : Setting) (c : Command) (before after : Journal) (answer : Result Accepted Refusal) → CommandStep p c before answer after → attach_count after ≡ attach_count before
unfolding command_outcome
attaches_nobody p c before after answer (inl due) = ap attach_count due.1 ∙ by_refusal p before c (first_of (refusals p before c))
attaches_nobody p c before after answer (inr lacks) = ap attach_count lacks.1.1

pub attached_as_before : (p : Setting) (before after : Journal) (cs : List Command) (answers : List (Result Accepted Refusal)) → Obeyed p before cs answers after → attach_count after ≡ attach_count before
attached_as_before p before after [] answers (none, same) = ap attach_count same
attached_as_before p before after (c ∷ cs) answers (first, others, between, is, done, rest) =
    attached_as_before p between after cs others rest ∙ attaches_nobody p c before between first done

none_attached : attach_count [] ≡ 0
unfolding attach_count
none_attached = refl

-- who is given commands from the start has no worker
pub nobody_attached : (p : Setting) (before after : Journal) (cs : List Command) (answers : List (Result Accepted Refusal)) → before ≡ [] → Obeyed p before cs answers after → attach_count after ≡ 0
nobody_attached p before after cs answers new done = attached_as_before p before after cs answers done ∙ ap attach_count new ∙ none_attached
