-- The answer to rows that are taken over.
use Rattle.std.proofs.Common.{◌≡◌, ℕ, List, Option, Some, None, Ok, inl, inr, length, map}
use Rattle.pcef_model.specs.Setting.{Setting}
use Rattle.pcef_model.specs.Entries.{Journal}
use Rattle.pcef_model.specs.Outcomes.{FlushAnswer, FlushStep, flush_outcome, flush_outcome_by, judged_of}
use Rattle.pcef_model.specs.Refusals.{first_of, flush_refusals}
use Rattle.pcef_model.specs.declared.answer.FlushRefusal.{FlushRefusal}
use Rattle.pcef_model.specs.declared.row.Row.{Row}

rows_judged : (p : Setting) (j : Journal) (rows : List Row) (refusal : Option FlushRefusal) (answer : FlushAnswer) →
    Ok answer ≡ (flush_outcome_by p j rows refusal).0 → answer.rows ≡ map judged_of rows
rows_judged p j rows None answer is = cc
rows_judged p j rows (Some r) answer is = absurd cc

-- a flush answers with each row that it takes over
pub flush_answered : (p : Setting) (worker : ℕ) (rows : List Row) (j k : Journal) (answer : FlushAnswer) →
    FlushStep p worker rows j (Ok answer) k → answer.rows ≡ map judged_of rows
unfolding flush_outcome
flush_answered p worker rows j k answer (inl given) = rows_judged p j rows (first_of (flush_refusals p j worker (length rows))) answer given.0
flush_answered p worker rows j k answer (inr lacks) = absurd (let e = lacks.1.0 in cc)
