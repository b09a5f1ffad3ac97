use Rattle.std.proofs.Common.{◌∙◌, sym}
use Rattle.json.specs.Print.{escape_byte}
use Rattle.pcef_answer.specs.RefusalAnswers.{refusal_text}
use Rattle.pcef_answer.proofs.PlainWords.{plain_refusal}
use Rattle.pcef_answer.proofs.refusal.push_refusal.Goals as goal

pub push_refused-requires : goal.push_refused-requires
push_refused-requires c = rw c.name_of_refusal-number.ensures.name (plain_refusal c.args.refusal)

pub push_counted-requires : goal.push_counted-requires
push_counted-requires c = rw c.name_of_refusal-number.ensures.name (plain_refusal c.args.refusal)

pub returns-in-None : goal.returns-in-None
unfolding refusal_text escape_byte
returns-in-None c =
    let told = rw (c.name_of_refusal-number.ensures.name, c.name_of_refusal-number.ensures.number) at c.push_refused.ensures in
    rw (sym c.count_of_refusal.ensures ∙ c.in-None.is) told

pub returns-in-Some : goal.returns-in-Some
unfolding refusal_text
returns-in-Some c =
    let told = rw (c.name_of_refusal-number.ensures.name, c.name_of_refusal-number.ensures.number) at c.push_counted.ensures in
    rw (sym c.count_of_refusal.ensures ∙ c.in-Some.is) told
