use Rattle.std.proofs.Common.{◌∙◌, ◌≡◌, ap}
use Rattle.std.specs.Arc.{arc_value}
use Rattle.serde_json.specs.Written.{compact_text}
use Rattle.pcef_table.specs.Tables.{TableValue}
use Rattle.pcef_answer.specs.ShowAnswers.{kept_data}
use Rattle.pcef_answer.proofs.Showing.{kept_told}
use Rattle.pcef_answer.proofs.show.show_answer.Goals as goal

pub returns : goal.returns
returns c =
    let s = c.args.session.now in
    let table : TableValue = arc_value c.indexed.result.now in
    let bound = c.bearers.result.now.bound in
    let generation = c.generation.result in
    let keys = c.usage.result.now in
    let entries : c.entries.result.now ≡ table.entries = c.entries.ensures.entries ∙ ap (λ (t : TableValue). t.entries) (c.table.ensures ∙ c.deref.ensures) in
    let kept = ap (λ os. kept_data os c.entries.result.now bound generation c.states.result.now) c.listing.ensures
    ∙ ap (λ es. kept_data s.setting.catalog es bound generation c.states.result.now) entries
    ∙ ap (kept_data s.setting.catalog table.entries bound generation) c.states.ensures.states in
    let told = kept_told s.setting s.journal table.entries c.bearers.result.now generation keys c.bearers.ensures c.generation.ensures c.usage.ensures in
    let written = rw c.in_ok-text.ensures.bytes at c.in_ok-push_shown.ensures in
    (table, c.indexed.ensures, written ∙ ap compact_text (kept ∙ told))
