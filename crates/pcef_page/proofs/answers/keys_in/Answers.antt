use Rattle.std.proofs.Common.{◌∙◌, ap, arith, sym}
use Rattle.std.proofs.lemmas.List.{take_all}
use Rattle.std.specs.Prelude.{map}
use Rattle.serde_json.specs.View.{view}
use Rattle.pcef_page.specs.Grants.{key_in, keys_in_all}
use Rattle.pcef_page.proofs.UsageLists.{keys_each}
use Rattle.pcef_page.proofs.answers.keys_in.Goals as goal

pub returns : goal.returns
returns c =
    let list = c.list_at-state-items in
    let states = list.result.now in
    c.loop-state.invariant
    ∙ ap (λ xs. map key_in (map view xs)) (take_all c.loop-state.state-index states (omega (arith, c.loop-state-test.false)))
    ∙ sym (keys_each (map view states)) ∙ ap keys_in_all list.ensures
