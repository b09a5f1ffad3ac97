use Rattle.std.proofs.Common.{◌≡◌, take}
use Rattle.std.specs.Prelude.{map}
use Rattle.serde_json.specs.View.{view}
use Rattle.pcef_page.specs.Grants.{key_in, key_of}
use Rattle.pcef_page.proofs.answers.keys_in.Given as goal

abbrev pub invariant-loop-state : goal.invariant-loop-state
invariant-loop-state l = map key_of l.keys.items ≡ map key_in (map view (take l.state-index l.state-items))
