-- Which id a new bearer gets (own choice).
use Rattle.std.specs.Prelude.{ℕ, ◌≡◌, ◌≢◌, ◌≤◌, ◌<◌, true, List, Some, Contains}
use Rattle.pcef_model.specs.ActiveRules.{Active}
use Rattle.pcef_model.specs.Generations.{Generation, free_id, has_bearer}
use Rattle.pcef_model.specs.Setting.{Setting}

-- a rule keeps the bearer that its pair of QCI and ARP had
abbrev pub KeepsBearer : Setting → Generation → List Active → Active → Type 0
KeepsBearer p g rules r = Contains rules r × (has_bearer p g.rules r.properties.qos ≡ true)

-- from 6 to 15 it is the least id that no rule keeps
pub record IsLeastFree (p : Setting) (g : Generation) (rules : List Active) (id : ℕ) : Type 0 where
  pub from : 6 ≤ id
  pub to : id ≤ 15
  pub free : (r : Active) → KeepsBearer p g rules r → g.id_of r.properties.qos ≢ id
  pub least : (n : ℕ) → 6 ≤ n → n < id → (r : Active) × KeepsBearer p g rules r × (g.id_of r.properties.qos ≡ n)

abbrev pub NewBearersTakeTheLeastId : Type 0
NewBearersTakeTheLeastId = (p : Setting) (g : Generation) (rules : List Active) (id : ℕ) → free_id p g rules ≡ Some id → IsLeastFree p g rules id
