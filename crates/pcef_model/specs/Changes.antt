-- The rule that a command makes active.
use Rattle.std.specs.Prelude.{ℕ, ◌≡◌, true, List}
use Rattle.pcef_model.specs.declared.command.Command.{Command}
use Rattle.pcef_model.specs.Setting.{Setting}
use Rattle.pcef_model.specs.ActiveRules.{Active}
use Rattle.pcef_model.specs.ActiveRules as rules
use Rattle.pcef_model.specs.Generations.{Generation, rules_after}
use Rattle.pcef_model.specs.Commands.{key_named, switched, is_table}

-- ---- for private clauses
-- a command makes this rule active, and names its key
pub record MakesActive (p : Setting) (c : Command) (r : Active) : Type 0 where
  pub is_table : is_table c ≡ true
  pub rules_are : (g : Generation) → rules_after p g c ≡ rules.put r g.rules
  pub key_is : key_named p c ≡ r.properties.key
  pub on_is : (on : List (List ℕ)) → switched c on ≡ on
