-- The active rules as the code keeps them: for private clauses.
use Rattle.std.specs.Prelude.{string_bytes}
use Rattle.pcef_page.specs.Guarantees.{RuleFigure}
use Rattle.pcef_page.specs.declared.rates.Active.{Active}

abbrev pub rule_of : Active → RuleFigure
rule_of a = record { name = string_bytes a.name; bearer = a.bearer; up = a.up; down = a.down }
