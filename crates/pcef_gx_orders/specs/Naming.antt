-- The names in orders.
use Rattle.std.specs.Prelude.{ℕ, List, [], Option, Some, None}
use Rattle.pcef_gx.specs.Names.{name_of, octets_of}
use Rattle.pcef_gx.specs.declared.order.NameOf.{NameOf}
use Rattle.pcef_gx.specs.declared.order.NameOf.TheVariants.{Base, Rule}
use Rattle.pcef_gx.specs.declared.order.Order.{Order}
use Rattle.pcef_gx.specs.declared.order.Order.TheVariants as order

-- the name of a rule or of a monitoring key as it stood in the message; no octets where an order has none
abbrev pub name_given : Order → List ℕ
name_given (order.Remove name) = octets_of name
name_given (order.Activate name) = octets_of name
name_given (order.Install change) = octets_of change.name
name_given (order.Unable name of failure) = name
name_given (order.Monitor key grant level) = octets_of key
name_given (order.Stop key) = octets_of key
name_given (order.ReportNow key) = octets_of key
name_given order.ReportAll = []
name_given (order.Triggers set) = []

-- what it is the name of
abbrev pub kind_given : Order → NameOf
kind_given (order.Unable name of failure) = of
kind_given _ = Rule

abbrev pub rule_called : NameOf → List ℕ → Option (List ℕ)
rule_called Rule octets = name_of octets
rule_called Base octets = None

-- the rule that a session may have by this name: none of a group, or of octets that no name here stands for
abbrev pub rule_named : Order → Option (List ℕ)
rule_named (order.Remove name) = Some name
rule_named (order.Activate name) = Some name
rule_named (order.Install change) = Some change.name
rule_named (order.Unable name of failure) = rule_called of name
rule_named _ = None
