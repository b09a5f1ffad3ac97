-- What the bearers of a session have (TS 23.203, clause 6.1.1.4).
use Rattle.std.specs.Prelude.{ℕ, Option, Some, None, Result, Ok, Err, length}
use Rattle.pcef_rule.specs.declared.quantity.Qos.{Qos}
use Rattle.pcef_rule.specs.declared.quantity.Sums.{Sums}
use Rattle.pcef_bearer.specs.Bindings.{Binding, guaranteed, rules_on}
use Rattle.pcef_bearer.specs.BindingSteps.{qos_on}
use Rattle.pcef_session.specs.Answers.{binding_now}
use Rattle.pcef_handle.specs.declared.bearers.BearerRefusal.{BearerRefusal}
use Rattle.pcef_handle.specs.declared.bearers.BearerRefusal.TheVariants.{NoBearer, NoSession}
use Rattle.pcef_handle.specs.declared.bearers.BearerState.{BearerState}
use Rattle.pcef_handle.specs.declared.held.OpenSession.{OpenSession}

-- its QCI and ARP, its guaranteed rates, and how many rules are on it, if there is one
abbrev pub bearer_with : Option Qos → Option Sums → ℕ → Result BearerState BearerRefusal
bearer_with (Some q) (Some sums) rules = Ok (record { qos = q; guaranteed = sums; rules = rules })
bearer_with q sums rules = Err NoBearer

abbrev pub bearer_state : Binding → ℕ → Result BearerState BearerRefusal
bearer_state v id = bearer_with (qos_on id v) (guaranteed id v.bound) (length (rules_on id v.bound))

-- the bearer of this id among those on which the active rules stand now
abbrev pub bearer_in : Option OpenSession → ℕ → Result BearerState BearerRefusal
bearer_in None id = Err NoSession
bearer_in (Some s) id = bearer_state (binding_now s.world.session) id
