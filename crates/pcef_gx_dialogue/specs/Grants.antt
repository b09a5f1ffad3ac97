-- What the orders of a CCA do (TS 29.212, clauses 4.5.2 and 4.5.12).
use Rattle.std.specs.Prelude.{ℕ, ◌≡◌, ◌++◌, List, map, Option, Some, None}
use Rattle.pcef_diameter.specs.Spellings.{avps_octets}
use Rattle.pcef_gx.specs.Writing.{report_avp}
use Rattle.pcef_gx.specs.declared.order.Order.{Order}
use Rattle.pcef_gx.specs.declared.writing.RuleReport.{RuleReport}
use Rattle.pcef_gx_orders.specs.Carrying.{CarriesOut}
use Rattle.pcef_world.specs.Worlds.{World}
use Rattle.pcef_gx_dialogue.specs.declared.granting.Grant.{Grant}
use Rattle.pcef_gx_dialogue.specs.declared.granting.Grant.TheVariants.{CutShort, Done}

-- whether an order that names no rule was refused
abbrev pub grant_by : Option Order → Grant
grant_by None = Done
grant_by (Some asked) = CutShort

-- They are done; nothing answers a CCA, so the reports of the rules that couldn't be had are for the next CCR, behind what
-- is due already.
unfoldable pub DoesGrant : List Order → World → List ℕ → Grant → World → List ℕ → Type 0
DoesGrant orders before due result after due_after =
    (reports : List RuleReport) × (refused : Option Order)
    × CarriesOut before.session.setting before.session.journal orders reports refused after.session.journal
    × (due_after ≡ due ++ avps_octets (map report_avp reports)) × (result ≡ grant_by refused)
