-- The reports of orders have the room that is taken for all orders.
use Rattle.std.proofs.Common.{◌≡◌, ◌∙◌, ◌≤◌, ◌+◌, ℕ, List, [], ◌∷◌, length, Some, None, refl, sym, ap, arith}
use Rattle.std.specs.Prelude.{All, IfSome, Option, sum_by}
use Rattle.std.proofs.lemmas.List.Elements.{All-cons, All-head, All-nil, All-tail}
use Rattle.std.proofs.lemmas.List.Sums.{sum_by-cons}
use Rattle.pcef_gx.specs.Writing.{report_room}
use Rattle.pcef_diameter.specs.Spellings.{avp_len}
use Rattle.pcef_gx.specs.declared.order.Order.{Order}
use Rattle.pcef_gx.specs.declared.order.Order.TheVariants as order
use Rattle.pcef_gx.specs.declared.writing.RuleReport.{RuleReport}
use Rattle.pcef_gx_messages.specs.Sent.{IsShortFault, IsShortReport, failed_room}
use Rattle.pcef_gx_orders.specs.Carrying.{CarriesOut}
use Rattle.pcef_gx_orders.specs.Naming.{name_given}
use Rattle.pcef_gx_orders.specs.declared.fate.Fate.TheVariants.{Done, NoRule, Refused}
use Rattle.pcef_model.specs.Entries.{Journal}
use Rattle.pcef_model.specs.Setting.{Setting}
use Rattle.pcef_gx_dialogue.specs.Rars.{HaveRoom, avp_refused, order_room, told_of_orders}

-- an order that is refused takes the room of its name
abbrev pub refused_room : Option Order → ℕ
refused_room None = 0
refused_room (Some asked) = order_room asked

abbrev IsShort : Order → Type 0
IsShort asked = length (name_given asked) ≤ 65536

pub reports_fit : (p : Setting) (before after : Journal) (orders : List Order) (reports : List RuleReport) (refused : Option Order) →
    CarriesOut p before orders reports refused after → sum_by report_room reports + refused_room refused ≤ sum_by order_room orders
reports_fit p before after [] reports refused (none, nothing, same) = rw (none, nothing) (omega arith)
reports_fit p before after (asked ∷ orders) reports refused (Done, mid, carries, told) =
    omega (arith, sum_by-cons order_room asked orders, reports_fit p mid after orders reports refused told)
reports_fit p before after (asked ∷ orders) reports refused (NoRule failure, mid, carries, (report, more, is, its, told)) =
    rw is (omega (arith, sum_by-cons order_room asked orders, sum_by-cons report_room report more, ap length its.name_is, reports_fit p mid after orders more refused told))
reports_fit p before after (asked ∷ orders) reports refused (Refused, mid, carries, (none, is, same)) =
    rw (none, is) (omega (arith, sum_by-cons order_room asked orders))

pub reports_short : (p : Setting) (before after : Journal) (orders : List Order) (reports : List RuleReport) (refused : Option Order) →
    CarriesOut p before orders reports refused after → All IsShort orders → All IsShortReport reports
reports_short p before after [] reports refused (none, nothing, same) short = rw none (All-nil IsShortReport)
reports_short p before after (asked ∷ orders) reports refused (Done, mid, carries, told) short =
    reports_short p mid after orders reports refused told (All-tail IsShort asked orders short)
reports_short p before after (asked ∷ orders) reports refused (NoRule failure, mid, carries, (report, more, is, its, told)) short =
    rw is
    (All-cons IsShortReport report more
    (omega (arith, ap length its.name_is, All-head IsShort asked orders short))
    (reports_short p mid after orders more refused told (All-tail IsShort asked orders short)))
reports_short p before after (asked ∷ orders) reports refused (Refused, mid, carries, (none, is, same)) short = rw none (All-nil IsShortReport)

-- the order that is refused is one of them
refused_short : (p : Setting) (before after : Journal) (orders : List Order) (reports : List RuleReport) (refused : Option Order) →
    CarriesOut p before orders reports refused after → All IsShort orders → IfSome refused IsShort
refused_short p before after [] reports refused (none, nothing, same) short = rw nothing tt
refused_short p before after (asked ∷ orders) reports refused (Done, mid, carries, told) short =
    refused_short p mid after orders reports refused told (All-tail IsShort asked orders short)
refused_short p before after (asked ∷ orders) reports refused (NoRule failure, mid, carries, (report, more, is, its, told)) short =
    refused_short p mid after orders more refused told (All-tail IsShort asked orders short)
refused_short p before after (asked ∷ orders) reports refused (Refused, mid, carries, (none, is, same)) short =
    rw is (All-head IsShort asked orders short)

-- ---- the AVP of a refused order
avp_short : (asked : Order) → IsShort asked → avp_len (avp_refused asked) ≤ 65548
avp_short (order.Remove name) short = omega (arith, short)
avp_short (order.Activate name) short = omega (arith, short)
avp_short (order.Install change) short = omega (arith, short)
avp_short (order.Unable name of failure) short = omega (arith, short)
avp_short (order.Triggers set) short = omega arith
avp_short (order.Monitor key grant level) short = omega (arith, short)
avp_short (order.Stop key) short = omega (arith, short)
avp_short (order.ReportNow key) short = omega (arith, short)
avp_short order.ReportAll short = omega arith

avp_fits : (asked : Order) → avp_len (avp_refused asked) + 18 ≤ order_room asked
avp_fits (order.Remove name) = omega arith
avp_fits (order.Activate name) = omega arith
avp_fits (order.Install change) = omega arith
avp_fits (order.Unable name of failure) = omega arith
avp_fits (order.Triggers set) = omega arith
avp_fits (order.Monitor key grant level) = omega arith
avp_fits (order.Stop key) = omega arith
avp_fits (order.ReportNow key) = omega arith
avp_fits order.ReportAll = omega arith

told_short : (reports : List RuleReport) (refused : Option Order) → IfSome refused IsShort → IsShortFault (told_of_orders reports refused)
told_short reports (Some asked) short = avp_short asked short
told_short [] None short = tt
told_short (report ∷ reports) None short = tt

told_fits : (reports : List RuleReport) (refused : Option Order) → failed_room (told_of_orders reports refused) ≤ refused_room refused
told_fits reports (Some asked) = avp_fits asked
told_fits [] None = omega arith
told_fits (report ∷ reports) None = omega arith

-- ---- an answer to orders
pub answer_short : (p : Setting) (before after : Journal) (orders : List Order) (reports : List RuleReport) (refused : Option Order) (room : ℕ) →
    CarriesOut p before orders reports refused after → HaveRoom orders room → IsShortFault (told_of_orders reports refused)
answer_short p before after orders reports refused room carries fits =
    told_short reports refused (refused_short p before after orders reports refused carries fits.0)

pub answer_fits : (p : Setting) (before after : Journal) (orders : List Order) (reports : List RuleReport) (refused : Option Order) (room : ℕ) →
    CarriesOut p before orders reports refused after → HaveRoom orders room → failed_room (told_of_orders reports refused) + sum_by report_room reports ≤ room
answer_fits p before after orders reports refused room carries fits =
    omega (arith, told_fits reports refused, reports_fit p before after orders reports refused carries, fits.1)

pub reports_have_room : (p : Setting) (before after : Journal) (orders : List Order) (reports : List RuleReport) (refused : Option Order) (room : ℕ) →
    CarriesOut p before orders reports refused after → HaveRoom orders room → sum_by report_room reports ≤ room
reports_have_room p before after orders reports refused room carries fits =
    omega (arith, reports_fit p before after orders reports refused carries, fits.1)
