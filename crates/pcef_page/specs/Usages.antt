-- The reports and refusals in the answer to a line (own choice).
use Rattle.std.specs.Prelude.{ℕ, Bool, true, false, List, [], ◌∷◌, ◌++◌, Option, Some, None, codes, option_and_then, string_bytes}
use Rattle.std.specs.Option.{option_to_list}
use Rattle.serde_json.specs.Data.{Data, Items, item, no_items}
use Rattle.serde_json.specs.Find.{as_array, as_number, as_str, as_u64, get}
use Rattle.pcef_page.specs.declared.figures.Refused.{Refused}
use Rattle.pcef_page.specs.declared.figures.Usage.{Usage}

-- ---- members of objects
abbrev pub text_in : List ℕ → Data → Option (List ℕ)
text_in key d = option_and_then as_str (get key d)

abbrev pub member_number : List ℕ → Data → Option ℕ
member_number key d = option_and_then as_u64 (option_and_then as_number (get key d))

abbrev pub or_nothing : Option Items → Items
or_nothing None = no_items
or_nothing (Some items) = items

abbrev pub items_in : List ℕ → Data → Items
items_in key d = or_nothing (option_and_then as_array (get key d))

abbrev pub or_empty : Option (List ℕ) → List ℕ
or_empty None = []
or_empty (Some text) = text

-- ---- reports
-- a report of usage that came with the answer to the line of this number
pub record UsageFigure : Type 0 where
  pub line : ℕ
  pub key : List ℕ
  pub cause : List ℕ
  pub octets : ℕ

-- a report of usage has a key and octets; other reports lack one of them
abbrev pub usage_by : ℕ → List ℕ → Option (List ℕ) → Option ℕ → List UsageFigure
usage_by number cause None octets = []
usage_by number cause (Some key) None = []
usage_by number cause (Some key) (Some octets) = record { line = number; key = key; cause = cause; octets = octets } ∷ []

abbrev pub usage_of_report : ℕ → Data → List UsageFigure
usage_of_report number report =
    usage_by number (or_empty (text_in (codes "cause") report)) (text_in (codes "key") report) (member_number (codes "octets") report)

abbrev pub usages_of_all : ℕ → Items → List UsageFigure
usages_of_all number no_items = []
usages_of_all number (item report reports) = usage_of_report number report ++ usages_of_all number reports

-- those that an answer has
abbrev pub usage_in : ℕ → Data → List UsageFigure
usage_in number answer = usages_of_all number (items_in (codes "reports") answer)

abbrev pub usage_figure_of : Usage → UsageFigure
usage_figure_of u = record { line = u.line; key = string_bytes u.key; cause = string_bytes u.cause; octets = u.octets }

-- ---- refusals and faults
-- the line of this number was refused or at fault
pub record RefusalFigure : Type 0 where
  pub line : ℕ
  pub name : List ℕ
  pub code : ℕ
  pub is_fault : Bool

-- by the numbers of the fault and of the refusal, where the answer has them
abbrev pub refusal_by : ℕ → List ℕ → Option ℕ → Option ℕ → Option RefusalFigure
refusal_by number name (Some fault) refused = Some (record { line = number; name = name; code = fault; is_fault = true })
refusal_by number name None (Some refused) = Some (record { line = number; name = name; code = refused; is_fault = false })
refusal_by number name None None = None

abbrev pub refusal_shown : ℕ → Data → Option RefusalFigure
refusal_shown number answer =
    refusal_by number (or_empty (text_in (codes "name") answer)) (member_number (codes "fault") answer) (member_number (codes "refused") answer)

abbrev pub refusals_in : ℕ → Data → List RefusalFigure
refusals_in number answer = option_to_list (refusal_shown number answer)

abbrev pub refusal_of : Refused → RefusalFigure
refusal_of r = record { line = r.line; name = string_bytes r.name; code = r.number; is_fault = r.is_fault }
