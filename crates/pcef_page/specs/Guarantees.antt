-- The guaranteed rates of bearers, by the rules that a script made active (own choice).
use Rattle.std.specs.Prelude.{ℕ, ◌-◌, ◌^◌, ◌==◌, ◌&&◌, ◌||◌, Bool, not, List, [], ◌∷◌, ◌++◌, filter, min, Option, Some, None, codes, if◌then◌else◌}
use Rattle.std.specs.List.{flat_map, sum_by}
use Rattle.std.specs.Str.{bytes_eq}
use Rattle.serde_json.specs.Data.{Data}
use Rattle.serde_json.specs.Find.{get}
use Rattle.pcef_page.specs.declared.figures.Rates.{Rates}
use Rattle.pcef_page.specs.Grants.{asks, or_zero}
use Rattle.pcef_page.specs.Usages.{RefusalFigure, member_number, or_empty, refusal_shown, text_in}

-- ---- the active rules
-- a rule that is active
pub record RuleFigure : Type 0 where
  pub name : List ℕ
  pub bearer : ℕ
  pub up : ℕ
  pub down : ℕ

-- the rules without those of a name
abbrev pub without_rule : List ℕ → List RuleFigure → List RuleFigure
without_rule name rules = filter (λ r. not (bytes_eq r.name name)) rules

-- a rule replaces those of its name, and stands last
abbrev pub with_rule : List RuleFigure → RuleFigure → List RuleFigure
with_rule rules rule = without_rule rule.name rules ++ rule ∷ []

-- the rate in a direction that a rule asks for, or 0
abbrev pub rate_by : List ℕ → Option Data → ℕ
rate_by direction None = 0
rate_by direction (Some gbr) = or_zero (member_number direction gbr)

abbrev pub guaranteed_in : List ℕ → Data → ℕ
guaranteed_in direction rule = rate_by direction (get (codes "gbr") rule)

abbrev pub rule_in : Data → ℕ → RuleFigure
rule_in rule bearer = record {
  name = or_empty (text_in (codes "name") rule);
  bearer = bearer;
  up = guaranteed_in (codes "up") rule;
  down = guaranteed_in (codes "down") rule;
}

-- the answer gives the bearer
abbrev pub installed : List RuleFigure → Option Data → Option ℕ → List RuleFigure
installed rules None bearer = rules
installed rules (Some rule) None = rules
installed rules (Some rule) (Some bearer) = with_rule rules (rule_in rule bearer)

-- a predefined rule has no guaranteed rates
abbrev pub with_activated : List RuleFigure → List ℕ → Option ℕ → List RuleFigure
with_activated rules name None = rules
with_activated rules name (Some bearer) = with_rule rules (record { name = name; bearer = bearer; up = 0; down = 0 })

-- the rules without those on a bearer
abbrev pub without_rules_on : List RuleFigure → Option ℕ → List RuleFigure
without_rules_on rules None = rules
without_rules_on rules (Some bearer) = filter (λ r. not (r.bearer == bearer)) rules

abbrev pub named_in : Data → List ℕ
named_in line = or_empty (text_in (codes "name") line)

-- the rules behind a command that was done
abbrev pub rules_by : List RuleFigure → Data → Data → List RuleFigure
rules_by rules line answer =
    if asks (codes "install") line then installed rules (get (codes "rule") line) (member_number (codes "bearer") answer)
    else if asks (codes "activate") line then with_activated rules (named_in line) (member_number (codes "bearer") answer)
    else if asks (codes "remove") line then without_rule (named_in line) rules
    else if asks (codes "lose") line then without_rules_on rules (member_number (codes "bearer") line)
    else if asks (codes "close") line || asks (codes "terminate") line then []
    else rules

-- the answer to a command has a generation
abbrev pub rules_commanded : List RuleFigure → Option ℕ → Data → Data → List RuleFigure
rules_commanded rules None line answer = rules
rules_commanded rules (Some generation) line answer = rules_by rules line answer

abbrev pub rules_done : List RuleFigure → Option RefusalFigure → Option Data → Data → List RuleFigure
rules_done rules (Some refused) line answer = rules
rules_done rules None None answer = rules
rules_done rules None (Some line) answer = rules_commanded rules (member_number (codes "generation") answer) line answer

-- the rules behind a line
abbrev pub rules_behind : List RuleFigure → ℕ → Option Data → Data → List RuleFigure
rules_behind rules number line answer = rules_done rules (refusal_shown number answer) line answer

-- ---- rates
-- the sums of the rates of a bearer's rules, 2^64 - 1 at most
abbrev pub up_of : List RuleFigure → ℕ → ℕ
up_of rules bearer = min (sum_by (λ r. if r.bearer == bearer then r.up else 0) rules) (2 ^ 64 - 1)

abbrev pub down_of : List RuleFigure → ℕ → ℕ
down_of rules bearer = min (sum_by (λ r. if r.bearer == bearer then r.down else 0) rules) (2 ^ 64 - 1)

-- the ids of bearers (TS 24.007, clause 11.2.3.1.5)
abbrev pub bearers : List ℕ
bearers = 5 ∷ 6 ∷ 7 ∷ 8 ∷ 9 ∷ 10 ∷ 11 ∷ 12 ∷ 13 ∷ 14 ∷ 15 ∷ []

abbrev pub is_same : List RuleFigure → List RuleFigure → ℕ → Bool
is_same before after bearer = (up_of before bearer == up_of after bearer) && (down_of before bearer == down_of after bearer)

-- an entry where the sums of a bearer change
abbrev pub rate_change : ℕ → List RuleFigure → List RuleFigure → ℕ → List Rates
rate_change generation before after bearer =
    if is_same before after bearer then []
    else record { generation = generation; bearer = bearer; up = up_of after bearer; down = down_of after bearer } ∷ []

abbrev pub rate_changes : ℕ → List RuleFigure → List RuleFigure → List Rates
rate_changes generation before after = flat_map (rate_change generation before after) bearers

-- those of a line, behind these rules
abbrev pub rates_commanded : List RuleFigure → Option ℕ → Data → Data → List Rates
rates_commanded rules None line answer = []
rates_commanded rules (Some generation) line answer = rate_changes generation rules (rules_by rules line answer)

abbrev pub rates_done : List RuleFigure → Option RefusalFigure → Option Data → Data → List Rates
rates_done rules (Some refused) line answer = []
rates_done rules None None answer = []
rates_done rules None (Some line) answer = rates_commanded rules (member_number (codes "generation") answer) line answer

abbrev pub rates_in : List RuleFigure → ℕ → Option Data → Data → List Rates
rates_in rules number line answer = rates_done rules (refusal_shown number answer) line answer
