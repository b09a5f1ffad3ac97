-- The figures of a script by its answers (own choice).
use Rattle.std.specs.Prelude.{ℕ, ◌≡◌, ◌<◌, true, false, List, [], ◌∷◌, ◌++◌, length, map, is_some, Option, None}
use Rattle.std.specs.List.{All, flat_map}
use Rattle.serde_json.specs.Data.{Data}
use Rattle.pcef_page.specs.declared.collecting.CollectFault.{CollectFault}
use Rattle.pcef_page.specs.declared.collecting.CollectFault.TheVariants as fault
use Rattle.pcef_page.specs.declared.figures.Figures.{Figures}
use Rattle.pcef_page.specs.declared.figures.Rates.{Rates}
use Rattle.pcef_page.specs.Grants.{GrantFigure, KeyFigure, generation_behind, grant_of, grants_in, key_of, keys_behind}
use Rattle.pcef_page.specs.Guarantees.{RuleFigure, rates_in, rules_behind}
use Rattle.pcef_page.specs.Pairing.{Exchange, exchanges, filled, is_answered, has_value}
use Rattle.pcef_page.specs.Usages.{UsageFigure, RefusalFigure, refusal_shown, refusal_of, refusals_in, usage_figure_of, usage_in}

-- the number of the last line of these, or else this one
abbrev pub last_from : ℕ → List Exchange → ℕ
last_from number [] = number
last_from number (x ∷ xs) = last_from x.number xs

abbrev pub usage_figures : List Exchange → List UsageFigure
usage_figures xs = flat_map (λ x. usage_in x.number x.answer) xs

abbrev pub refusal_figures : List Exchange → List RefusalFigure
refusal_figures xs = flat_map (λ x. refusals_in x.number x.answer) xs

abbrev pub grant_figures : List Exchange → List GrantFigure
grant_figures xs = flat_map (λ x. grants_in x.number x.line x.answer) xs

-- the keys by the last line of these that shows them, or else these
abbrev pub keys_from : List KeyFigure → List Exchange → List KeyFigure
keys_from keys [] = keys
keys_from keys (x ∷ xs) = keys_from (keys_behind keys x.number x.answer) xs

-- the newest generation of the answers to these lines, or else this one
abbrev pub generation_from : ℕ → List Exchange → ℕ
generation_from generation [] = generation
generation_from generation (x ∷ xs) = generation_from (generation_behind generation x.number x.answer) xs

-- the rules that are active behind these lines, and the rates that change with them; these rules
-- were active before
abbrev pub rules_from : List RuleFigure → List Exchange → List RuleFigure
rules_from rules [] = rules
rules_from rules (x ∷ xs) = rules_from (rules_behind rules x.number x.line x.answer) xs

abbrev pub rates_from : List RuleFigure → List Exchange → List Rates
rates_from rules [] = []
rates_from rules (x ∷ xs) = rates_in rules x.number x.line x.answer ++ rates_from (rules_behind rules x.number x.line x.answer) xs

-- the figures of these lines with their answers, and of no others
pub record AreFiguresOf (xs : List Exchange) (f : Figures) : Type 0 where
  pub lines : f.lines ≡ length xs
  pub last : f.last ≡ last_from 0 xs
  pub generation : f.generation ≡ generation_from 0 xs
  pub usage : map usage_figure_of f.usage.items ≡ usage_figures xs
  pub grants : map grant_of f.grants.items ≡ grant_figures xs
  pub keys : map key_of f.keys.items ≡ keys_from [] xs
  pub rates : f.rates.items ≡ rates_from [] xs
  pub refusals : map refusal_of f.refused.items ≡ refusal_figures xs
  pub answered : All (λ x. is_answered x ≡ true) xs

-- no figures
pub record IsBlank (f : Figures) : Type 0 where
  pub lines : f.lines ≡ 0
  pub last : f.last ≡ 0
  pub generation : f.generation ≡ 0
  pub judged : f.judged.items ≡ []
  pub usage : f.usage.items ≡ []
  pub grants : f.grants.items ≡ []
  pub keys : f.keys.items ≡ []
  pub rates : f.rates.items ≡ []
  pub refused : f.refused.items ≡ []

-- what is wrong with the line of a number and its answer, an object; verdicts on other packets are
-- only in the answer to a line that was done
abbrev pub IsMismatch : ℕ → Option Data → Data → CollectFault → Type 0
IsMismatch number line answer (fault.NoAnswer n) = (n ≡ number) × (has_value number line answer ≡ false)
IsMismatch number line answer (fault.OtherPackets n) = (n ≡ number) × (refusal_shown number answer ≡ None) × (is_some line ≡ true)
IsMismatch number line answer fault.MoreAnswers = ⊥
IsMismatch number line answer fault.NoMemory = Unit {0}

-- and with any answer
abbrev pub IsExchangeFault : CollectFault → Exchange → Type 0
IsExchangeFault (fault.NoAnswer n) x = (n ≡ x.number) × (is_answered x ≡ false)
IsExchangeFault (fault.OtherPackets n) x = (n ≡ x.number) × (is_answered x ≡ true) × (refusal_shown x.number x.answer ≡ None)
IsExchangeFault fault.MoreAnswers x = ⊥
IsExchangeFault fault.NoMemory x = Unit {0}

-- the first line at fault stands behind lines that have their answers
abbrev pub FailsFirst : CollectFault → List Exchange → Type 0
FailsFirst fault xs =
    (front : List Exchange) × (x : Exchange) × (back : List Exchange)
    × (xs ≡ front ++ x ∷ back) × All (λ y. is_answered y ≡ true) front × IsExchangeFault fault x

-- why a script and answers don't belong together
abbrev pub Fails : CollectFault → List ℕ → List ℕ → Type 0
Fails (fault.NoAnswer n) script answers = FailsFirst (fault.NoAnswer n) (exchanges script answers)
Fails (fault.OtherPackets n) script answers = FailsFirst (fault.OtherPackets n) (exchanges script answers)
Fails fault.MoreAnswers script answers = (length (filled script) < length (filled answers)) × All (λ y. is_answered y ≡ true) (exchanges script answers)
Fails fault.NoMemory script answers = Unit {0}
