-- What a line with its answer adds to the figures: for private clauses.
use Rattle.std.specs.Prelude.{ℕ, ◌≡◌, ◌+◌, ◌-◌, ◌^◌, ◌++◌, Option, true, codes, map, max, min}
use Rattle.serde_json.specs.Data.{Data}
use Rattle.serde_json.specs.Find.{get}
use Rattle.pcef_page.specs.declared.collecting.CollectFault.{CollectFault}
use Rattle.pcef_page.specs.declared.collecting.CollectFault.TheVariants as fault
use Rattle.pcef_page.specs.declared.collecting.Collected.{Collected}
use Rattle.pcef_page.specs.declared.figures.Figures.{Figures}
use Rattle.pcef_page.specs.declared.pairing.Filled.{Filled}
use Rattle.pcef_page.specs.Grants.{generation_behind, grant_asked, grant_of, grants_in, key_of, keys_behind, keys_shown, or_zero}
use Rattle.pcef_page.specs.Guarantees.{rates_commanded, rates_in, rules_behind, rules_commanded}
use Rattle.pcef_page.specs.Pairing.{Exchange, exchange_of, is_answered, has_value}
use Rattle.pcef_page.specs.Usages.{member_number, refusal_of, refusals_in, usage_figure_of, usage_in}

abbrev pub exchange_by : Filled → Filled → Exchange
exchange_by line answer = exchange_of ((line.number, line.octets.now), (answer.number, answer.octets.now))

-- packets are added, and nothing else
pub record AddsPackets (old new : Figures) : Type 0 where
  pub lines : new.lines ≡ old.lines
  pub last : new.last ≡ old.last
  pub generation : new.generation ≡ old.generation
  pub usage : new.usage ≡ old.usage
  pub grants : new.grants ≡ old.grants
  pub keys : new.keys ≡ old.keys
  pub rates : new.rates ≡ old.rates
  pub refused : new.refused ≡ old.refused

-- what a line that was done asked for is added, and what its answer shows
pub record TakesDone (number : ℕ) (line answer : Data) (old new : Collected) : Type 0 where
  pub lines : new.figures.lines ≡ old.figures.lines
  pub last : new.figures.last ≡ old.figures.last
  pub generation : new.figures.generation ≡ max old.figures.generation (or_zero (member_number (codes "generation") answer))
  pub usage : new.figures.usage ≡ old.figures.usage
  pub grants : map grant_of new.figures.grants.items ≡ map grant_of old.figures.grants.items ++ grant_asked number line
  pub keys : map key_of new.figures.keys.items ≡ keys_shown (map key_of old.figures.keys.items) (get (codes "keys") answer) answer
  pub rates : new.figures.rates.items ≡ old.figures.rates.items ++ rates_commanded old.active (member_number (codes "generation") answer) line answer
  pub refused : new.figures.refused ≡ old.figures.refused
  pub active : new.active ≡ rules_commanded old.active (member_number (codes "generation") answer) line answer

abbrev pub IsOtherOrMemory : ℕ → CollectFault → Type 0
IsOtherOrMemory number (fault.NoAnswer n) = ⊥
IsOtherOrMemory number (fault.OtherPackets n) = n ≡ number
IsOtherOrMemory number fault.MoreAnswers = ⊥
IsOtherOrMemory number fault.NoMemory = Unit {0}

-- a line is added with its answer, after it was counted and its answer's reports were added
pub record TakesLine (number : ℕ) (line : Option Data) (answer : Data) (old new : Collected) : Type 0 where
  pub lines : new.figures.lines ≡ old.figures.lines
  pub last : new.figures.last ≡ old.figures.last
  pub generation : new.figures.generation ≡ generation_behind old.figures.generation number answer
  pub usage : new.figures.usage ≡ old.figures.usage
  pub grants : map grant_of new.figures.grants.items ≡ map grant_of old.figures.grants.items ++ grants_in number line answer
  pub keys : map key_of new.figures.keys.items ≡ keys_behind (map key_of old.figures.keys.items) number answer
  pub rates : new.figures.rates.items ≡ old.figures.rates.items ++ rates_in old.active number line answer
  pub refused : map refusal_of new.figures.refused.items ≡ map refusal_of old.figures.refused.items ++ refusals_in number answer
  pub active : new.active ≡ rules_behind old.active number line answer
  pub answered : has_value number line answer ≡ true

-- a line with its answer is added
pub record AddsExchange (x : Exchange) (old new : Collected) : Type 0 where
  pub lines : new.figures.lines ≡ min (old.figures.lines + 1) (2 ^ 64 - 1)
  pub last : new.figures.last ≡ x.number
  pub generation : new.figures.generation ≡ generation_behind old.figures.generation x.number x.answer
  pub usage : map usage_figure_of new.figures.usage.items ≡ map usage_figure_of old.figures.usage.items ++ usage_in x.number x.answer
  pub grants : map grant_of new.figures.grants.items ≡ map grant_of old.figures.grants.items ++ grants_in x.number x.line x.answer
  pub keys : map key_of new.figures.keys.items ≡ keys_behind (map key_of old.figures.keys.items) x.number x.answer
  pub rates : new.figures.rates.items ≡ old.figures.rates.items ++ rates_in old.active x.number x.line x.answer
  pub refused : map refusal_of new.figures.refused.items ≡ map refusal_of old.figures.refused.items ++ refusals_in x.number x.answer
  pub answered : is_answered x ≡ true
  pub active : new.active ≡ rules_behind old.active x.number x.line x.answer
