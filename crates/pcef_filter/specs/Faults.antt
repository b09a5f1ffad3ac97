-- Where a filter text is wrong (own choice): at the first token that fits no filter text, or at the
-- place where the text ends too early.
use Rattle.std.specs.Prelude.{ℕ, ◌≡◌, ◌<◌, ◌≤◌, ◌⊎◌, Bool, false, List, [], ◌∷◌, ◌++◌, length, take, slice_get, Option, Some, None, if◌then◌else◌}
use Rattle.pcef_filter.specs.Tokens.{Token, tokens, begins_with_digit}
use Rattle.pcef_filter.specs.Classes.{AllowsFlow}
use Rattle.pcef_filter.specs.Grammar.{SpellsTokens}
use Rattle.pcef_filter.specs.declared.filter.Flow.{Flow}
use Rattle.pcef_filter.specs.declared.filter.Filter.{Filter}
use Rattle.pcef_filter.specs.declared.filter.FilterFault.{FilterFault}
use Rattle.pcef_filter.specs.declared.filter.FilterFault.TheVariants as fault

-- ---- how far tokens are right
-- tokens that spell some filter
abbrev pub IsRight : List Token → Type 0
IsRight ts = (filter : Filter) × SpellsTokens ts filter

-- tokens that some more can complete
abbrev pub IsViable : (List Token → Type 0) → List Token → Type 0
IsViable Right ts = (more : List Token) × Right (ts ++ more)

-- `count` tokens can be completed, and no more of them
pub record IsLongestViable (Right : List Token → Type 0) (ts : List Token) (count : ℕ) : Type 0 where
  pub within : count ≤ length ts
  pub viable : IsViable Right (take count ts)
  pub longest : (larger : ℕ) → count < larger → larger ≤ length ts → ¬ (IsViable Right (take larger ts))

-- ---- the fault's name, by the tokens before its place and by the token there, if any
abbrev pub is_digit_next : Option Token → Bool
is_digit_next None = false
is_digit_next (Some token) = begins_with_digit token

-- after the word `to`
abbrev pub fault_after_to : List Token → Option Token → FilterFault
fault_after_to [] next = fault.Target
fault_after_to (place ∷ []) next = if is_digit_next next then fault.TargetPorts else fault.Rest
fault_after_to (place ∷ ports ∷ ts) next = fault.Rest

-- after the source's ports
abbrev pub fault_after_ports : List Token → Option Token → FilterFault
fault_after_ports [] next = fault.To
fault_after_ports (to ∷ ts) next = fault_after_to ts next

-- after the source's place
abbrev pub fault_after_place : List Token → Option Token → FilterFault
fault_after_place [] next = if is_digit_next next then fault.SourcePorts else fault.To
fault_after_place (token ∷ ts) next = if begins_with_digit token then fault_after_ports ts next else fault_after_to ts next

-- after the text's beginning
abbrev pub fault_after : List Token → Option Token → FilterFault
fault_after [] next = fault.Action
fault_after (permit ∷ []) next = fault.Direction
fault_after (permit ∷ dir ∷ []) next = fault.Proto
fault_after (permit ∷ dir ∷ proto ∷ []) next = fault.From
fault_after (permit ∷ dir ∷ proto ∷ from ∷ []) next = fault.Source
fault_after (permit ∷ dir ∷ proto ∷ from ∷ place ∷ ts) next = fault_after_place ts next

-- ---- the fault
-- tokens that spell no filter: the fault stands after the longest front that can be completed
abbrev pub TokensFault : List Token → FilterFault → Type 0
TokensFault ts e = ¬ (IsRight ts) × (count : ℕ) × IsLongestViable IsRight ts count × (e ≡ fault_after (take count ts) (slice_get ts count))

-- tokens that spell a filter, beside a flow word that may not stand there; this is judged last
abbrev pub FlowFault : List Token → Option Flow → Type 0
FlowFault ts flow = (filter : Filter) × SpellsTokens ts filter × ¬ (AllowsFlow filter.direction flow)

-- the fault of a text and a flow word
abbrev pub FilterFaultOf : List ℕ → Option Flow → FilterFault → Type 0
FilterFaultOf text flow e = TokensFault (tokens text) e ⊎ ((e ≡ fault.Flow) × FlowFault (tokens text) flow)
