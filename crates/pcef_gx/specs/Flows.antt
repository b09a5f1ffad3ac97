-- The filters of a rule (TS 29.212, clause 5.3.53).
use Rattle.std.specs.Prelude.{ℕ, ◌==◌, ◌||◌, nat_eq, Bool, true, false, List, [], ◌∷◌, ◌++◌, codes, Option, Some, None, Result, Ok, Err, if◌then◌else◌}
use Rattle.std.specs.Str.{is_utf8}
use Rattle.std.specs.List.{starts_with}
use Rattle.pcef_base.specs.Readings.{◌>>=◌, under}
use Rattle.pcef_diameter.specs.Avps.{Shown}
use Rattle.pcef_filter.specs.declared.filter.Filter.{Filter}
use Rattle.pcef_filter.specs.declared.filter.FilterFault.{FilterFault}
use Rattle.pcef_filter.specs.declared.filter.FilterFault.TheVariants as fault
use Rattle.pcef_filter.specs.declared.filter.Flow.{Flow}
use Rattle.pcef_filter.specs.declared.filter.Flow.TheVariants.{Bidirectional, Downlink, Uplink}
use Rattle.pcef_line.specs.FilterReads.{FilterReading}
use Rattle.pcef_gx.specs.Codes.{flow_description, flow_direction, flow_information, flow_label, has_code, security_parameter_index, tos_traffic_class}
use Rattle.pcef_gx.specs.Known.{is_one_of}
use Rattle.pcef_gx.specs.Readings.{Fault, group_of, only_of, only_word_of, stands}
use Rattle.pcef_gx.specs.declared.failure.RuleFailure.{RuleFailure}
use Rattle.pcef_gx.specs.declared.failure.RuleFailure.TheVariants.{FilterRestrictions, IncorrectFlowInformation}

-- Flow-Direction: UNSPECIFIED 0, DOWNLINK 1, UPLINK 2, BIDIRECTIONAL 3. UNSPECIFIED applies as BIDIRECTIONAL does (TS
-- 29.212, clause 5.3.65). Without the AVP a filter has no flow word.
abbrev pub flow_of : Option ℕ → Option Flow
flow_of None = None
flow_of (Some word) = if word == 1 then Some Downlink else if word == 2 then Some Uplink else Some Bidirectional

-- What an IPFilterRule may say and a session doesn't take: `deny`, an address with `!`, options (RFC 6733, clause 4.3.1;
-- TS 29.214, clause 5.3.8).
abbrev pub is_restricted : FilterFault → List ℕ → Bool
is_restricted fault.Rest text = true
is_restricted fault.Action text = starts_with nat_eq text (codes "deny")
is_restricted fault.Source text = is_one_of text 33
is_restricted fault.Target text = is_one_of text 33
is_restricted _ text = false

abbrev pub failure_of_text : List ℕ → FilterFault → RuleFailure
failure_of_text text fault = if is_restricted fault text then FilterRestrictions else IncorrectFlowInformation

abbrev pub filter_of : FilterReading → List ℕ → Option Flow → Result Filter RuleFailure
filter_of reads text flow =
    if is_utf8 text then under (failure_of_text text) (reads text flow) else Err IncorrectFlowInformation

abbrev pub filter_by : FilterReading → Bool → Option Shown → Option ℕ → Result Filter RuleFailure
filter_by reads false (Some description) word = filter_of reads description.octets (flow_of word)
filter_by reads _ _ word = Err IncorrectFlowInformation

abbrev pub says_more : List Shown → Bool
says_more parts = stands tos_traffic_class parts || (stands security_parameter_index parts || stands flow_label parts)

-- A Flow-Information is one filter; it has nothing but a text and a direction.
unfoldable pub flow_in : FilterReading → Shown → Result (Result Filter RuleFailure) Fault
flow_in reads a = do
  parts ← group_of a.octets
  word ← only_word_of flow_direction 3 parts
  description ← only_of flow_description parts
  Ok (filter_by reads (says_more parts) description word)

-- one filter behind others, of which the first that can't be had stays
abbrev pub and_filter : Result (List Filter) RuleFailure → Result Filter RuleFailure → Result (List Filter) RuleFailure
and_filter (Err failure) next = Err failure
and_filter (Ok filters) (Ok filter) = Ok (filters ++ filter ∷ [])
and_filter (Ok filters) (Err failure) = Err failure

-- the filters of all Flow-Informations, behind others
abbrev pub flows_after : FilterReading → Result (List Filter) RuleFailure → List Shown → Result (Result (List Filter) RuleFailure) Fault
flows_after reads found [] = Ok found
flows_after reads found (a ∷ parts) =
    if has_code flow_information a then flow_in reads a >>= (λ next. flows_after reads (and_filter found next) parts)
    else flows_after reads found parts
