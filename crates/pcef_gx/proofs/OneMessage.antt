-- Two readings of filters that are the same make the same orders.
use Rattle.std.proofs.Common.{◌≡◌, ◌∙◌, ℕ, Bool, true, false, List, [], ◌∷◌, Option, Some, None, Result, Ok, Err, cond, refl, sym, ap}
use Rattle.std.specs.Str.{is_utf8}
use Rattle.pcef_diameter.specs.Avps.{Shown}
use Rattle.pcef_filter.specs.declared.filter.Filter.{Filter}
use Rattle.pcef_filter.specs.declared.filter.FilterFault.{FilterFault}
use Rattle.pcef_filter.specs.declared.filter.Flow.{Flow}
use Rattle.pcef_filter.specs.Reading.{reading_of}
use Rattle.pcef_filter.proofs.FilterLaws.{fault_once, fault_or_filter, filter_again}
use Rattle.pcef_line.specs.FilterReads.{FilterReading, IsExact, IsReadAs}
use Rattle.pcef_line.proofs.LineLaws.{AreSame, reading_exact}
use Rattle.pcef_base.specs.Readings.{◌>>=◌, under}
use Rattle.pcef_gx.specs.Codes.{charging_rule_base_name, charging_rule_definition, charging_rule_install, charging_rule_name, flow_description, flow_direction, flow_information, flow_status, has_code, monitoring_key, online, precedence, qos_information, session_release_cause}
use Rattle.pcef_gx.specs.Definitions.{change_of, quality_where}
use Rattle.pcef_gx.specs.Flows.{and_filter, failure_of_text, filter_by, filter_of, flow_in, flow_of, flows_after, says_more}
use Rattle.pcef_gx.specs.Installs.{activated, and_order, definition_order, install_after, installed, installs_after, named_change, part_installed, parts_installed, refusal_of_all, removes_after, unable}
use Rattle.pcef_gx.specs.Messages.{Asked, all_stand, asked_of, default_of, message_of}
use Rattle.pcef_gx.specs.Names.{name_of}
use Rattle.pcef_gx.specs.Readings.{Fault, group_of, only_number_of, only_of, only_word_of, required_of}
use Rattle.pcef_gx.specs.declared.code.Code.{Code}
use Rattle.pcef_gx.specs.declared.failure.RuleFailure.{RuleFailure}
use Rattle.pcef_gx.specs.declared.failure.RuleFailure.TheVariants.{IncorrectFlowInformation}
use Rattle.pcef_gx.specs.declared.order.Order.{Order}

-- ---- one thing after another
then_same : {A B E : Type 0} (r : Result A E) (f g : A → Result B E) → ((x : A) → f x ≡ g x) → (r >>= f) ≡ (r >>= g)
then_same (Ok x) f g same = same x
then_same (Err e) f g same = refl

both_same : {A B E : Type 0} (r s : Result A E) (f g : A → Result B E) → r ≡ s → ((x : A) → f x ≡ g x) → (r >>= f) ≡ (s >>= g)
both_same r s f g is same = ap (λ r. r >>= f) is ∙ then_same s f g same

either_same : {A : Type 0} (t : Bool) (x y v w : A) → x ≡ y → v ≡ w → cond t x v ≡ cond t y w
either_same true x y v w is also = is
either_same false x y v w is also = also

-- ---- filters
read_once : (text : List ℕ) (flow : Option Flow) (a b : Result Filter FilterFault) → IsReadAs text flow a → IsReadAs text flow b → a ≡ b
read_once text flow (Ok f) (Ok g) is also = sym (filter_again flow text f is) ∙ filter_again flow text g also
read_once text flow (Ok f) (Err e) is also = absurd (fault_or_filter text flow f e is also)
read_once text flow (Err e) (Ok f) is also = absurd (fault_or_filter text flow f e also is)
read_once text flow (Err d) (Err e) is also = ap (λ (x : FilterFault). Err x) (fault_once text flow d e is also)

same_text : (a b : FilterReading) → AreSame a b → (text : List ℕ) (flow : Option Flow) → filter_of a text flow ≡ filter_of b text flow
same_text a b same text flow =
    ap (λ r. cond (is_utf8 text) (under (failure_of_text text) r) (Err IncorrectFlowInformation)) (same text flow)

same_by : (a b : FilterReading) → AreSame a b → (more : Bool) (description : Option Shown) (word : Option ℕ) → filter_by a more description word ≡ filter_by b more description word
same_by a b same false (Some d) word = same_text a b same d.octets (flow_of word)
same_by a b same false None word = refl
same_by a b same true description word = refl

same_flow : (a b : FilterReading) → AreSame a b → (x : Shown) → flow_in a x ≡ flow_in b x
unfolding flow_in
same_flow a b same x =
    then_same (group_of x.octets) _ _ (λ parts. then_same (only_word_of flow_direction 3 parts) _ _ (λ word. then_same (only_of flow_description parts) _ _ (λ description.
    ap (λ (r : Result Filter RuleFailure). Ok r) (same_by a b same (says_more parts) description word))))

same_flows : (a b : FilterReading) → AreSame a b → (found : Result (List Filter) RuleFailure) (parts : List Shown) → flows_after a found parts ≡ flows_after b found parts
same_flows a b same found [] = refl
same_flows a b same found (x ∷ parts) =
    either_same (has_code flow_information x) _ _ _ _
    (both_same (flow_in a x) (flow_in b x) _ _ (same_flow a b same x) (λ next. same_flows a b same (and_filter found next) parts))
    (same_flows a b same found parts)

-- ---- rules
same_change : (a b : FilterReading) → AreSame a b → (name : List ℕ) (parts : List Shown) → change_of a name parts ≡ change_of b name parts
unfolding change_of
same_change a b same name parts =
    then_same (only_number_of precedence parts) _ _ (λ p. then_same (only_word_of flow_status 4 parts) _ _ (λ status. then_same (only_word_of online 1 parts) _ _ (λ charging.
    then_same (only_of monitoring_key parts) _ _ (λ key. then_same (only_of qos_information parts) _ _ (λ information. then_same (quality_where information) _ _ (λ quality.
    both_same (flows_after a (Ok []) parts) (flows_after b (Ok []) parts) _ _ (same_flows a b same (Ok []) parts) (λ filters. refl)))))))

same_named : (a b : FilterReading) → AreSame a b → (refused : Option RuleFailure) (x : Shown) (parts : List Shown) (name : Option (List ℕ)) → named_change a refused x parts name ≡ named_change b refused x parts name
same_named a b same refused x parts None = refl
same_named a b same refused x parts (Some name) =
    both_same (change_of a name parts) (change_of b name parts) _ _ (same_change a b same name parts) (λ change. refl)

same_definition : (a b : FilterReading) → AreSame a b → (refused : Option RuleFailure) (x : Shown) → definition_order a refused x ≡ definition_order b refused x
unfolding definition_order
same_definition a b same refused x =
    then_same (group_of x.octets) _ _ (λ parts. then_same (required_of charging_rule_name parts) _ _ (λ called. same_named a b same refused called parts (name_of called.octets)))

same_part : (a b : FilterReading) → AreSame a b → (refused : Option RuleFailure) (x : Shown) → part_installed a refused x ≡ part_installed b refused x
unfolding part_installed
same_part a b same refused x =
    either_same (has_code charging_rule_definition x) _ _ _ _
    (both_same (definition_order a refused x) (definition_order b refused x) _ _ (same_definition a b same refused x) (λ asked. refl))
    refl

same_parts : (a b : FilterReading) → AreSame a b → (refused : Option RuleFailure) (orders : List Order) (parts : List Shown) → parts_installed a refused orders parts ≡ parts_installed b refused orders parts
same_parts a b same refused orders [] = refl
same_parts a b same refused orders (x ∷ parts) =
    both_same (part_installed a refused x) (part_installed b refused x) _ _ (same_part a b same refused x) (λ asked. same_parts a b same refused (and_order orders asked) parts)

same_install : (a b : FilterReading) → AreSame a b → (orders : List Order) (x : Shown) → install_after a orders x ≡ install_after b orders x
unfolding install_after
same_install a b same orders x = then_same (group_of x.octets) _ _ (λ parts. same_parts a b same (refusal_of_all parts) orders parts)

same_installs : (a b : FilterReading) → AreSame a b → (orders : List Order) (avps : List Shown) → installs_after a orders avps ≡ installs_after b orders avps
same_installs a b same orders [] = refl
same_installs a b same orders (x ∷ avps) =
    either_same (has_code charging_rule_install x) _ _ _ _
    (both_same (install_after a orders x) (install_after b orders x) _ _ (same_install a b same orders x) (λ more. same_installs a b same more avps))
    (same_installs a b same orders avps)

-- ---- messages
same_asked : (a b : FilterReading) → AreSame a b → (avps : List Shown) → asked_of a avps ≡ asked_of b avps
unfolding asked_of
same_asked a b same avps =
    then_same (default_of avps) _ _ (λ qos. then_same (only_number_of session_release_cause avps) _ _ (λ release. then_same (removes_after [] avps) _ _ (λ removed.
    both_same (installs_after a removed avps) (installs_after b removed avps) _ _ (same_installs a b same removed avps) (λ asked. refl))))

same_message : (a b : FilterReading) → AreSame a b → (codes : List Code) (avps : List Shown) → message_of codes a avps ≡ message_of codes b avps
unfolding message_of
same_message a b same codes avps = then_same (all_stand codes avps) _ _ (λ stand. same_asked a b same avps)

pub due_once : (codes : List Code) (avps : List Shown) (a b : FilterReading) → IsExact a → IsExact b → message_of codes a avps ≡ message_of codes b avps
due_once codes avps a b is also = same_message a b (λ text flow. read_once text flow (a text flow) (b text flow) (is text flow) (also text flow)) codes avps
