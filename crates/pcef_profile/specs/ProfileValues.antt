-- The values of a profile. Each that has a wrong kind or is out of range is `BadValue` (own choice).
use Rattle.std.specs.Prelude.{ℕ, ℤ, pos, negsuc, List, [], ◌∷◌, codes, Bool, Option, Some, None, option_and_then, Result, Ok, if◌then◌else◌}
use Rattle.std.specs.Str.{bytes_eq}
use Rattle.toml.specs.Data.{Data, Items, no_items, item, Members, get_member, as_str, as_integer, as_bool, as_array, as_table}
use Rattle.pcef_packet.specs.declared.header.Addr.{Addr}
use Rattle.pcef_packet.specs.AddressTexts.{address_of}
use Rattle.pcef_rule.specs.declared.qci.Kind.{Kind}
use Rattle.pcef_rule.specs.declared.qci.Kind.TheVariants.{Gbr, NonGbr}
use Rattle.pcef_rule.specs.declared.quantity.Qos.{Qos}
use Rattle.pcef_rule.specs.declared.quantity.Sums.{Sums}
use Rattle.pcef_profile.specs.declared.fault.ReadProfileFault.{ReadProfileFault}
use Rattle.pcef_profile.specs.declared.fault.ReadProfileFault.TheVariants.{BadValue, NoMemory}
use Rattle.pcef_profile.specs.declared.key.Key.{Key}
use Rattle.pcef_profile.specs.declared.key.Key.TheVariants as key
use Rattle.pcef_profile.specs.ProfileKeys.{key_text}
use Rattle.pcef_base.specs.Readings.{◌>>=◌, or_fault, passing, is_from_to, GivesUnless}

-- what a reader of profiles answers is what is due, unless memory ran out
abbrev pub Gives : {X Y : Type 0} → (X → Y) → Result X ReadProfileFault → Result Y ReadProfileFault → Type 0
Gives = GivesUnless NoMemory

unfoldable pub value_at : Key → Members → Result Data ReadProfileFault
value_at name ms = or_fault BadValue (get_member (key_text name) ms)

abbrev pub whole : ℤ → Option ℕ
whole (pos n) = Some n
whole (negsuc n) = None

unfoldable pub number_for : Key → ℕ → ℕ → Members → Result ℕ ReadProfileFault
number_for name least most ms = do
  value ← value_at name ms
  number ← or_fault BadValue (option_and_then whole (as_integer value))
  passing (is_from_to least most) BadValue number

unfoldable pub flag_for : Key → Members → Result Bool ReadProfileFault
flag_for name ms = do
  value ← value_at name ms
  or_fault BadValue (as_bool value)

unfoldable pub text_for : Key → Members → Result (List ℕ) ReadProfileFault
text_for name ms = do
  value ← value_at name ms
  or_fault BadValue (as_str value)

unfoldable pub table_at : Key → Members → Result Members ReadProfileFault
table_at name ms = do
  value ← value_at name ms
  or_fault BadValue (as_table value)

unfoldable pub address_at : Key → Members → Result Addr ReadProfileFault
address_at name ms = do
  text ← text_for name ms
  or_fault BadValue (address_of text)

unfoldable pub qos_at : Key → Members → Result Qos ReadProfileFault
qos_at name ms = do
  inner ← table_at name ms
  qci ← number_for key.Qci 0 255 inner
  level ← number_for key.Level 1 15 inner
  capability ← flag_for key.Capability inner
  vulnerability ← flag_for key.Vulnerability inner
  Ok (record { qci = record { 0 = qci }; arp = record { level = level; capability = capability; vulnerability = vulnerability } })

unfoldable pub capacity_at : Key → ℕ → Members → Result Sums ReadProfileFault
capacity_at name most ms = do
  inner ← table_at name ms
  up ← number_for key.Up 0 most inner
  down ← number_for key.Down 0 most inner
  Ok (record { up = up; down = down })

-- TS 23.203, table 6.1.7
abbrev pub qci_kind : List ℕ → Option Kind
qci_kind text =
    if bytes_eq text (codes "GBR") then Some Gbr
    else if bytes_eq text (codes "NON-GBR") then Some NonGbr
    else None

unfoldable pub kind_at : Key → Members → Result Kind ReadProfileFault
kind_at name ms = do
  text ← text_for name ms
  or_fault BadValue (qci_kind text)

-- a QCI and the kind that is declared for it
unfoldable pub declaration_of : Data → Result (ℕ × Kind) ReadProfileFault
declaration_of d = do
  inner ← or_fault BadValue (as_table d)
  qci ← number_for key.Qci 0 255 inner
  kind ← kind_at key.Kind inner
  Ok (qci, kind)

abbrev pub declarations_of : Items → Result (List (ℕ × Kind)) ReadProfileFault
declarations_of no_items = Ok []
declarations_of (item d ds) = declaration_of d >>= λ first. declarations_of ds >>= λ others. Ok (first ∷ others)

-- none where there is no such array
abbrev pub declarations_there : Option Data → Result (List (ℕ × Kind)) ReadProfileFault
declarations_there None = Ok []
declarations_there (Some d) = or_fault BadValue (as_array d) >>= declarations_of

unfoldable pub declarations_at : Key → Members → Result (List (ℕ × Kind)) ReadProfileFault
declarations_at name ms = declarations_there (get_member (key_text name) ms)
