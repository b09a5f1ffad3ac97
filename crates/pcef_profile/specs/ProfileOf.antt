-- The profile that a text is, or its first fault (own choice).
use Rattle.std.specs.Prelude.{◌≡◌, ◌<◌, ◌⊎◌, ℕ, List, [], Bool, not, ◌&&◌, Option, Some, None, Result, Ok, Err}
use Rattle.std.specs.Option.{option_or}
use Rattle.toml.specs.Data.{Members}
use Rattle.toml.specs.Parse.{parse_document}
use Rattle.pcef_packet.specs.declared.header.Addr.{Addr}
use Rattle.pcef_rule.specs.QciKinds.{declares_out_of_range, declares_twice, declared_kind, declared_at, kind_of}
use Rattle.pcef_rule.specs.declared.qci.Kind.{Kind}
use Rattle.pcef_rule.specs.declared.qci.Kind.TheVariants.{Gbr, NonGbr}
use Rattle.pcef_rule.specs.declared.quantity.Qos.{Qos}
use Rattle.pcef_rule.specs.declared.quantity.Sums.{Sums}
use Rattle.pcef_model.specs.ProfileModel.{ProfileModel}
use Rattle.pcef_profile.specs.declared.fault.ReadProfileFault.{ReadProfileFault}
use Rattle.pcef_profile.specs.declared.fault.ReadProfileFault.TheVariants.{NotToml, UnknownKey, Missing, BadValue, UnknownQci, DefaultIsGbr, NoMemory}
use Rattle.pcef_profile.specs.declared.key.Key.TheVariants as key
use Rattle.pcef_profile.specs.ProfileKeys.{has_known_keys, is_whole}
use Rattle.pcef_profile.specs.ProfileValues.{number_for, address_at, qos_at, capacity_at, declarations_at}
use Rattle.pcef_base.specs.Readings.{◌>>=◌, or_fault, passing}

-- what a profile says
pub record ProfileSaid : Type 0 where
  pub ue : Addr
  pub rows : ℕ
  pub commands : ℕ
  pub default_qos : Qos
  pub capacity : Sums
  pub declared : List (ℕ × Kind)

-- what the text of a profile says, where it declares these QCIs
abbrev pub said : List (ℕ × Kind) → ProfileModel → ProfileSaid
said declared t = record { ue = t.ue; rows = t.rows; commands = t.commands; default_qos = t.default_qos; capacity = t.capacity; declared = declared }

-- 10 to 254, and none twice
abbrev pub may_be_declared : List (ℕ × Kind) → Bool
may_be_declared declared = not (declares_out_of_range declared) && not (declares_twice declared)

unfoldable pub values_of : List (ℕ × Kind) → Members → Result ProfileSaid ReadProfileFault
values_of declared ms = do
  ue ← address_at key.Ue ms
  rows ← number_for key.Rows 1 4294967295 ms
  commands ← number_for key.Commands 1 1000000 ms
  default_qos ← qos_at key.Default ms
  capacity ← capacity_at key.Capacity 1099511627775 ms
  lawful ← passing may_be_declared BadValue declared
  Ok (record { ue = ue; rows = rows; commands = commands; default_qos = default_qos; capacity = capacity; declared = lawful })

-- a standard QCI's kind, or the declared one
abbrev pub kind_with : List (ℕ × Kind) → ℕ → Option Kind
kind_with declared qci = option_or (kind_of [] qci) (declared_kind declared qci)

-- the default bearer has no guaranteed bit rate (TS 23.401, clause 4.7.2.1)
abbrev pub with_kind : ProfileSaid → Option Kind → Result ProfileSaid ReadProfileFault
with_kind p None = Err UnknownQci
with_kind p (Some Gbr) = Err DefaultIsGbr
with_kind p (Some NonGbr) = Ok p

unfoldable pub profile_of : Members → Result ProfileSaid ReadProfileFault
profile_of ms = do
  known ← passing has_known_keys UnknownKey ms
  complete ← passing is_whole Missing known
  declared ← declarations_at key.Declared complete
  p ← values_of declared complete
  with_kind p (kind_with p.declared p.default_qos.qci.0)

-- a TOML document (v1.0.0)
unfoldable pub ProfileOf : List ℕ → Result ProfileSaid ReadProfileFault
ProfileOf text = or_fault NotToml (parse_document text) >>= profile_of

-- a table of kinds has those that are declared, and no others
abbrev pub Declares : List (Option Kind) → List (ℕ × Kind) → Type 0
Declares kinds declared = (qci : ℕ) → qci < 256 → declared_at kinds qci ≡ declared_kind declared qci

-- a profile has what its text says
pub record IsAsSaid (t : ProfileModel) (s : ProfileSaid) : Type 0 where
  pub values : said s.declared t ≡ s
  pub kinds : Declares t.qcis s.declared

-- What is answered is what is due. Where memory ran out, nothing is said.
abbrev pub GivesProfile : Result ProfileModel ReadProfileFault → Result ProfileSaid ReadProfileFault → Type 0
GivesProfile (Ok t) (Ok s) = IsAsSaid t s
GivesProfile (Ok t) (Err e) = ⊥
GivesProfile (Err e) due = (e ≡ NoMemory) ⊎ (due ≡ Err e)

abbrev pub profile_fault_number : ReadProfileFault → ℕ
profile_fault_number NotToml = 1
profile_fault_number UnknownKey = 2
profile_fault_number Missing = 3
profile_fault_number BadValue = 4
profile_fault_number UnknownQci = 5
profile_fault_number DefaultIsGbr = 6
profile_fault_number NoMemory = 7
