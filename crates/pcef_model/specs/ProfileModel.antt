-- What is fixed for a session.
use Rattle.std.specs.Prelude.{ℕ, ◌≤◌, List, Option}
use Rattle.pcef_packet.specs.declared.header.Addr.{Addr}
use Rattle.pcef_rule.specs.declared.qci.Kind.{Kind}
use Rattle.pcef_rule.specs.declared.quantity.Qos.{Qos}
use Rattle.pcef_rule.specs.declared.quantity.Sums.{Sums}
use Rattle.pcef_catalog.specs.declared.listing.Offer.{Offer}
use Rattle.pcef_model.specs.Setting.{Setting}

-- the address of the user equipment, QCI and ARP of the default bearer, the capacity that guaranteed
-- rates share, what is declared for each QCI, and how many rows and commands the journal takes
pub record ProfileModel : Type 0 where
  pub ue : Addr
  pub default_qos : Qos
  pub capacity : Sums
  pub qcis : List (Option Kind)
  pub rows : ℕ
  pub commands : ℕ

-- own choice
pub record IsWithinLimits (capacity : Sums) (rows commands : ℕ) : Type 0 where
  pub up : capacity.up ≤ 1099511627775
  pub down : capacity.down ≤ 1099511627775
  pub some_rows : 1 ≤ rows
  pub few_rows : rows ≤ 4294967295
  pub some_commands : 1 ≤ commands
  pub few_commands : commands ≤ 1000000

abbrev pub setting_of : ProfileModel → List Offer → Setting
setting_of t offers = record {
  ue = t.ue;
  default_qos = t.default_qos;
  capacity = t.capacity;
  qcis = t.qcis;
  rows = t.rows;
  commands = t.commands;
  catalog = offers;
}
