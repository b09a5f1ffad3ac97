-- What is fixed for a session: its profile, its catalog, and the limits of this gateway.
use Rattle.std.specs.Prelude.{ℕ, ◌==◌, Bool, true, false, ◌&&◌, not, List, Option, find}
use Rattle.std.specs.Str.{bytes_eq}
use Rattle.pcef_packet.specs.declared.header.Addr.{Addr}
use Rattle.pcef_rule.specs.declared.qci.Kind.{Kind}
use Rattle.pcef_rule.specs.declared.quantity.Qos.{Qos}
use Rattle.pcef_rule.specs.declared.quantity.Sums.{Sums}
use Rattle.pcef_model.specs.declared.level.Level.{Level}
use Rattle.pcef_model.specs.declared.level.Level.TheVariants.{Rule, Session}
use Rattle.pcef_catalog.specs.declared.listing.Offer.{Offer}

pub record Setting : Type 0 where
  -- the address of the user equipment
  pub ue : Addr
  -- QCI and ARP of the default bearer
  pub default_qos : Qos
  -- what the guaranteed rates of all rules may sum up to, in bit/s
  pub capacity : Sums
  -- the kind that is declared for each QCI
  pub qcis : List (Option Kind)
  -- how many rows, and how many commands other than Close and Terminate, the journal takes
  pub rows : ℕ
  pub commands : ℕ
  -- the predefined rules
  pub catalog : List Offer

-- how many rules and keys there may be (own choice)
abbrev pub most_rules : ℕ
most_rules = 64

abbrev pub most_keys : ℕ
most_keys = 8

-- names are compared by their bytes
abbrev pub same_name : List ℕ → List ℕ → Bool
same_name a b = bytes_eq a b

abbrev pub same_flag : Bool → Bool → Bool
same_flag true b = b
same_flag false b = not b

abbrev pub same_level : Level → Level → Bool
same_level Rule Rule = true
same_level Session Session = true
same_level _ _ = false

-- the same QCI (TS 23.203, clause 6.1.1.4), and the same ARP in all three parts (own choice)
abbrev pub same_qos : Qos → Qos → Bool
same_qos a b =
    (a.qci.0 == b.qci.0) && (a.arp.level == b.arp.level)
    && same_flag a.arp.capability b.arp.capability && same_flag a.arp.vulnerability b.arp.vulnerability

-- the predefined rule of this name
abbrev pub offer_named : Setting → List ℕ → Option Offer
offer_named p name = find (λ o. same_name o.properties.name name) p.catalog
