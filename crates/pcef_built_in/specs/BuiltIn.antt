-- The predefined rules of the program and of the C library (own choice; DNS: RFC 1035, clause 4.2; DSCP 46: RFC 3246).
use Rattle.std.specs.Prelude.{ℕ, List, [], ◌∷◌, codes, Bool, true, false, None, Some}
use Rattle.pcef_catalog.specs.declared.listing.Offer.{Offer}
use Rattle.pcef_catalog.specs.declared.shape.Test.{Test}
use Rattle.pcef_catalog.specs.declared.shape.Test.TheVariants.{Proto, Dscp, RemotePort}
use Rattle.pcef_rule.specs.declared.gate.Gate.TheVariants.{Enabled}
use Rattle.pcef_rule.specs.declared.quantity.Qos.{Qos}
use Rattle.pcef_rule.specs.declared.rule.Properties.{Properties}

abbrev pub qos_of : ℕ → ℕ → Bool → Qos
qos_of qci level vulnerability = record { qci = record { 0 = qci }; arp = record { level = level; capability = false; vulnerability = vulnerability } }

-- DNS over UDP or TCP
abbrev pub dns_shape : List (List Test)
dns_shape = (Proto 17 ∷ RemotePort 53 53 ∷ []) ∷ (Proto 6 ∷ RemotePort 53 53 ∷ []) ∷ []

abbrev pub dns_properties : Properties
dns_properties = record { name = codes "pre-dns"; precedence = 50; qos = qos_of 9 8 true; rates = None; gate = Enabled; key = Some (codes "dns") }

-- expedited forwarding
abbrev pub expedited_shape : List (List Test)
expedited_shape = (Dscp 46 ∷ []) ∷ []

abbrev pub expedited_properties : Properties
expedited_properties = record { name = codes "pre-ef"; precedence = 200; qos = qos_of 5 4 false; rates = None; gate = Enabled; key = None }

-- all packets
abbrev pub remaining_shape : List (List Test)
remaining_shape = [] ∷ []

abbrev pub remaining_properties : Properties
remaining_properties = record { name = codes "pre-rest"; precedence = 4294967295; qos = qos_of 9 8 true; rates = None; gate = Enabled; key = None }

-- the catalog
abbrev pub built_in_offers : List Offer
built_in_offers =
    record { properties = dns_properties; shape = dns_shape } ∷
    record { properties = expedited_properties; shape = expedited_shape } ∷
    record { properties = remaining_properties; shape = remaining_shape } ∷ []
