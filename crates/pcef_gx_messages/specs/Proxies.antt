-- What goes back of a request in its answer (RFC 6733, clause 6.2).
use Rattle.std.specs.Prelude.{ℕ, ◌≡◌, List, filter, Option}
use Rattle.pcef_diameter.specs.Avps.{Reads, Shown}
use Rattle.pcef_diameter.specs.Spellings.{avps_octets}
use Rattle.pcef_diameter.specs.declared.fault.AvpFault.{AvpFault}
use Rattle.pcef_gx.specs.Codes.{has_code, proxy_info}

-- its Proxy-Infos, in their order (clause 6.7.2)
abbrev pub proxies : List Shown → List Shown
proxies asked = filter (has_code proxy_info) asked

-- These octets go back of a request with those behind its header, which is read up to the first AVP at fault.
pub record GoesBack (octets back : List ℕ) : Type 0 where
  pub asked : List Shown
  pub rest : List ℕ
  pub fault : Option AvpFault
  pub reads : Reads octets asked rest fault
  pub told : back ≡ avps_octets (proxies asked)
