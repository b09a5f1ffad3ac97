-- When a rule decides on a packet (TS 23.203, clause 6.2.2).
use Rattle.std.specs.Prelude.{◌≡◌, ◌↔◌, false, None, Contains}
use Rattle.pcef_packet.specs.declared.header.Header.{Header}
use Rattle.pcef_model.specs.ActiveRules.{Active, decisive, fits}
use Rattle.pcef_model.specs.Entries.{Journal}
use Rattle.pcef_model.specs.Journals.{now}
use Rattle.pcef_model.specs.Setting.{Setting}

-- none does exactly where no active rule fits
abbrev pub OneDecidesWhereSomeFit : Type 0
OneDecidesWhereSomeFit = (p : Setting) (j : Journal) (header : Header) →
    (decisive (now p j).rules p.ue header ≡ None) ↔ ((r : Active) → Contains (now p j).rules r → fits p.ue header r ≡ false)
