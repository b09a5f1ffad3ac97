-- How many octets a message takes.
use Rattle.std.proofs.Common.{◌≡◌, ◌≤◌, ◌+◌, ◌++◌, ℕ, List, length, Result, Ok, Err, ap, arith}
use Rattle.std.specs.Prelude.{OnOk}
use Rattle.std.specs.declared.alloc.AllocError.{AllocError}
use Rattle.std.proofs.lemmas.List.{length-append}
use Rattle.pcef_diameter.specs.Spellings.{avp_octets}
use Rattle.pcef_diameter.proofs.Again.{avp_octets_len}
use Rattle.pcef_gx_peer.specs.Exchanges.{product_name_avp}

pub product_name_room : (r : Result (Unit {0}) AllocError) (new old : List ℕ) → OnOk r (new ≡ old ++ avp_octets product_name_avp) → OnOk r (length new ≤ length old + 16)
product_name_room (Ok u) new old written =
    omega (arith, ap length written, length-append old (avp_octets product_name_avp), avp_octets_len product_name_avp)
product_name_room (Err e) new old written = tt
