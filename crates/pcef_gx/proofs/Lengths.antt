-- How many octets an AVP takes that is written.
use Rattle.std.proofs.Common.{◌≡◌, ◌≤◌, ◌+◌, ℕ, Bool, true, false, List, ◌++◌, length, Result, Ok, Err, ap, arith}
use Rattle.std.specs.Prelude.{OnOk}
use Rattle.std.specs.declared.alloc.AllocError.{AllocError}
use Rattle.std.proofs.lemmas.List.{length-append}
use Rattle.pcef_diameter.specs.Avps.{header_len}
use Rattle.pcef_diameter.specs.Spellings.{avp_octets, avp_len, vendor_flag}
use Rattle.pcef_diameter.proofs.Again.{avp_octets_len}
use Rattle.pcef_gx.specs.Writing.{avp_of}
use Rattle.pcef_gx.specs.declared.code.Code.{Code}

pub header_most : (has : Bool) → header_len has ≤ 12
header_most true = omega arith
header_most false = omega arith

pub avp_room : (code : Code) (octets : List ℕ) → length (avp_octets (avp_of code octets)) ≤ length octets + 15
unfolding avp_of
avp_room code octets =
    omega (arith, avp_octets_len (avp_of code octets), header_most (vendor_flag (avp_of code octets).vendor))

pub room : (r : Result (Unit {0}) AllocError) (code : Code) (new old octets : List ℕ) → OnOk r (new ≡ old ++ avp_octets (avp_of code octets)) → OnOk r (length new ≤ length old + length octets + 15)
room (Ok u) code new old octets written = omega (arith, ap length written, length-append old (avp_octets (avp_of code octets)), avp_room code octets)
room (Err e) code new old octets written = tt
