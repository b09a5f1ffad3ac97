-- Packets of version 4 without options, no fragment but the first, with ports.
use Rattle.std.proofs.Common.{ℕ, ◌≡◌, ◌≤◌, ◌∙◌, ◌-◌, ◌==◌, drop, true, false, List, length, slice_index, Some, Ok, refl, ap, arith}
use Rattle.std.specs.Prelude.{nat_le}
use Rattle.std.specs.List.{slice_range}
use Rattle.std.proofs.lemmas.Bool.Decides.{nat_tests}
use Rattle.std.proofs.lemmas.List.{length-drop, length-take-le}
use Rattle.pcef_packet.specs.declared.header.Dir.{Dir}
use Rattle.pcef_packet.specs.HeaderOf.{carries_ports, fragment_offset_v4, header_len_v4, header_of, header_v4, ports_in, total_len_v4, version}
use Rattle.pcef_front.specs.private.Transports.{header_with_v4, ports_at}
use Rattle.pcef_front.proofs.FrontsV4.{read_fine}

plain_len : (octets : List ℕ) → slice_index octets 0 ≡ 69 → header_len_v4 octets ≡ 20
unfolding header_len_v4
plain_len octets first = rw first refl

plain_ports : (octets payload : List ℕ) → carries_ports (slice_index octets 9) ≡ true → 4 ≤ length payload → ports_in (slice_index octets 9) payload ≡ Some (ports_at payload)
unfolding ports_in
plain_ports octets payload carries long = let enough : nat_le 4 (length payload) ≡ true = grind (arith, nat_tests) in rw (carries, enough) refl

plain_header : (dir : Dir) (octets : List ℕ) → header_len_v4 octets ≡ 20 → 24 ≤ total_len_v4 octets → total_len_v4 octets ≤ length octets → fragment_offset_v4 octets ≡ 0 → carries_ports (slice_index octets 9) ≡ true
    → header_v4 dir octets ≡ header_with_v4 dir octets (Some (ports_at (slice_range octets 20 (total_len_v4 octets))))
unfolding header_v4
plain_header dir octets len long within first carries =
    let payload = slice_range octets 20 (total_len_v4 octets) in
    let behind = length-drop 20 octets in
    let many = length-take-le (total_len_v4 octets - 20) (drop 20 octets) (omega arith) in
    rw (first, len) (ap (header_with_v4 dir octets) (plain_ports octets payload carries (omega arith)))

pub plain_read : (dir : Dir) (octets : List ℕ) → slice_index octets 0 ≡ 69 → 24 ≤ total_len_v4 octets → total_len_v4 octets ≤ length octets → fragment_offset_v4 octets ≡ 0 → carries_ports (slice_index octets 9) ≡ true
    → header_of dir octets ≡ Ok (header_with_v4 dir octets (Some (ports_at (slice_range octets 20 (total_len_v4 octets)))))
plain_read dir octets start long within first carries =
    let len = plain_len octets start in
    let some : (length octets == 0) ≡ false = grind (arith, nat_tests) in
    let four : version octets ≡ 4 = rw start refl in
    let fine = read_fine dir octets (omega arith) (omega arith) within in
    rw (some, four) (fine ∙ ap Ok (plain_header dir octets len long within first carries))
