-- The hints on the faults of a capture, by the octets from the fault on (own choice).
use Rattle.std.specs.Prelude.{ℕ, ◌+◌, ◌*◌, ◌==◌, List, ◌++◌, codes, decimal, slice_index_or, if◌then◌else◌}
use Rattle.pcef_capture_file.specs.declared.fault.CaptureFault.{CaptureFault}
use Rattle.pcef_capture_file.specs.declared.fault.CaptureFault.TheVariants.{TooManyInterfaces}

-- the number in two octets from a place on, the lower one first or last; beyond the end there are zeros
abbrev pub octet_at : List ℕ → ℕ → ℕ
octet_at octets place = slice_index_or octets place 0

abbrev pub little_at : List ℕ → ℕ → ℕ
little_at octets place = octet_at octets place + 256 * octet_at octets (place + 1)

abbrev pub big_at : List ℕ → ℕ → ℕ
big_at octets place = 256 * octet_at octets place + octet_at octets (place + 1)

-- It ends a classic file's header, which begins with 0xD4 or 0x4D where the lower octets stand first,
-- and else with 0xA1. It begins the body of an interface description, whose own type is 1.
abbrev pub link_by : ℕ → List ℕ → ℕ
link_by first octets =
    if first == 212 then little_at octets 20
    else if first == 77 then little_at octets 20
    else if first == 161 then big_at octets 22
    else if first == 1 then little_at octets 8
    else big_at octets 8

abbrev pub hinted_link : List ℕ → ℕ
hinted_link octets = link_by (octet_at octets 0) octets

abbrev pub link_text : List ℕ → List ℕ
link_text octets =
    codes "its number is " ++ (decimal (hinted_link octets) ++ codes ": 0, 1, 12, 14, 101, 108, 113, 228, 229 and 276 are read")

-- two numbers, in the order that an octet gives: 0xD4 or 0x4D where the lower octets stand first
abbrev pub pair_by : ℕ → List ℕ → ℕ → ℕ × ℕ
pair_by order octets place =
    if order == 212 then (little_at octets place, little_at octets (place + 2))
    else if order == 77 then (little_at octets place, little_at octets (place + 2))
    else (big_at octets place, big_at octets (place + 2))

abbrev pub pair_at : List ℕ → ℕ → ℕ → ℕ × ℕ
pair_at octets order place = pair_by (octet_at octets order) octets place

-- The version stands at octet 12 of a section header, which begins with 0x0A, behind the octets of its
-- order. It stands at octet 4 of a classic file's header, whose first octets give the order.
abbrev pub version_of : List ℕ → ℕ × ℕ
version_of octets = if octet_at octets 0 == 10 then pair_at octets 8 12 else pair_at octets 0 4

abbrev pub version_with : ℕ × ℕ → List ℕ → List ℕ
version_with version wanted = codes "its version is " ++ (decimal version.0 ++ (codes "." ++ (decimal version.1 ++ wanted)))

abbrev pub version_text : List ℕ → List ℕ
version_text octets =
    if octet_at octets 0 == 10 then version_with (version_of octets) (codes ": of pcapng 1.0 and 1.2 are read")
    else version_with (version_of octets) (codes ": of libpcap's format 2.4 is read")

-- what to do about a fault that the octets don't explain
abbrev pub advice_on : CaptureFault → List ℕ
advice_on TooManyInterfaces =
    codes "tshark -F pcap -r FILE -w NEW makes a capture of it without interfaces, if all have one link type"
advice_on _ =
    codes "it is cut or damaged there: copy or capture it anew; the lines of the packets before that are written"
