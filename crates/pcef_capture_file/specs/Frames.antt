-- Where the packet stands in a frame.
use Rattle.std.specs.Prelude.{ℕ, ◌+◌, ◌==◌, ◌&&◌, ◌||◌, nat_le, Bool, List, length, drop, Option, Some, None, if◌then◌else◌}
use Rattle.pcef_capture_file.specs.Numbers.{number_by}
use Rattle.pcef_capture_file.specs.declared.endianness.Endianness.{Endianness}
use Rattle.pcef_capture_file.specs.declared.endianness.Endianness.TheVariants.{Big}
use Rattle.pcef_capture_file.specs.declared.link.Link.{Link}
use Rattle.pcef_capture_file.specs.declared.link.Link.TheVariants.{Null, Ethernet, Raw, Loop, LinuxCooked, LinuxCooked2}

-- a number of two octets stands at a place
unfoldable pub is_type_at : List ℕ → ℕ → ℕ → Bool
is_type_at octets place n = nat_le (place + 2) (length octets) && (number_by Big octets place 2 == n)

-- a VLAN tag begins there: 0x8100 for customers, 0x88A8 for providers (IEEE 802.1Q, clause 9.5), 0x9100 of old
unfoldable pub is_tag_at : List ℕ → ℕ → Bool
is_tag_at octets place = is_type_at octets place 33024 || (is_type_at octets place 34984 || is_type_at octets place 37120)

-- what stands from a place on
unfoldable pub behind : List ℕ → ℕ → Option (List ℕ)
behind octets place = if nat_le place (length octets) then Some (drop place octets) else None

-- the place behind a tag, which has four octets, if one begins there
unfoldable pub past_tag : List ℕ → ℕ → ℕ
past_tag octets place = if is_tag_at octets place then place + 4 else place

-- the type of IPv4, 0x0800 (RFC 894), or of IPv6, 0x86DD (RFC 2464, clause 3), stands at a place
unfoldable pub is_ip_at : List ℕ → ℕ → Bool
is_ip_at octets place = is_type_at octets place 2048 || is_type_at octets place 34525

-- a packet behind its type, before which at most two tags stand
unfoldable pub behind_type : List ℕ → ℕ → Option (List ℕ)
behind_type octets place =
    if is_ip_at octets (past_tag octets (past_tag octets place))
    then behind octets (past_tag octets (past_tag octets place) + 2)
    else None

-- The protocol family of IPv4 is 2 on every system. That of IPv6 is 24 on NetBSD and OpenBSD, 28 on FreeBSD, 30 on
-- Darwin (the page of link type 0 in the registry of the tcpdump group); a file doesn't name the system.
unfoldable pub is_ip_family : ℕ → Bool
is_ip_family family = (family == 2) || ((family == 24) || ((family == 28) || (family == 30)))

-- a packet behind its protocol family
unfoldable pub behind_family : Endianness → List ℕ → Option (List ℕ)
behind_family e octets = if nat_le 4 (length octets) && is_ip_family (number_by e octets 0 4) then behind octets 4 else None

-- The type stands behind two addresses of six octets in Ethernet, at octets 14 and 15 of the first cooked
-- header, and in front of the second one, which has 20 octets (the pages of link types 1, 113 and 276 there).
unfoldable pub ip_in : Link → Endianness → List ℕ → Option (List ℕ)
ip_in Ethernet e octets = behind_type octets 12
ip_in Raw e octets = Some octets
ip_in Null e octets = behind_family e octets
ip_in Loop e octets = behind_family Big octets
ip_in LinuxCooked e octets = behind_type octets 14
ip_in LinuxCooked2 e octets = if is_ip_at octets 0 then behind octets 20 else None
