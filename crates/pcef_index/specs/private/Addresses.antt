-- Which lines let an address of a version pass.
use Rattle.std.specs.Prelude.{ℕ, ◌+◌, ◌*◌, ◌≡◌, ◌≤◌, ◌<◌, length, ⊤}
use Rattle.pcef_packet.specs.declared.header.Addr.{Addr}
use Rattle.pcef_packet.specs.declared.header.Addr.TheVariants as addr
use Rattle.pcef_index.specs.declared.addresses.Addresses.{Addresses}
use Rattle.pcef_index.specs.declared.addresses.Addresses.TheVariants.{Narrow, Wide}
use Rattle.pcef_index.specs.declared.addresses.Sought.{Sought}
use Rattle.pcef_index.specs.declared.addresses.Sought.TheVariants as sought
use Rattle.pcef_index.specs.declared.kinds.Version.{Version}
use Rattle.pcef_index.specs.declared.kinds.Version.TheVariants.{V4, V6}
use Rattle.pcef_index.specs.private.Blocks.{HasWord}
use Rattle.pcef_index.specs.private.Digits.{AreDigits, ArePlaces, LetsDigits, digit_places}
use Rattle.pcef_index.specs.private.Nets.{AreNets, LetsNet, net_row}

-- the version of the lines' addresses
abbrev pub version_in : Addresses → Version
version_in (Narrow digits) = V4
version_in (Wide nets) = V6

-- the words are those of so many blocks
abbrev pub AreAddresses : ℕ → Addresses → Type 0
AreAddresses blocks (Narrow digits) = AreDigits blocks digits
AreAddresses blocks (Wide nets) = AreNets blocks nets

-- line i of a block has its bit at an address of the lines' version
abbrev pub LetsAddr : Addresses → ℕ → Addr → ℕ → Type 0
LetsAddr (Narrow digits) block (addr.V4 n) i = LetsDigits digits block n i
LetsAddr (Narrow digits) block (addr.V6 n) i = ⊥
LetsAddr (Wide nets) block (addr.V4 n) i = ⊥
LetsAddr (Wide nets) block (addr.V6 n) i = LetsNet nets block n i

-- where an address of the lines' version is looked up
abbrev pub sought_of : Addresses → Addr → Sought
sought_of (Narrow digits) (addr.V4 n) = sought.Narrow (digit_places n)
sought_of (Narrow digits) (addr.V6 n) = sought.Other
sought_of (Wide nets) (addr.V4 n) = sought.Other
sought_of (Wide nets) (addr.V6 n) = sought.Wide (net_row nets n)

-- an address is looked up there, or not at all
abbrev pub IsSought : Addresses → Addr → Sought → Type 0
IsSought a x (sought.Narrow places) = sought.Narrow places ≡ sought_of a x
IsSought a x (sought.Wide row) = sought.Wide row ≡ sought_of a x
IsSought a x sought.Other = ⊤

-- there are words of a block for what is looked up, or none at all
abbrev pub HasBlock : Addresses → ℕ → Sought → Type 0
HasBlock (Narrow digits) block (sought.Narrow places) =
    ArePlaces places × (0 < length digits.words.items → 128 * (block + 1) ≤ length digits.words.items)
HasBlock (Narrow digits) block (sought.Wide row) = ⊤
HasBlock (Narrow digits) block sought.Other = ⊤
HasBlock (Wide nets) block (sought.Narrow places) = ⊤
HasBlock (Wide nets) block (sought.Wide row) = HasWord nets.words block row
HasBlock (Wide nets) block sought.Other = ⊤
