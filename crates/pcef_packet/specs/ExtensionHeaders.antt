-- The extension headers of a version 6 packet (RFC 8200, clause 4): headers that stand between the fixed
-- header and what the packet carries, each of which names the kind of the next.
use Rattle.std.specs.Prelude.{ℕ, ◌+◌, ◌*◌, ◌/◌, ◌==◌, ◌≡◌, ◌<◌, Bool, true, false, ◌&&◌, ◌||◌, not, List, [], ◌∷◌, ◌++◌, length, drop, slice_index, if◌then◌else◌}
use Rattle.byteorder.specs.Endian.{big_number}

-- Hop-by-Hop Options, Routing and Destination Options (clauses 4.3, 4.4 and 4.6) state their own length;
-- Fragment (clause 4.5) has 8 octets
abbrev pub states_length : ℕ → Bool
states_length kind = (kind == 0) || ((kind == 43) || (kind == 60))

abbrev pub is_fragment : ℕ → Bool
is_fragment kind = kind == 44

abbrev pub is_extension : ℕ → Bool
is_extension kind = is_fragment kind || states_length kind

-- how many octets a header of this kind has, by its first octets; Hdr Ext Len is octet 1, in units of 8
-- octets beyond the first 8
unfoldable pub extension_len : ℕ → List ℕ → ℕ
extension_len kind octets = if is_fragment kind then 8 else 8 + 8 * slice_index octets 1

-- Next Header is octet 0: the kind of what follows
abbrev pub next_of : List ℕ → ℕ
next_of octets = slice_index octets 0

-- Fragment Offset is the upper 13 bits of octets 2 and 3. Behind one that isn't 0 stands no beginning of
-- anything (clause 4.5)
unfoldable pub is_later : ℕ → List ℕ → Bool
is_later kind octets = is_fragment kind && not ((big_number 2 (drop 2 octets) / 8) == 0)

-- one extension header
pub record Extension : Type 0 where
  pub kind : ℕ
  pub octets : List ℕ

-- the octets of headers, one after the other
abbrev pub joined : List Extension → List ℕ
joined [] = []
joined (h ∷ hs) = h.octets ++ joined hs

-- a header of a kind that may stand there, with all its octets
pub record IsWhole (h : Extension) : Type 0 where
  pub extends : is_extension h.kind ≡ true
  pub long : length h.octets ≡ extension_len h.kind h.octets

-- whole headers from one of this kind on, each of the kind that the one before names, and none behind a
-- later fragment's; the kind that the last one names, and whether it is a later fragment's
abbrev pub IsChain : ℕ → Bool → List Extension → ℕ → Bool → Type 0
IsChain kind later [] last last_later = (kind ≡ last) × (later ≡ last_later)
IsChain kind later (h ∷ hs) last last_later =
    (later ≡ false) × (h.kind ≡ kind) × IsWhole h × IsChain (next_of h.octets) (is_later h.kind h.octets) hs last last_later

-- what a packet carries behind its headers: the protocol, its octets within the volume, and whether they
-- are its beginning
pub record Carried : Type 0 where
  pub proto : ℕ
  pub payload : List ℕ
  pub begins : Bool

-- octets are headers in turn from one of this kind on, and what is carried; a chain goes on as long as it
-- names extension headers, but for a later fragment's
pub record IsCarried (kind : ℕ) (octets : List ℕ) (carried : Carried) : Type 0 where
  pub headers : List Extension
  pub later : Bool
  pub parts : octets ≡ joined headers ++ carried.payload
  pub chain : IsChain kind false headers carried.proto later
  pub ended : (later || not (is_extension carried.proto)) ≡ true
  pub begins_is : carried.begins ≡ not later

-- the octets end within the header to which a chain leads
pub record IsCut (kind : ℕ) (octets : List ℕ) : Type 0 where
  pub headers : List Extension
  pub last : ℕ
  pub rest : List ℕ
  pub parts : octets ≡ joined headers ++ rest
  pub chain : IsChain kind false headers last false
  pub extends : is_extension last ≡ true
  pub short : length rest < extension_len last rest
