-- Sieves that get more bits.
use Rattle.std.proofs.Common.{◌≡◌, ◌<◌, ◌⊎◌, ◌∙◌, ℕ, true, Option, Some, None, List, get_or, length, refl, subst, sym, inl, inr}
use Rattle.std.proofs.Math.ListN.{set}
use Rattle.std.specs.Int.{bit_at}
use Rattle.std.specs.Int.Bits.{bit_and, bit_or}
use Rattle.std.proofs.lemmas.Bool.{cases_eq}
use Rattle.std.proofs.lemmas.List.{get_or-set_same, get_or-set_other}
use Rattle.pcef_packet.specs.Addresses.{is_assigned}
use Rattle.pcef_packet.specs.declared.header.Addr.{Addr}
use Rattle.pcef_packet.specs.declared.header.Header.{Header}
use Rattle.pcef_index.specs.declared.addresses.Addresses.{Addresses}
use Rattle.pcef_index.specs.declared.free.Free.{Free}
use Rattle.pcef_index.specs.declared.kinds.Version.{Version}
use Rattle.pcef_index.specs.declared.kinds.Version.TheVariants.{V4, V6}
use Rattle.pcef_index.specs.declared.rows.Rows.{Rows}
use Rattle.pcef_index.specs.declared.sides.Side.TheVariants.{Remote, Local}
use Rattle.pcef_index.specs.declared.sieve.Sieve.{Sieve}
use Rattle.pcef_index.specs.private.Addresses.{LetsAddr, version_in}
use Rattle.pcef_index.specs.private.Blocks.{HasBit}
use Rattle.pcef_index.specs.private.Kinds.{version_of}
use Rattle.pcef_index.specs.private.Rows.{LetsNumber, row_of, step_cell}
use Rattle.pcef_index.specs.private.Sides.{addr_on, port_on, proto_number}
use Rattle.pcef_index.specs.private.Sieves.{LetsHeader, LetsOne, LetsPlace, LetsRemote, LetsRow, LetsSidesAt, looks_at_all}
use Rattle.pcef_index.proofs.Bits.{and_has, full_has, or_adds, or_keeps}

-- no bit of a word is lost
abbrev pub BitsStay : ℕ → ℕ → Type 0
BitsStay old new = (i : ℕ) → bit_at old i ≡ 1 → bit_at new i ≡ 1

-- the bit of no address is lost
pub record AddressesStay (old new : Addresses) : Type 0 where
  pub version : version_in new ≡ version_in old
  pub keeps : (block i : ℕ) (x : Addr) → LetsAddr old block x i → LetsAddr new block x i

-- the bit of no number is lost
abbrev pub RowsStay : Rows → Rows → Type 0
RowsStay old new = (block n i : ℕ) → LetsNumber old block n i → LetsNumber new block n i

pub record FreeStays (old new : Free) : Type 0 where
  pub remote : BitsStay old.remote new.remote
  pub assigned : BitsStay old.assigned new.assigned
  pub local : BitsStay old.local new.local
  pub proto : BitsStay old.proto new.proto
  pub remote_port : BitsStay old.remote_port new.remote_port
  pub local_port : BitsStay old.local_port new.local_port

pub record SieveStays (old new : Sieve) : Type 0 where
  pub remote : AddressesStay old.remote new.remote
  pub local : AddressesStay old.local new.local
  pub proto : RowsStay old.proto new.proto
  pub remote_port : RowsStay old.remote_port new.remote_port
  pub local_port : RowsStay old.local_port new.local_port

pub same_addresses : (a : Addresses) → AddressesStay a a
same_addresses a = record { version = refl; keeps = λ block i x lets. lets }

pub place_stays : (free more : ℕ) (old new : Addresses) (block i : ℕ) (x : Addr) → BitsStay free more → AddressesStay old new → LetsPlace free old block x i → LetsPlace more new block x i
place_stays free more old new block i x bits stay lets is =
    elim (lets (is ∙ stay.version)) [
      | inl here ↦ inl (bits i here)
      | inr there ↦ inr (stay.keeps block i x there)
    ]

pub remote_stays : (free more assigned wider : ℕ) (old new : Addresses) (block i : ℕ) (ue x : Addr) → BitsStay free more → BitsStay assigned wider → AddressesStay old new
    → LetsRemote free assigned old block ue x i → LetsRemote more wider new block ue x i
remote_stays free more assigned wider old new block i ue x bits own stay lets =
    elim lets [
      | inl asks ↦ inl (own i asks.0, asks.1)
      | inr place ↦ inr (place_stays free more old new block i x bits stay place)
    ]

one_stays : (old new : Rows) (block i : ℕ) (n : Option ℕ) → RowsStay old new → LetsOne old block n i → LetsOne new block n i
one_stays old new block i None rows lets = lets
one_stays old new block i (Some n) rows lets = rows block n i lets

pub row_stays : (free more : ℕ) (old new : Rows) (block i : ℕ) (n : Option ℕ) → BitsStay free more → RowsStay old new → LetsRow free old block n i → LetsRow more new block n i
row_stays free more old new block i n bits rows lets =
    elim lets [
      | inl here ↦ inl (bits i here)
      | inr there ↦ inr (one_stays old new block i n rows there)
    ]

pub sides_stay : {old new : Sieve} {free more : Free} → SieveStays old new → FreeStays free more → (block : ℕ) (ue : Addr) (h : Header) (i : ℕ) → LetsSidesAt old free block ue h i → LetsSidesAt new more block ue h i
sides_stay {old} {new} {free} {more} sieve bits block ue h i lets = record {
  remote = remote_stays free.remote more.remote free.assigned more.assigned old.remote new.remote block i ue (addr_on Remote h) bits.remote bits.assigned sieve.remote lets.remote;
  local = place_stays free.local more.local old.local new.local block i (addr_on Local h) bits.local sieve.local lets.local;
  remote_port = row_stays free.remote_port more.remote_port old.remote_port new.remote_port block i (port_on Remote h) bits.remote_port sieve.remote_port lets.remote_port;
  local_port = row_stays free.local_port more.local_port old.local_port new.local_port block i (port_on Local h) bits.local_port sieve.local_port lets.local_port;
}

pub header_stays : {old new : Sieve} {free more : Free} → SieveStays old new → FreeStays free more → (block : ℕ) (ue : Addr) (h : Header) (i : ℕ) → LetsHeader old free block ue h i → LetsHeader new more block ue h i
header_stays {old} {new} {free} {more} sieve bits block ue h i lets = record {
  sides = sides_stay sieve bits block ue h i lets.sides;
  proto = row_stays free.proto more.proto old.proto new.proto block i (Some (proto_number h.proto)) bits.proto sieve.proto lets.proto;
}

pub same_free : (f : Free) → FreeStays f f
same_free f = record { remote = λ i has. has; assigned = λ i has. has; local = λ i has. has; proto = λ i has. has; remote_port = λ i has. has; local_port = λ i has. has }

-- where one block gets more bits no block loses one
pub free_stays : (fs : List Free) (at : ℕ) (more : Free) (b : ℕ) → at < length fs → FreeStays (get_or fs at looks_at_all) more
    → FreeStays (get_or fs b looks_at_all) (get_or (set fs at more) b looks_at_all)
free_stays fs at more b within stays =
    elim (cases_eq b at) [
      | inl same ↦ rw (same, get_or-set_same fs at more looks_at_all within) stays
      | inr other ↦ rw (get_or-set_other fs at b more looks_at_all other) (same_free (get_or fs b looks_at_all))
    ]

cases_version : (v w : Version) → (v ≡ w) ⊎ (v ≡ w → ⊥)
cases_version V4 V4 = inl refl
cases_version V4 V6 = inr (λ same. absurd (cc))
cases_version V6 V4 = inr (λ same. absurd (cc))
cases_version V6 V6 = inl refl

-- the word of an address has the bits of those that it lets
pub place_has : (free word : ℕ) (a : Addresses) (block i : ℕ) (x : Addr) → ((version_of x ≡ version_in a → LetsAddr a block x i) → bit_at word i ≡ 1)
    → LetsPlace free a block x i → bit_at (bit_or free word) i ≡ 1
place_has free word a block i x has lets =
    elim (cases_version (version_of x) (version_in a)) [
      | inl same ↦ elim (lets same) [
        | inl here ↦ or_keeps free word i here
        | inr there ↦ or_adds free word i (has (λ _. there))
      ]
      | inr other ↦ or_adds free word i (has (λ same. absurd (other same)))
    ]

-- and so has that of a remote address, with those that ask for the session's own
pub remote_has : (free assigned word own : ℕ) (a : Addresses) (block i : ℕ) (ue x : Addr) → i < 64 → (is_assigned x ue ≡ true → own ≡ 18446744073709551615)
    → ((version_of x ≡ version_in a → LetsAddr a block x i) → bit_at word i ≡ 1) → LetsRemote free assigned a block ue x i
    → bit_at (bit_or (bit_or free (bit_and assigned own)) word) i ≡ 1
remote_has free assigned word own a block i ue x small is_own has lets =
    let some = bit_and assigned own in
    elim lets [
      | inl asks ↦
          or_keeps (bit_or free some) word i (or_adds free some i (and_has assigned own i asks.0 (rw (is_own asks.1) (full_has i small))))
      | inr place ↦ elim (cases_version (version_of x) (version_in a)) [
        | inl same ↦ elim (place same) [
          | inl here ↦ or_keeps (bit_or free some) word i (or_keeps free some i here)
          | inr there ↦ or_adds (bit_or free some) word i (has (λ _. there))
        ]
        | inr other ↦ or_adds (bit_or free some) word i (has (λ same. absurd (other same)))
      ]
    ]

-- the word of a row has the bits of those that its number is let by
pub number_has : (free word : ℕ) (r : Rows) (block i row : ℕ) (n : Option ℕ) → Some row ≡ row_of r n → ((j : ℕ) → HasBit r.words block row j → bit_at word j ≡ 1)
    → LetsRow free r block n i → bit_at (bit_or free word) i ≡ 1
number_has free word r block i row None is has lets = absurd (cc)
number_has free word r block i row (Some m) is has lets =
    let same : row ≡ step_cell r.steps m = cc in
    elim lets [
      | inl here ↦ or_keeps free word i here
      | inr there ↦ or_adds free word i (has i (subst (λ (k : ℕ). HasBit r.words block k i) (sym same) there))
    ]
