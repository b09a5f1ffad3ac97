-- Sieves: which lines of a list may fit packets of a kind, and that a packet's words have the bits of those that fit.
use Rattle.std.specs.Prelude.{ℕ, ◌+◌, ◌/◌, ◌%◌, ◌^◌, ◌≡◌, ◌<◌, ◌⊎◌, true, List, [], length, Option, Some, None, find, get_or, option_map, IfSome}
use Rattle.std.specs.Int.{bit_at}
use Rattle.pcef_packet.specs.declared.header.Addr.{Addr}
use Rattle.pcef_packet.specs.declared.header.Header.{Header}
use Rattle.pcef_catalog.specs.declared.listing.Offer.{Offer}
use Rattle.pcef_packet.specs.Addresses.{is_assigned}
use Rattle.pcef_index.specs.declared.addresses.Addresses.{Addresses}
use Rattle.pcef_index.specs.declared.free.Free.{Free}
use Rattle.pcef_index.specs.declared.kinds.Kind.{Kind}
use Rattle.pcef_index.specs.declared.lines.Line.{Line}
use Rattle.pcef_index.specs.declared.rows.Rows.{Rows}
use Rattle.pcef_index.specs.declared.sides.Side.{Side}
use Rattle.pcef_index.specs.declared.sides.Side.TheVariants.{Remote, Local}
use Rattle.std.specs.Global.{Box}
use Rattle.pcef_index.specs.declared.sieve.Sieve.{Sieve}
use Rattle.pcef_index.specs.declared.sieving.Numbers.{Numbers}
use Rattle.pcef_index.specs.declared.sieving.Probe.{Probe}
use Rattle.pcef_index.specs.private.Addresses.{AreAddresses, HasBlock, IsSought, LetsAddr, version_in}
use Rattle.pcef_index.specs.private.Blocks.{HasWord}
use Rattle.pcef_index.specs.private.Kinds.{kind_of, version_of}
use Rattle.pcef_index.specs.private.Lines.{line_fits, standing_fits}
use Rattle.pcef_index.specs.private.Rows.{AreRows, LetsNumber, row_of}
use Rattle.pcef_index.specs.private.Runs.{AreRuns}
use Rattle.pcef_index.specs.private.Sides.{addr_on, port_on, proto_number}
use Rattle.pcef_index.specs.private.Words.{first_of, fits_at, passes_at}

-- among the lines with these numbers is the first that fits a packet of a kind, wherever the rules stand
abbrev pub KeepsFirst : List Line → List ℕ → Kind → Type 0
KeepsFirst lines numbers kind =
    (places : List (Option ℕ)) (offers : List Offer) (ue : Addr) (h : Header) → kind_of h ≡ kind
    → first_of (standing_fits places offers ue h) lines numbers
    ≡ option_map (λ (l : Line). l.place) (find (standing_fits places offers ue h) lines)

-- line i of a block lets all addresses pass, or has its bit at one of the lines' version
abbrev pub LetsPlace : ℕ → Addresses → ℕ → Addr → ℕ → Type 0
LetsPlace free a block x i = version_of x ≡ version_in a → (bit_at free i ≡ 1) ⊎ LetsAddr a block x i

-- that, or it asks for the session's own address, which this one is
abbrev pub LetsRemote : ℕ → ℕ → Addresses → ℕ → Addr → Addr → ℕ → Type 0
LetsRemote free assigned a block ue x i = ((bit_at assigned i ≡ 1) × (is_assigned x ue ≡ true)) ⊎ LetsPlace free a block x i

abbrev pub LetsOne : Rows → ℕ → Option ℕ → ℕ → Type 0
LetsOne r block None i = ⊥
LetsOne r block (Some n) i = LetsNumber r block n i

-- line i of a block doesn't look at a number, or has its bit at the row of one that is there
abbrev pub LetsRow : ℕ → Rows → ℕ → Option ℕ → ℕ → Type 0
LetsRow free r block n i = (bit_at free i ≡ 1) ⊎ LetsOne r block n i

abbrev pub looks_at_all : Free
looks_at_all = record { remote = 0; assigned = 0; local = 0; proto = 0; remote_port = 0; local_port = 0 }

-- which lines of a block let a field pass whatever it is
abbrev pub free_at : Sieve → ℕ → Free
free_at s block = get_or s.free.items block looks_at_all

-- line i of a block has its bit in each word of the sides of a session's packet
pub record LetsSidesAt (s : Sieve) (free : Free) (block : ℕ) (ue : Addr) (h : Header) (i : ℕ) : Type 0 where
  pub remote : LetsRemote free.remote free.assigned s.remote block ue (addr_on Remote h) i
  pub local : LetsPlace free.local s.local block (addr_on Local h) i
  pub remote_port : LetsRow free.remote_port s.remote_port block (port_on Remote h) i
  pub local_port : LetsRow free.local_port s.local_port block (port_on Local h) i

abbrev pub LetsSides : Sieve → ℕ → Addr → Header → ℕ → Type 0
LetsSides s block ue h i = LetsSidesAt s (free_at s block) block ue h i

abbrev pub LetsProto : Sieve → ℕ → Header → ℕ → Type 0
LetsProto s block h i = LetsRow (free_at s block).proto s.proto block (Some (proto_number h.proto)) i

-- line i of a block has its bit in each word of a session's packet
pub record LetsHeader (s : Sieve) (free : Free) (block : ℕ) (ue : Addr) (h : Header) (i : ℕ) : Type 0 where
  pub sides : LetsSidesAt s free block ue h i
  pub proto : LetsRow free.proto s.proto block (Some (proto_number h.proto)) i

abbrev pub Lets : Sieve → ℕ → Addr → Header → ℕ → Type 0
Lets s block ue h i = LetsHeader s (free_at s block) block ue h i

-- the words are those of so many blocks
pub record IsShaped (blocks : ℕ) (s : Sieve) : Type 0 where
  pub free : length s.free.items ≡ blocks
  pub remote : AreAddresses blocks s.remote
  pub local : AreAddresses blocks s.local
  pub proto : AreRows blocks s.proto
  pub remote_port : AreRows blocks s.remote_port
  pub local_port : AreRows blocks s.local_port

-- the numbers of a header are within their types
pub record IsRanged (h : Header) : Type 0 where
  pub proto : proto_number h.proto < 2 ^ 16
  pub ports : (side : Side) → IfSome (port_on side h) (λ n. n < 2 ^ 16)

-- of the lines up to a number of them, those that fit a packet have their bits in its words
abbrev pub LetsTo : ℕ → List Line → Sieve → Type 0
LetsTo count lines s =
    (j : ℕ) (offers : List Offer) (ue : Addr) (h : Header) → j < count → IsRanged h
    → passes_at (fits_at (line_fits offers ue h) lines) s.numbers.items j ≡ true → Lets s (j / 64) ue h (j % 64)

-- the words have the bits of all lines that fit a packet
pub record IsSieve (lines : List Line) (s : Sieve) : Type 0 where
  pub shaped : IsShaped ((length s.numbers.items + 63) / 64) s
  pub lets : LetsTo (length s.numbers.items) lines s
  pub runs : AreRuns lines s.numbers.items s.runs

-- the sieve of a kind, or none where no line may fit
abbrev pub Serves : List Line → Kind → Option (Box Sieve) → Type 0
Serves lines kind None = KeepsFirst lines [] kind
Serves lines kind (Some s) = IsSieve lines s.value × KeepsFirst lines s.value.numbers.items kind

-- the numbers of a header, which are within their types
pub record AreNumbers (h : Header) (n : Numbers) : Type 0 where
  pub ranged : IsRanged h
  pub proto : n.proto ≡ proto_number h.proto
  pub remote_port : n.remote_port ≡ port_on Remote h
  pub local_port : n.local_port ≡ port_on Local h

-- what a sieve looks up of a session's packet
pub record IsProbe (s : Sieve) (ue : Addr) (h : Header) (p : Probe) : Type 0 where
  pub ranged : IsRanged h
  pub remote : IsSought s.remote (addr_on Remote h) p.remote
  pub assigned : is_assigned (addr_on Remote h) ue ≡ true → p.assigned ≡ 18446744073709551615
  pub local : IsSought s.local (addr_on Local h) p.local
  pub proto : p.proto ≡ row_of s.proto (Some (proto_number h.proto))
  pub remote_port : p.remote_port ≡ row_of s.remote_port (port_on Remote h)
  pub local_port : p.local_port ≡ row_of s.local_port (port_on Local h)

-- there are words of a block for what is looked up
pub record HasWords (s : Sieve) (block : ℕ) (p : Probe) : Type 0 where
  pub remote : HasBlock s.remote block p.remote
  pub local : HasBlock s.local block p.local
  pub proto : IfSome p.proto (HasWord s.proto.words block)
  pub remote_port : IfSome p.remote_port (HasWord s.remote_port.words block)
  pub local_port : IfSome p.local_port (HasWord s.local_port.words block)

-- the rows of numbers are among those of their fields
pub record AreWithin (s : Sieve) (p : Probe) : Type 0 where
  pub proto : IfSome p.proto (λ k. k < length s.proto.steps.ports.items + 1)
  pub remote_port : IfSome p.remote_port (λ k. k < length s.remote_port.steps.ports.items + 1)
  pub local_port : IfSome p.local_port (λ k. k < length s.local_port.steps.ports.items + 1)
