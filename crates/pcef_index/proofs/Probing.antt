-- What is looked up of a packet has words in each block.
use Rattle.std.proofs.Common.{◌≡◌, ◌<◌, ◌+◌, ◌*◌, ◌/◌, ◌%◌, ℕ, true, List, Option, Some, None, length, sym, subst, arith, inl, inr}
use Rattle.std.specs.Prelude.{IfSome}
use Rattle.std.proofs.lemmas.Bool.{cases_lt}
use Rattle.pcef_base.proofs.Tests.{contrary}
use Rattle.pcef_catalog.specs.declared.listing.Offer.{Offer}
use Rattle.pcef_packet.specs.declared.header.Addr.{Addr}
use Rattle.pcef_packet.specs.declared.header.Addr.TheVariants.{V4, V6}
use Rattle.pcef_packet.specs.declared.header.Header.{Header}
use Rattle.pcef_index.specs.declared.addresses.Addresses.{Addresses}
use Rattle.pcef_index.specs.declared.addresses.Addresses.TheVariants.{Narrow, Wide}
use Rattle.pcef_index.specs.declared.addresses.Sought.{Sought}
use Rattle.pcef_index.specs.declared.addresses.Sought.TheVariants as sought
use Rattle.pcef_index.specs.declared.lines.Line.{Line}
use Rattle.pcef_index.specs.declared.rows.Rows.{Rows}
use Rattle.pcef_index.specs.declared.sides.Side.TheVariants.{Remote, Local}
use Rattle.pcef_index.specs.declared.sieve.Sieve.{Sieve}
use Rattle.pcef_index.specs.declared.sieving.Probe.{Probe}
use Rattle.pcef_index.specs.private.Addresses.{AreAddresses, HasBlock, IsSought, sought_of}
use Rattle.pcef_index.specs.private.Blocks.{HasWord}
use Rattle.pcef_index.specs.private.Lines.{line_fits}
use Rattle.pcef_index.specs.private.Nets.{net_row}
use Rattle.pcef_index.specs.private.Rows.{AreRows}
use Rattle.pcef_index.specs.private.Sides.{addr_on}
use Rattle.pcef_index.specs.private.Sieves.{AreWithin, HasWords, IsProbe, IsRanged, IsShaped, Lets, LetsTo}
use Rattle.pcef_index.specs.private.Words.{fits_at, passes_at}
use Rattle.pcef_index.proofs.BlockLaws.{has_word}
use Rattle.pcef_index.proofs.DigitLaws.{are_places}
use Rattle.pcef_index.proofs.Bounding.{bound_within}
use Rattle.pcef_index.proofs.Searching.{past_fails}

has_block : (blocks block : ℕ) (a : Addresses) (x : Addr) → AreAddresses blocks a → block < blocks → HasBlock a block (sought_of a x)
has_block blocks block (Narrow digits) (V4 n) are less = (are_places n, λ some. (let long = are some in omega (arith, long, less)))
has_block blocks block (Narrow digits) (V6 n) are less = tt
has_block blocks block (Wide nets) (V4 n) are less = tt
has_block blocks block (Wide nets) (V6 n) are less =
    let rows = are.rows in
    let within = bound_within nets.bounds.ends.items n in
    has_word nets.words blocks block (net_row nets n) are.words less (omega (arith, rows, within))

sought_block : (blocks block : ℕ) (a : Addresses) (x : Addr) (s : Sought) → AreAddresses blocks a → block < blocks → IsSought a x s → HasBlock a block s
sought_block blocks block a x (sought.Narrow places) are less is = subst (λ (s : Sought). HasBlock a block s) (sym is) (has_block blocks block a x are less)
sought_block blocks block a x (sought.Wide row) are less is = subst (λ (s : Sought). HasBlock a block s) (sym is) (has_block blocks block a x are less)
sought_block blocks block (Narrow digits) x sought.Other are less is = tt
sought_block blocks block (Wide nets) x sought.Other are less is = tt

has_row : (blocks block : ℕ) (r : Rows) (row : Option ℕ) → AreRows blocks r → block < blocks → IfSome row (λ k. k < length r.steps.ports.items + 1) → IfSome row (HasWord r.words block)
has_row blocks block r None are less within = tt
has_row blocks block r (Some k) are less within =
    let rows = are.rows in
    has_word r.words blocks block k are.words less (omega (arith, rows, within))

pub has_words : (s : Sieve) (ue : Addr) (h : Header) (p : Probe) (blocks block : ℕ) → IsShaped blocks s → block < blocks → IsProbe s ue h p → AreWithin s p → HasWords s block p
has_words s ue h p blocks block shaped less is within = record {
  remote = sought_block blocks block s.remote (addr_on Remote h) p.remote shaped.remote less is.remote;
  local = sought_block blocks block s.local (addr_on Local h) p.local shaped.local less is.local;
  proto = has_row blocks block s.proto p.proto shaped.proto less within.proto;
  remote_port = has_row blocks block s.remote_port p.remote_port shaped.remote_port less within.remote_port;
  local_port = has_row blocks block s.local_port p.local_port shaped.local_port less within.local_port;
}

-- a line of a block that fits a packet has its bits there
pub lets_at : (s : Sieve) (lines : List Line) (offers : List Offer) (ue : Addr) (h : Header) (block i : ℕ) → LetsTo (length s.numbers.items) lines s → IsRanged h → i < 64
    → passes_at (fits_at (line_fits offers ue h) lines) s.numbers.items (block * 64 + i) ≡ true → Lets s block ue h i
lets_at s lines offers ue h block i lets ranged small passes =
    let place : ℕ = block * 64 + i in
    let test = fits_at (line_fits offers ue h) lines in
    let quotient : place / 64 ≡ block = omega (arith, small) in
    let rest : place % 64 ≡ i = omega (arith, small) in
    elim (cases_lt place (length s.numbers.items)) [
      | inl there ↦ subst (λ (b : ℕ). Lets s b ue h i) quotient (subst (λ (j : ℕ). Lets s (place / 64) ue h j) rest (lets place offers ue h there ranged passes))
      | inr past ↦ contrary (passes_at test s.numbers.items place) passes (past_fails test s.numbers.items place past)
    ]
