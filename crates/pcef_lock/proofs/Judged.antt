-- Items as the tables judge them that were seen.
use Rattle.std.proofs.Common.{◌≡◌, ◌≤◌, ◌+◌, ◌-◌, ℕ, List, All, subst, arith}
use Rattle.std.proofs.lemmas.List.Elements.{All-weaker}
use mathlib.Core.List.{IsPrefix}
use Rattle.pcef_packet.specs.declared.header.Addr.{Addr}
use Rattle.pcef_catalog.specs.declared.listing.Offer.{Offer}
use Rattle.pcef_table.specs.Tables.{TableValue}
use Rattle.pcef_publish.proofs.Runs.{prefix_get}
use Rattle.pcef_model.specs.Setting.{Setting}
use Rattle.pcef_model.specs.Generations.{oldest}
use Rattle.pcef_model.specs.Entries.{Journal}
use Rattle.pcef_model.specs.Journals.{at, gen, verdict_at, tables}
use Rattle.pcef_session.specs.declared.batch.Item.{Item}
use Rattle.pcef_model.specs.Slots.{CountsFor}
use Rattle.pcef_session.specs.Following.{HasItsSlots}
use Rattle.pcef_session.specs.Shown.{Shows}
use Rattle.pcef_session.proofs.ShownSlots.{shown_slots_of}
use Rattle.pcef_model.proofs.Decisive.{made_once}
use Rattle.pcef_session.proofs.ShownVerdicts.{shown_judges}
use Rattle.pcef_lock.specs.Judging.{AllJudged, IsJudgedBySeen}
use Rattle.pcef_lock.specs.Published.{ArePublished}
use Rattle.pcef_lock.proofs.Places.{get_within}

-- ---- as more tables are seen
pub judged_later : (offers : List Offer) (ue : Addr) (first : ℕ) (seen more : List TableValue) (i : Item) → IsPrefix seen more → IsJudgedBySeen offers ue first seen i → IsJudgedBySeen offers ue first more i
judged_later offers ue first seen more i begins is = record {
  table = is.table;
  there = (is.there.0, prefix_get seen more (i.row.generation - first) is.table begins is.there.1);
  verdict_is = is.verdict_is;
  slots_are = is.slots_are;
}

pub all_judged_later : (p : Setting) (first : ℕ) (seen more : List TableValue) (items : List Item) → IsPrefix seen more → AllJudged p first seen items → AllJudged p first more items
all_judged_later p first seen more items begins all =
    All-weaker (IsJudgedBySeen p.catalog p.ue first seen) (IsJudgedBySeen p.catalog p.ue first more) (λ i is. judged_later p.catalog p.ue first seen more i begins is) items all

-- ---- where the published tables are those of their generations
pub record IsRight (p : Setting) (j : Journal) (i : Item) : Type 0 where
  pub known : i.row.generation ≤ gen j
  pub verdict : i.row.verdict ≡ verdict_at p (at p j i.row.generation) i.row.header
  pub counts_for : CountsFor p j i.row i.slots.items

right_one : (p : Setting) (j : Journal) (first : ℕ) (ts : List TableValue) (i : Item) → ArePublished p j first ts → IsJudgedBySeen p.catalog p.ue first ts i → IsRight p j i
right_one p j first ts i published made =
    let g : ℕ = i.row.generation in
    let t : TableValue = made.table in
    let inside = get_within ts (g - first) t made.there.1 in
    let same : first + (g - first) ≡ g = omega (arith, made.there.0) in
    let shows : Shows p j g t = subst (λ n. Shows p j n t) same (published.shown (g - first) t made.there.1) in
    let once = made_once p (oldest g (tables j)) in
    let verdict : i.row.verdict ≡ verdict_at p (at p j g) i.row.header = shown_judges p j g t i.row.header i.row.verdict shows once made.verdict_is in
    record {
      known = omega (arith, inside, published.through, made.there.0);
      verdict = verdict;
      counts_for = rw made.slots_are (shown_slots_of p j g t i.row.header i.row.verdict shows once verdict);
    }

pub all_right : (p : Setting) (j : Journal) (first : ℕ) (ts seen : List TableValue) (items : List Item) → ArePublished p j first ts → IsPrefix seen ts → AllJudged p first seen items → All (IsRight p j) items
all_right p j first ts seen items published begins all =
    All-weaker (IsJudgedBySeen p.catalog p.ue first ts) (IsRight p j) (λ i is. right_one p j first ts i published is) items (all_judged_later p first seen ts items begins all)

pub right_slots : (p : Setting) (j : Journal) (items : List Item) → All (IsRight p j) items → HasItsSlots p j items
right_slots p j items all =
    All-weaker (IsRight p j) (λ (i : Item). CountsFor p j i.row i.slots.items) (λ i is. is.counts_for) items all
