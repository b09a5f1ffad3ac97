use Rattle.std.proofs.Common.{◌≡◌, ◌∙◌, ◌<◌, ◌^◌, ℕ, List, length, sym, ap, subst, arith}
use Rattle.std.specs.Prelude.{slice_index}
use Rattle.pcef_session.specs.declared.batch.Item.{Item}
use Rattle.pcef_share.specs.Amounts.{Account}
use Rattle.pcef_model.specs.Slots.{AreSlotsBelow}
use Rattle.pcef_handover.proofs.Slots.{item_length, item_row, item_within}
use Rattle.pcef_handover.proofs.Loops.{account_is, counted_end, counted_step}
use Rattle.pcef_handover.proofs.counting.count_items.Goals as goal

pub loop-item-preserved : goal.loop-item-preserved
loop-item-preserved g c =
    let i : Item = c.item-item.result in
    let low : AreSlotsBelow 8 i.slots.items = subst (λ (x : Item). AreSlotsBelow 8 x.slots.items) (sym c.item-item.is) (c.requires.low c.loop-item.item-index i c.loop-item-test.true) in
    let small : i.row.header.octets < 2 ^ 32 = subst (λ (x : Item). x.row.header.octets < 2 ^ 32) (sym c.item-item.is) (c.requires.octets c.loop-item.item-index i c.loop-item-test.true) in
    let t : List ℕ = c.loop-item.books.totals in
    let ten : length t ≡ 10 = c.loop-item.invariant.ten in
    record {
      totals = counted_step c.args.items.now c.loop-item.item-index i t _ _ c.loop-item-test.true c.item-item.is (ap (λ (b : Account). b.totals) c.count_item.ensures.books) c.loop-item.invariant.totals;
      issued = ap (λ (b : Account). b.issued) c.count_item.ensures.books ∙ c.loop-item.invariant.issued;
      shares = counted_step c.args.items.now c.loop-item.item-index i _ _ _ c.loop-item-test.true c.item-item.is c.count_item.ensures.shares c.loop-item.invariant.shares;
      ten = ap (λ (b : Account). length b.totals) c.count_item.ensures.books ∙ item_length t i ∙ ten;
      fits = λ n below. omega (arith, ap (λ (b : Account). slice_index b.totals n) c.count_item.ensures.books, item_within t i n low below ten small, c.loop-item.invariant.fits n below);
      rows = omega (arith, ap (λ (b : Account). slice_index b.totals 8) c.count_item.ensures.books, item_row t i low ten, c.loop-item.invariant.rows);
    }

pub returns-clause-books : goal.returns-clause-books
returns-clause-books g c =
    account_is c.loop-item.books _ _ (counted_end c.args.items.now c.loop-item.item-index c.loop-item.books.totals _ c.loop-item-test.false c.loop-item.invariant.totals) c.loop-item.invariant.issued

pub returns-clause-shares : goal.returns-clause-shares
returns-clause-shares g c = counted_end c.args.items.now c.loop-item.item-index _ _ c.loop-item-test.false c.loop-item.invariant.shares
