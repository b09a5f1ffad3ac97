use Rattle.std.proofs.Common.{rules, ◌≡◌, ◌∙◌, ◌≤◌, List, All, ap, arith, length, map, subst, sym, true}
use Rattle.pcef_model.specs.Outcomes.{flush_answer_of}
use Rattle.pcef_model.specs.Journals.{slots, tables}
use Rattle.pcef_model.proofs.JournalExtends.{flushed_not, flushed_once, tables_after_flush}
use Rattle.pcef_session.specs.declared.batch.Item.{Item}
use Rattle.pcef_session.specs.Following.{HasSmallRows, row_of}
use Rattle.pcef_model.specs.Slots.{AreSlotsBelow}
use Rattle.pcef_handover.specs.Counting.{with_items}
use Rattle.pcef_handover.specs.Lanes.{continues_lane}
use Rattle.pcef_lock.proofs.Handing.{all_low, handed_well, octets_fit, sound_taken}
use Rattle.pcef_lock.proofs.Keeps.{sound_same}
use Rattle.pcef_lock.proofs.FlushAnswers.{flush_answered}
use Rattle.pcef_lock.proofs.PoolShares.{due_kept, due_same}
use Rattle.pcef_lock.proofs.state.State.flush.Goals as goal

pub flush-requires-clause-follow : goal.flush-requires-clause-follow
flush-requires-clause-follow g c =
    let goes_on : continues_lane c.self.inside.session.session.journal c.args.seat.now.worker c.args.batch.now ≡ true = search rules in
    let well = handed_well g.N.Naming.setting g.N.Naming.first c.self.inside.session.session c.self.inside.publisher c.args.seat.now.subscriber c.self.inside.books c.self.inside.places (length c.self.inside.subscribers.items)
    c.args.seat.now.worker c.args.batch.now c.self.invariant.0 goes_on c.compare.ensures.begins c.requires in
    well.follows

pub flush-requires-clause-slots : goal.flush-requires-clause-slots
flush-requires-clause-slots g c =
    let goes_on : continues_lane c.self.inside.session.session.journal c.args.seat.now.worker c.args.batch.now ≡ true = search rules in
    let well = handed_well g.N.Naming.setting g.N.Naming.first c.self.inside.session.session c.self.inside.publisher c.args.seat.now.subscriber c.self.inside.books c.self.inside.places (length c.self.inside.subscribers.items)
    c.args.seat.now.worker c.args.batch.now c.self.invariant.0 goes_on c.compare.ensures.begins c.requires in
    well.has

pub invariant_of-self-in-Err : goal.invariant_of-self-in-Err
invariant_of-self-in-Err g c = (
  rw c.compare.ensures.publisher
      (sound_same g.N.Naming.setting g.N.Naming.first c.self.inside.session.session c.flush.new.self.session c.self.inside.publisher c.self.inside.books c.self.inside.places (length c.self.inside.subscribers.items)
      c.flush.ensures.setting (flushed_not c.self.inside.session.session.setting c.args.seat.now.worker (map row_of c.args.batch.now) c.self.inside.session.session.journal c.flush.new.self.session.journal c.in-Err.refusal c.in-Err.ensures.answer) c.self.invariant.0),
  due_kept g.P.Pooling.is_there c.self.inside.session.session.setting c.flush.new.self.session.setting c.self.inside.session.session.journal c.flush.new.self.session.journal c.self.inside.rates c.flush.ensures.setting
      (flushed_not c.self.inside.session.session.setting c.args.seat.now.worker (map row_of c.args.batch.now) c.self.inside.session.session.journal c.flush.new.self.session.journal c.in-Err.refusal c.in-Err.ensures.answer) c.self.invariant.1,
)

pub count_items-requires-clause-low : goal.count_items-requires-clause-low
count_items-requires-clause-low g c =
    let goes_on : continues_lane c.self.inside.session.session.journal c.args.seat.now.worker c.args.batch.now ≡ true = search rules in
    let well = handed_well g.N.Naming.setting g.N.Naming.first c.self.inside.session.session c.self.inside.publisher c.args.seat.now.subscriber c.self.inside.books c.self.inside.places (length c.self.inside.subscribers.items)
    c.args.seat.now.worker c.args.batch.now c.self.invariant.0 goes_on c.compare.ensures.begins c.requires in
    let few : length (slots c.self.inside.session.session.setting c.self.inside.session.session.journal) ≤ 8 = c.in-Ok.ensures.few_keys in
    subst (λ (xs : List Item). All (λ (i : Item). AreSlotsBelow 8 i.slots.items) xs) (sym c.items.ensures.items) (all_low c.self.inside.session.session.setting c.self.inside.session.session.journal c.args.batch.now few well.has)

pub count_items-requires-clause-fits : goal.count_items-requires-clause-fits
count_items-requires-clause-fits g c = λ n low.
    let once = flushed_once c.self.inside.session.session.setting c.args.seat.now.worker (map row_of c.args.batch.now) c.self.inside.session.session.journal c.flush.new.self.session.journal (flush_answer_of c.in-Ok.verdicts) c.in-Ok.ensures.answer in
    let same : length c.items.result.now ≡ length c.args.batch.now = ap length c.items.ensures.items in
    let fits = octets_fit g.N.Naming.setting g.N.Naming.first c.self.inside.session.session c.self.inside.publisher c.self.inside.books c.self.inside.places (length c.self.inside.subscribers.items)
    c.args.seat.now.worker c.args.batch.now n c.self.invariant.0 once.0 low in
    omega (arith, same, fits)

pub invariant_of-self-2 : goal.invariant_of-self-2
invariant_of-self-2 g c =
    let goes_on : continues_lane c.self.inside.session.session.journal c.args.seat.now.worker c.args.batch.now ≡ true = search rules in
    let well = handed_well g.N.Naming.setting g.N.Naming.first c.self.inside.session.session c.self.inside.publisher c.args.seat.now.subscriber c.self.inside.books c.self.inside.places (length c.self.inside.subscribers.items)
    c.args.seat.now.worker c.args.batch.now c.self.invariant.0 goes_on c.compare.ensures.begins c.requires in
    let few : length (slots c.self.inside.session.session.setting c.self.inside.session.session.journal) ≤ 8 = c.in-Ok.ensures.few_keys in
    let small : HasSmallRows c.args.batch.now = subst HasSmallRows c.items.ensures.items c.items.ensures.octets in
    let once = flushed_once c.self.inside.session.session.setting c.args.seat.now.worker (map row_of c.args.batch.now) c.self.inside.session.session.journal c.flush.new.self.session.journal (flush_answer_of c.in-Ok.verdicts) c.in-Ok.ensures.answer in
    let books : c.count_items.new.books ≡ record { totals = with_items c.self.inside.books.totals c.args.batch.now; issued = c.self.inside.books.issued } =
    c.count_items.ensures.books ∙ ap (λ xs. record { totals = with_items c.self.inside.books.totals xs; issued = c.self.inside.books.issued }) c.items.ensures.items in (
      rw c.compare.ensures.publisher
          (sound_taken g.N.Naming.setting g.N.Naming.first c.self.inside.session.session c.flush.new.self.session c.self.inside.publisher c.self.inside.books c.count_items.new.books c.self.inside.places (length c.self.inside.subscribers.items)
          c.args.seat.now.worker c.args.batch.now few well.has small once.0 once.1 c.flush.ensures.setting books c.self.invariant.0),
      due_same g.P.Pooling.is_there c.self.inside.session.session.setting c.flush.new.self.session.setting c.self.inside.session.session.journal c.flush.new.self.session.journal c.self.inside.rates c.flush.ensures.setting
          (ap tables once.1 ∙ tables_after_flush c.self.inside.session.session.setting c.self.inside.session.session.journal (map row_of c.args.batch.now)) c.self.invariant.1,
    )

pub returns-clause-verdicts : goal.returns-clause-verdicts
returns-clause-verdicts g c =
    flush_answered c.self.inside.session.session.setting c.args.seat.now.worker (map row_of c.args.batch.now) c.self.inside.session.session.journal c.flush.new.self.session.journal
    (flush_answer_of c.in-Ok.verdicts) c.in-Ok.ensures.answer
