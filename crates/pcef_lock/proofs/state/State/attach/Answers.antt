use Rattle.std.proofs.Common.{rules, ◌≡◌, ◌≤◌, ◌<◌, ◌+◌, ◌-◌, ◌∙◌, ap, arith, length, sym}
use Rattle.std.specs.Prelude.{slice_set}
use Rattle.std.proofs.lemmas.List.{length_push}
use Rattle.pcef_model.specs.Setting.{Setting}
use Rattle.pcef_model.proofs.JournalExtends.{attached_not, attached_once}
use Rattle.pcef_session.proofs.Leaving.{attach_refused}
use Rattle.pcef_lock.proofs.Keeps.{sound_attached, sound_same}
use Rattle.pcef_lock.proofs.Seats.{next_is_ready}
use Rattle.pcef_lock.proofs.PoolShares.{due_kept, due_same}
use Rattle.pcef_model.specs.Journals.{tables}
use Rattle.pcef_lock.proofs.state.State.attach.Goals as goal

pub returns-in-Some-clause-answer : goal.returns-in-Some-clause-answer
returns-in-Some-clause-answer g c =
    let room : c.self.inside.books.issued ≤ c.self.inside.places = search rules in
    let issued = ap (λ v. v.books.issued) c.self.view_is in
    let places = ap (λ v. v.places) c.self.view_is in
    rw (← ap (λ v. v.session.journal) c.self.view_is) (
      (λ full. absurd (omega (arith, room, issued, places, full))),
      λ _. attach_refused c.self.inside.session.session.journal c.in-Some.fault (rw (← c.session.ensures.journal) (sym c.in-Some.ensures)),
    )

pub invariant_of-self-in-Err : goal.invariant_of-self-in-Err
invariant_of-self-in-Err g c = (
  rw (c.make_ready.ensures.publisher, c.make_ready.ensures.many)
      (sound_same g.N.Naming.setting g.N.Naming.first c.self.inside.session.session c.attach.new.self.session c.self.inside.publisher c.self.inside.books c.self.inside.places (length c.self.inside.subscribers.items)
      c.attach.ensures.setting (attached_not c.self.inside.session.session.journal c.attach.new.self.session.journal c.in-Err.fault c.in-Err.ensures.answer) c.self.invariant.0),
  due_kept g.P.Pooling.is_there c.self.inside.session.session.setting c.attach.new.self.session.setting c.self.inside.session.session.journal c.attach.new.self.session.journal c.self.inside.rates c.attach.ensures.setting
      (attached_not c.self.inside.session.session.journal c.attach.new.self.session.journal c.in-Err.fault c.in-Err.ensures.answer) c.self.invariant.1,
)

pub invariant_of-self-2 : goal.invariant_of-self-2
invariant_of-self-2 g c =
    let one : length c.next_subscriber.new.subscribers.items + 1 ≡ length c.self.inside.subscribers.items =
    omega (arith, c.make_ready.ensures.many, ap length c.next_subscriber.ensures.items, length_push c.next_subscriber.new.subscribers.items c.next_subscriber.result) in (
      rw c.make_ready.ensures.publisher
          (sound_attached g.N.Naming.setting g.N.Naming.first c.self.inside.session.session c.attach.new.self.session c.self.inside.publisher c.self.inside.books c.issue.new.self c.self.inside.places
          (length c.self.inside.subscribers.items) (length c.next_subscriber.new.subscribers.items) c.in-Ok.worker c.in-Ok.ensures.answer c.attach.ensures.setting c.issue.ensures.books one c.self.invariant.0),
      due_same g.P.Pooling.is_there c.self.inside.session.session.setting c.attach.new.self.session.setting c.self.inside.session.session.journal c.attach.new.self.session.journal c.self.inside.rates c.attach.ensures.setting
          (ap tables (attached_once c.self.inside.session.session.journal c.attach.new.self.session.journal c.in-Ok.worker c.in-Ok.ensures.answer).1) c.self.invariant.1,
    )

pub returns-clause-seat : goal.returns-clause-seat
returns-clause-seat g c =
    let room : c.self.inside.books.issued ≤ c.self.inside.places = search rules in
    let some : 0 < length c.self.inside.subscribers.items = omega (arith, room, c.self.invariant.0.free_are) in
    let set : c.make_ready.new.subscribers.items ≡ slice_set c.self.inside.subscribers.items (length c.self.inside.subscribers.items - 1) c.self.inside.publisher = search rules in
    rw (← ap (λ v. v.tables) c.self.view_is) (
      c.issue.ensures.shares,
      next_is_ready c.self.inside.subscribers.items c.make_ready.new.subscribers.items c.next_subscriber.new.subscribers.items c.self.inside.publisher c.next_subscriber.result some set c.next_subscriber.ensures.items,
      c.ue_of.ensures ∙ ap (λ (x : Setting). x.ue) c.attach.ensures.setting ∙ ap (λ (x : Setting). x.ue) c.self.invariant.0.kept.setting_is,
    )
