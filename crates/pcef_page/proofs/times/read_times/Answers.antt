use Rattle.std.proofs.Common.{rules, ◌≡◌, ◌∙◌, ◌++◌, [], ◌∷◌, ℕ, List, Some, None, filter, length, append_assoc, append-nil, map, refl, sym, ap, subst, arith, length-append}
use Rattle.std.specs.Prelude.{◌≢◌}
use Rattle.std.specs.List.{zip}
use Rattle.std.proofs.lemmas.List.{map-append}
use Rattle.std.proofs.lemmas.List.Elements.{All-push}
use Rattle.pcef_page.specs.Pairing.{filled}
use Rattle.pcef_page.specs.Times.{HaveTimes, has_packet, stamp_of_pair, takes}
use Rattle.pcef_page.specs.private.Lines.{left}
use Rattle.pcef_page.proofs.Timed.{has_stamp, no_more_takes, no_more_times, none_left, pairs_next, take_left}
use Rattle.pcef_page.proofs.times.read_times.Goals as goal

pub loop-stamps-init : goal.loop-stamps-init
loop-stamps-init c =
    let script = c.of-script.ensures in
    let times = c.of-times.ensures in
    record {
      taken = [];
      timed = [];
      takes = ap (filter has_packet) (sym script.left);
      times = sym times.left;
      same = refl;
      stamps = search rules;
      have = search rules;
      script_room = script.room;
      times_room = times.room;
    }

pub returns-in_default-next-clause-fault : goal.returns-in_default-next-clause-fault
returns-in_default-next-clause-fault c =
    let i = c.loop-stamps.invariant in
    let next = take_left (left c.loop-stamps.script) (left c.next_take.new.script) c.in_ok-number.field-0 c.in-Some.number c.in-Some.is c.in_ok-number.ensures.line in
    let later = (c.in-Some.number, next.0) ∷ filter has_packet (left c.next_take.new.script) in
    let script : takes c.args.lines.now ≡ i.taken ++ later = i.takes ∙ ap (λ t. i.taken ++ t) next.1 in
    let times : filled c.args.times.now ≡ i.timed ++ [] = i.times ∙ ap (λ t. i.timed ++ t) c.in_default-next.ensures.line in
    let pairs = no_more_times (takes c.args.lines.now) (filled c.args.times.now) i.taken i.timed later script times i.same in
    (subst HaveTimes (sym pairs) i.have, i.taken, next.0, filter has_packet (left c.next_take.new.script), script, i.same ∙ sym (ap length (times ∙ append-nil i.timed)))

pub returns-in_default-stamp_of-clause-fault : goal.returns-in_default-stamp_of-clause-fault
returns-in_default-stamp_of-clause-fault c =
    let i = c.loop-stamps.invariant in
    let next = take_left (left c.loop-stamps.script) (left c.next_take.new.script) c.in_ok-number.field-0 c.in-Some.number c.in-Some.is c.in_ok-number.ensures.line in
    let time = c.in-Some-next.time in
    let packet : ℕ × List ℕ = (c.in-Some.number, next.0) in
    let later = filter has_packet (left c.next_take.new.script) in
    let script : takes c.args.lines.now ≡ i.taken ++ packet ∷ later = i.takes ∙ ap (λ t. i.taken ++ t) next.1 in
    let times = i.times ∙ ap (λ t. i.timed ++ t) c.in-Some-next.ensures.line in
    let pairs = pairs_next (takes c.args.lines.now) (filled c.args.times.now) i.taken i.timed later (left c.next.new.self) packet (time.number, time.octets.now) script times i.same in
    (zip i.taken i.timed, (packet, (time.number, time.octets.now)), zip later (left c.next.new.self), pairs, i.have, sym c.stamp_of.ensures ∙ c.in_default-stamp_of.is, refl)

pub loop-stamps-preserved : goal.loop-stamps-preserved
loop-stamps-preserved c =
    let i = c.loop-stamps.invariant in
    let next = take_left (left c.loop-stamps.script) (left c.next_take.new.script) c.in_ok-number.field-0 c.in-Some.number c.in-Some.is c.in_ok-number.ensures.line in
    let packet : ℕ × List ℕ = (c.in-Some.number, next.0) in
    let time : ℕ × List ℕ = (c.in-Some-next.time.number, c.in-Some-next.time.octets.now) in
    let stamp = c.in-Some-stamp_of.stamp in
    let later = filter has_packet (left c.next_take.new.script) in
    let more : zip (i.taken ++ packet ∷ []) (i.timed ++ time ∷ []) ≡ zip i.taken i.timed ++ (packet, time) ∷ [] =
    pairs_next (i.taken ++ packet ∷ []) (i.timed ++ time ∷ []) i.taken i.timed [] [] packet time refl refl i.same in
    let is : Some stamp ≡ stamp_of_pair (packet, time) = sym c.in-Some-stamp_of.is ∙ c.stamp_of.ensures in
    record {
      taken = i.taken ++ packet ∷ [];
      timed = i.timed ++ time ∷ [];
      takes = i.takes ∙ ap (λ t. i.taken ++ t) next.1 ∙ sym (append_assoc i.taken (packet ∷ []) later);
      times = i.times ∙ ap (λ t. i.timed ++ t) c.in-Some-next.ensures.line ∙ sym (append_assoc i.timed (time ∷ []) (left c.next.new.self));
      same = omega (arith, i.same, length-append i.taken (packet ∷ []), length-append i.timed (time ∷ []));
      stamps = ap (map Some) c.in_ok-push.ensures.items ∙ map-append Some c.loop-stamps.stamps.items (stamp ∷ [])
          ∙ ap (λ t. t ++ Some stamp ∷ []) i.stamps ∙ ap (λ o. map stamp_of_pair (zip i.taken i.timed) ++ o ∷ []) is
          ∙ sym (map-append stamp_of_pair (zip i.taken i.timed) ((packet, time) ∷ [])) ∙ ap (map stamp_of_pair) (sym more);
      have = subst HaveTimes (sym more) (All-push (λ p. stamp_of_pair p ≢ None) (zip i.taken i.timed) (packet, time) i.have (has_stamp (packet, time) stamp is));
      script_room = c.in_ok-number.ensures.room;
      times_room = c.in-Some-next.ensures.room;
    }

pub returns-in-Some-next-2-clause-fault : goal.returns-in-Some-next-2-clause-fault
returns-in-Some-next-2-clause-fault c =
    let i = c.loop-stamps.invariant in
    let none = none_left (left c.loop-stamps.script) (left c.next_take.new.script) c.in_ok-number.field-0 c.in_default.is c.in_ok-number.ensures.line in
    let time = c.in-Some-next-2.time in
    let later = (time.number, time.octets.now) ∷ left c.next-2.new.self in
    let script : takes c.args.lines.now ≡ i.taken ++ [] = i.takes ∙ ap (λ t. i.taken ++ t) none in
    let times : filled c.args.times.now ≡ i.timed ++ later = i.times ∙ ap (λ t. i.timed ++ t) c.in-Some-next-2.ensures.line in
    let pairs = no_more_takes (takes c.args.lines.now) (filled c.args.times.now) i.taken i.timed later script times i.same in
    (subst HaveTimes (sym pairs) i.have, i.timed, time.octets.now, left c.next-2.new.self, times, sym (i.same) ∙ sym (ap length (script ∙ append-nil i.taken)))
