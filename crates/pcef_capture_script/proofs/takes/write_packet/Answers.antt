use Rattle.std.proofs.Common.{◌≡◌, ◌∙◌, refl, sym, ap, None, Some, Result, Ok, Err, IfOk, OnOk, false}
use Rattle.std.proofs.KnownBytes.{Appends-nil}
use Rattle.pcef_capture_script.specs.Fates.{fate_of}
use Rattle.pcef_capture_script.specs.declared.counts.Outcome.{Outcome}
use Rattle.pcef_capture_script.specs.declared.counts.Outcome.TheVariants.{Taken, Neither, Cut, NotIp}
use Rattle.pcef_capture_script.proofs.takes.write_packet.Goals as goal

-- what is known where a call succeeds holds of its result
known_of : {E A B : Type 0} {P : Outcome → Type 0} (r : Result Outcome E) (x : Outcome)
    → OnOk r A → OnOk r B → IfOk r (λ o. o ≡ x) → ((o : Outcome) → o ≡ x → A → B → P o) → IfOk r P
known_of (Ok o) x a b is all = all o is a b
known_of (Err e) x a b is all = tt

pub returns-in-Packet : goal.returns-in-Packet
returns-in-Packet g c =
    let plan = c.args.plan.now in
    let fate = fate_of plan.ue plan.pads in
    known_of c.write_take.result Taken c.write_take.ensures.lines c.write_take.ensures.turn c.write_take.ensures.outcome
    (λ o is lines turn. ((Taken, Some (c.in-Packet.dir, c.in-Packet.octets.now)), (c.content_of.result, c.content_of.ensures, sym (ap fate c.in-Packet.is)), (is, turn, lines)))

pub returns-else-plan : goal.returns-else-plan
returns-else-plan g c =
    let plan = c.args.plan.now in
    let due = ap (λ pads. fate_of plan.ue pads c.content_of.result) c.if-plan.false ∙ ap (fate_of plan.ue false) c.in-Cut.is in
    ((Cut, None), (c.content_of.result, c.content_of.ensures, sym due), (refl, refl, Appends-nil _))

pub returns-in-Neither : goal.returns-in-Neither
returns-in-Neither g c =
    let plan = c.args.plan.now in
    ((Neither, None), (c.content_of.result, c.content_of.ensures, sym (ap (fate_of plan.ue plan.pads) c.in-Neither.is)), (refl, refl, Appends-nil _))

pub returns-in-NotIp : goal.returns-in-NotIp
returns-in-NotIp g c =
    let plan = c.args.plan.now in
    ((NotIp, None), (c.content_of.result, c.content_of.ensures, sym (ap (fate_of plan.ue plan.pads) c.in-NotIp.is)), (refl, refl, Appends-nil _))
