use Rattle.std.proofs.Common.{◌≡◌, ◌∙◌, Some, None, refl, ap, sym, subst}
use Rattle.std.specs.Prelude.{codes}
use Rattle.serde_json.specs.Data.{string, number, unsigned, object}
use Rattle.pcef_filter.specs.Reading.{reading_of}
use Rattle.pcef_line.specs.LineOf.{line_at}
use Rattle.pcef_line.specs.LineValues.{Gives}
use Rattle.pcef_line.specs.ShortLines.{found_in, members_of}
use Rattle.pcef_line.proofs.ShortAnswers.{take_is, refresh_is, flush_is}
use Rattle.pcef_line.proofs.short.line_of.Goals as goal

pub returns-in-take-Some-Some : goal.returns-in-take-Some-Some
returns-in-take-Some-Some c =
    let x = c.in-take-Some-Some in
    let n = c.in_ok-worker.worker in
    let same : found_in c.args.fields ≡ members_of (Some (string x.dir.now)) (Some (string (codes "take"))) (Some (string x.packet.now)) (Some (number (unsigned n))) = rw (x.is-1, x.is-2, c.in_ok-fields.was, c.in_ok-worker.was, x.is-take-0) refl in
    subst (Gives (λ l. l) c.take.result) (sym (ap (λ m. line_at reading_of (object m)) same ∙ take_is x.dir.now x.packet.now n c.if-worker-gt15.false)) c.take.ensures

pub returns-in-refresh-None-None : goal.returns-in-refresh-None-None
returns-in-refresh-None-None c =
    let x = c.in-refresh-None-None in
    let n = c.in_ok-worker.worker in
    let same : found_in c.args.fields ≡ members_of None (Some (string (codes "refresh"))) None (Some (number (unsigned n))) = rw (x.is-1, x.is-2, c.in_ok-fields.was, c.in_ok-worker.was, x.is-refresh-0) refl in
    ap (λ m. line_at reading_of (object m)) same ∙ refresh_is n c.if-worker-gt15.false

pub returns-in-flush-None-None : goal.returns-in-flush-None-None
returns-in-flush-None-None c =
    let x = c.in-flush-None-None in
    let n = c.in_ok-worker.worker in
    let same : found_in c.args.fields ≡ members_of None (Some (string (codes "flush"))) None (Some (number (unsigned n))) = rw (x.is-1, x.is-2, c.in_ok-fields.was, c.in_ok-worker.was, x.is-flush-0) refl in
    ap (λ m. line_at reading_of (object m)) same ∙ flush_is n c.if-worker-gt15.false
