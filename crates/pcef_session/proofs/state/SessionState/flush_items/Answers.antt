use Rattle.std.proofs.Common.{ap, sym, ◌∙◌, map}
use Rattle.std.proofs.lemmas.List.{length-map}
use Rattle.pcef_session.specs.Following.{row_of}
use Rattle.pcef_model.specs.Refusals.{first_of, flush_refusals}
use Rattle.pcef_session.proofs.Leaving.{flush_refused, flush_taken}
use Rattle.pcef_session.proofs.state.SessionState.flush_items.Goals as goal

pub returns-in-Some-clause-answer : goal.returns-in-Some-clause-answer
returns-in-Some-clause-answer c =
    flush_refused c.args.self.now.setting c.args.self.now.journal c.args.worker (map row_of c.args.items.now) c.in-Some.refusal
    (c.in-Some.ensures ∙ ap (λ n. first_of (flush_refusals c.args.self.now.setting c.args.self.now.journal c.args.worker n)) (sym (length-map c.args.items.now row_of)))

pub returns-in-Ok-clause-answer : goal.returns-in-Ok-clause-answer
returns-in-Ok-clause-answer c =
    flush_taken c.args.self.now.setting c.args.self.now.journal c.take_over.new.self.journal c.args.worker (map row_of c.args.items.now) _
    (c.in_default.ensures ∙ ap (λ n. first_of (flush_refusals c.args.self.now.setting c.args.self.now.journal c.args.worker n)) (sym (length-map c.args.items.now row_of)))
    c.in-Ok.ensures.taken
    c.in-Ok.ensures.flush_answer
