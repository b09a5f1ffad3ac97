use Rattle.std.proofs.Common.{rules, ◌∙◌, sym}
use Rattle.pcef_session.proofs.Refused.{becoming_bound, becoming_clashing, becoming_full, becoming_slotless}
use Rattle.pcef_session.proofs.state.SessionState.becoming_active.Goals as goal

pub returns-then-finds_no_place : goal.returns-then-finds_no_place
returns-then-finds_no_place c = becoming_full c.args.self.now.setting c.args.self.now.journal c.args.rule.now (sym c.if-finds_no_place.true ∙ c.finds_no_place.ensures)

pub returns-then-clashes : goal.returns-then-clashes
returns-then-clashes c =
    becoming_clashing c.args.self.now.setting c.args.self.now.journal c.args.rule.now (sym c.if-finds_no_place.false ∙ c.finds_no_place.ensures)
    (search rules)

pub returns-then-finds_no_slot : goal.returns-then-finds_no_slot
returns-then-finds_no_slot c =
    becoming_slotless c.args.self.now.setting c.args.self.now.journal c.args.rule.now (sym c.if-finds_no_place.false ∙ c.finds_no_place.ensures)
    (search rules) (search rules)

pub returns : goal.returns
returns c =
    becoming_bound c.args.self.now.setting c.args.self.now.journal c.args.rule.now c.bind_refusal.result (sym c.if-finds_no_place.false ∙ c.finds_no_place.ensures)
    (search rules) (search rules) c.bind_refusal.ensures
