use Rattle.std.proofs.Common.{◌∙◌, ap, sym, Some, List, ℕ, take}
use Rattle.pcef_sessions.proofs.Spaces.{found_space, no_space}
use Rattle.pcef_sessions.proofs.name.at_space.Goals as goal

pub returns-in-Some : goal.returns-in-Some
returns-in-Some c =
    ap (λ (t : List ℕ). Some (t, c.split_at-in-Some.result.1.now)) c.split_at.ensures.front
    ∙ ap (λ (t : List ℕ). Some (take c.in-Some.place c.args.line.now, t)) c.split_at-in-Some.ensures.back
    ∙ sym (found_space c.args.line.now c.in-Some.place c.in-Some.ensures)

pub returns-in-None : goal.returns-in-None
returns-in-None c = sym (no_space c.args.line.now c.in-None.ensures)
