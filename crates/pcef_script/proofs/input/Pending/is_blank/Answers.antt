use Rattle.std.proofs.Common.{◌∙◌, ap}
use Rattle.std.specs.List.{list_all}
use Rattle.pcef_script.specs.ScriptLines.{is_space}
use Rattle.pcef_script.proofs.KeptLines.{kept_is, kept_blank}
use Rattle.pcef_script.proofs.input.Pending.is_blank.Goals as goal

pub returns-then-not-self : goal.returns-then-not-self
returns-then-not-self c = λ line is.
    let kept = kept_is _ line _ (c.self.view_is ∙ is) in
    c.is_space.ensures ∙ ap (list_all is_space) c.deref.ensures.value ∙ kept_blank _ line _ kept c.if-not-self.true
