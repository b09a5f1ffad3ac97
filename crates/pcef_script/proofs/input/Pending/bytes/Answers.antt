use Rattle.std.proofs.Common.{◌∙◌, ap}
use Rattle.std.specs.Prelude.{Some}
use Rattle.pcef_script.proofs.KeptLines.{kept_is, kept_within}
use Rattle.pcef_script.proofs.input.Pending.bytes.Goals as goal

pub returns-else-self : goal.returns-else-self
returns-else-self c = λ line is.
    let kept = kept_is _ line _ (c.self.view_is ∙ is) in
    ap (λ bytes. Some bytes) c.deref.ensures.value ∙ kept_within _ line _ kept c.if-self.false
