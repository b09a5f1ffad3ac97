use Rattle.std.proofs.Common.{◌∙◌, ap}
use Rattle.pcef_handle.specs.Attached.{Attached, last_of}
use Rattle.pcef_handle.proofs.attached.AttachedWorker.last.Goals as goal

pub returns : goal.returns
returns c = c.last.ensures.value ∙ ap last_of (c.waiting.ensures ∙ ap (λ (w : Attached). w.apart.worker.waiting) c.self.view_is)
