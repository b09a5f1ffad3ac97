use Rattle.std.proofs.Common.{rules, ◌∙◌, subst}
use Rattle.pcef_flow.specs.Flows.{Remembers}
use Rattle.pcef_table.specs.Tables.{TableValue}
use Rattle.pcef_handle.proofs.attached.AttachedWorker.refresh.Goals as goal

pub invariant_of-self : goal.invariant_of-self
invariant_of-self c =
    let apart = c.refresh_apart.new.apart in (
      search rules,
      search rules,
      subst (λ (t : TableValue). Remembers c.self.inside.catalog t.entries apart.ue c.follow.new.self) (c.table.ensures ∙ c.held.ensures) (c.follow.ensures apart.ue),
    )
