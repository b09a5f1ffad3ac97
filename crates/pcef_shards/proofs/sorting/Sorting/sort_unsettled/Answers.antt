use Rattle.std.proofs.Common.{◌∙◌, ap, refl, sym}
use Rattle.pcef_shards.specs.Picks.{is_settled}
use Rattle.pcef_shards.proofs.Sortings.{run_kept, run_settles}
use Rattle.pcef_shards.proofs.sorting.Sorting.sort_unsettled.Goals as goal

pub returns-in_ok-settle : goal.returns-in_ok-settle
returns-in_ok-settle c =
    run_settles c.args.self.now _ c.settle.new.self c.in_ok-settle.field-0 c.args.run.now c.requires.feed c.requires.thread refl c.in_ok-extend_from_slice.ensures.items refl
    (ap is_settled (sym c.deref.ensures.value) ∙ sym c.is_settled.ensures ∙ c.if-is_settled.true) c.in_ok-settle.ensures

pub returns-else-is_settled : goal.returns-else-is_settled
returns-else-is_settled c =
    run_kept c.args.self.now _ c.args.run.now c.requires.feed c.requires.thread refl c.in_ok-extend_from_slice.ensures.items refl refl
    (ap is_settled (sym c.deref.ensures.value) ∙ sym c.is_settled.ensures ∙ c.if-is_settled.false)
