use Rattle.std.proofs.Common.{◌≡◌, true, sym, subst, inl, inr}
use Rattle.std.proofs.lemmas.Bool.{cases_Bool}
use Rattle.pcef_base.proofs.Tests.{contrary}
use Rattle.pcef_filter.specs.declared.filter.Filter.{Filter}
use Rattle.pcef_filter.specs.Matching.{matches}
use Rattle.pcef_index.specs.private.Lines.{filter_line}
use Rattle.pcef_index.proofs.Owning.{keep_less, keep_more}
use Rattle.pcef_index.proofs.lines.push_filter.Goals as goal

pub returns-in_ok-push : goal.returns-in_ok-push
returns-in_ok-push c all keep =
    rw c.in_ok-push.ensures.items (keep_more c.args.own all c.args.lines.now.items (filter_line c.args.place c.args.filter) keep)

pub returns-else-is_kept : goal.returns-else-is_kept
returns-else-is_kept c all keep =
    keep_less c.args.own all c.args.lines.now.items (filter_line c.args.place c.args.filter) keep
    (λ offers ue h is. elim (cases_Bool (matches c.args.filter ue h)) [
      | inl fits ↦
          contrary c.is_kept.result (c.is_kept.ensures ue h is (subst (λ (f : Filter). matches f ue h ≡ true) (sym c.get.ensures) fits)) c.if-is_kept.false
      | inr not_fits ↦ not_fits
    ])
