use Rattle.std.proofs.Common.{rules, ap, refl, sym, ◌∙◌}
use Rattle.pcef_gx_handle.specs.Dialogues.{Dialoguing}
use Rattle.pcef_gx_handle.proofs.held.Dialogue.grant_first.Goals as goal

pub returns : goal.returns
returns c =
    let due = ap (λ (d : Dialoguing). d.due) c.self.view_is in (
      (
        c.args.opened.world,
        c.do_grant.new.due.items,
        c.requires.world,
        rw (sym c.apart-orders.ensures.orders, sym due) c.in-Ok.ensures.done,
        c.in-Ok.ensures.workers ∙ c.requires.world.2,
        c.in-Ok.ensures.setting ∙ c.requires.world.0,
        c.requires.number,
        search rules,
      ),
      refl,
      c.apart-orders.ensures.left,
    )
