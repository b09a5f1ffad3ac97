use Rattle.pcef_index.specs.declared.lines.Line.{Line}
use Rattle.pcef_index.specs.declared.lines.Part.TheVariants as part
use Rattle.pcef_index.proofs.Owning.{keep_more}
use Rattle.pcef_index.proofs.lines.push_source.Goals as goal

pub returns-in_ok-push-in-Predefined : goal.returns-in_ok-push-in-Predefined
returns-in_ok-push-in-Predefined c all keep =
    let line : Line = record { place = c.args.place; part = part.Offer c.in-Predefined.index } in
    rw (c.in_ok-push-in-Predefined.ensures.items, c.in-Predefined.is) (keep_more c.args.own all c.args.lines.now.items line keep)
