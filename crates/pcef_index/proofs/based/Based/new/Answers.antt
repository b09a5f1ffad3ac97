use Rattle.std.proofs.Common.{refl}
use Rattle.pcef_index.proofs.Parting.{has_below, one_part}
use Rattle.pcef_index.proofs.based.Based.new.Goals as goal

pub returns : goal.returns
returns c =
    one_part c.args.sources.now _ refl c.in_ok-older.ensures.part
    (λ k small. c.in_ok-older.ensures.all k (has_below _ c.in_ok-places.places.items k c.in_ok-places.ensures small))
