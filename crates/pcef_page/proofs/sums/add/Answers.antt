use Rattle.std.proofs.Common.{subst, sym}
use Rattle.std.proofs.lemmas.Map.Text.{btree_map_updates_str}
use Rattle.pcef_page.specs.Sums.{IsSum}
use Rattle.pcef_page.proofs.NamedSums.{more_of}
use Rattle.pcef_page.proofs.sums.add.Goals as goal

pub returns : goal.returns
returns c = λ key n was.
    more_of c.insert.new.self c.args.sums.now c.args.name.now key c.args.octets n c.more-sum.result
    (λ m is. c.more-sum.ensures m (subst (IsSum m) (sym c.sum_of.ensures) is))
    (btree_map_updates_str c.args.name.now c.args.sums.now c.insert.new.self _ c.in_ok-insert.ensures.updates key) was
