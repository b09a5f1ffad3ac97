use Rattle.std.proofs.Common.{ap, subst, refl, List}
use mathlib.Core.List.{IsPrefix}
use lib.Dec.{leb}
use Rattle.pcef_publish.specs.declared.rule.Note.{Note}
use Rattle.pcef_publish.specs.private.Chains.{items_of}
use Rattle.pcef_publish.proofs.Runs.{begins_or_longer}
use Rattle.pcef_publish.proofs.Steps.{items_begin}
use Rattle.pcef_publish.proofs.front.Front.begins.Goals as goal

pub returns : goal.returns
returns g c =
    let root = g.N.Naming.root in
    let mine = c.self.inside.seen.log in
    let theirs = c.other.inside.seen.log in
    let both = c.learn.new.self.log in
    let this : IsPrefix mine both = subst (λ (l : List Note). IsPrefix l both)
    (ap (λ s. s.log) c.again-both.ensures) c.learn.ensures.2 in
    rw (← c.self.view_is, ← c.other.view_is) (begins_or_longer (items_of root mine)
    (items_of root theirs) (items_of root both) c.self.inside.len c.other.inside.len
    c.self.invariant.0 c.other.invariant.0 (items_begin root mine both this)
    (items_begin root theirs both c.learn.ensures.3) (leb c.self.inside.len c.other.inside.len)
    refl)
