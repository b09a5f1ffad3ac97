use Rattle.std.proofs.Common.{◌∷◌, [], List, subst, sym}
use Rattle.pcef_table.specs.Tables.{TableValue}
use Rattle.pcef_model.specs.Setting.{Setting}
use Rattle.pcef_lock.specs.Published.{ArePublished}
use Rattle.pcef_lock.proofs.Publications.{published_first}
use Rattle.pcef_lock.proofs.opening.State+N+Writer+N+R+P.open_within.Goals as goal

pub new-requires-clause-published : goal.new-requires-clause-published
new-requires-clause-published g c =
    subst (λ (ts : List TableValue). ArePublished g.N.Naming.setting c.args.opening.session.session.journal g.N.Naming.first ts) (sym c.in-Ok.ensures.list)
    (subst (λ (q : Setting). ArePublished q c.args.opening.session.session.journal g.N.Naming.first (c.args.opening.opened.table ∷ [])) c.requires.named.setting_is
    (subst (λ n. ArePublished c.args.opening.session.session.setting c.args.opening.session.session.journal n (c.args.opening.opened.table ∷ [])) (sym c.requires.named.first_is)
    (published_first c.args.opening.session.session.setting c.args.opening.session.session.journal c.args.opening.opened.table c.requires.named.table)))
