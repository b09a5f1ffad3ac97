use Rattle.std.proofs.Common.{◌≡◌, ◌∙◌, ap, subst}
use Rattle.pcef_model.specs.Setting.{Setting}
use Rattle.pcef_share.specs.Pools.{rates_due}
use Rattle.pcef_lock.specs.Locked.{Locked}
use Rattle.pcef_lock.proofs.state.State.rates.Goals as goal

pub returns : goal.returns
returns g c =
    subst (λ (v : Locked). c.held_in.result ≡ rates_due g.P.Pooling.is_there g.N.Naming.setting v.session.journal) c.self.view_is
    (c.held_in.ensures ∙ c.self.invariant.1 ∙ ap (λ (q : Setting). rates_due g.P.Pooling.is_there q c.self.inside.session.session.journal) c.self.invariant.0.kept.setting_is)
