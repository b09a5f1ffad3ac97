use Rattle.std.proofs.Common.{subst, sym}
use Rattle.pcef_flow.specs.Flows.{Flows, Remembers}
use Rattle.pcef_flow.proofs.Remembering.{notes_one}
use Rattle.pcef_flow.proofs.cache.FlowCache.looked_up.Goals as goal

pub returns-then-at-len-clause-remembers : goal.returns-then-at-len-clause-remembers
returns-then-at-len-clause-remembers g c =
    let offers = g.C.Offers.offers c.args.catalog.now in
    let entries = c.args.followed.now.entries in
    let remembers = subst (λ (v : Flows). Remembers offers entries c.args.ue.now v) (sym c.self.view_is) c.requires.remembers in
    let ignore = remembers.used c.if-self.true in
    record {
      right = notes_one offers entries c.args.ue.now c.self.inside.flows.items _ (record { flow = c.of-flow.result; place = c.first_place-place.result })
          c.args.header.now ignore c.of-flow.ensures (c.requires.own, c.first_place-place.ensures) remembers.right;
      used = remembers.used;
    }
