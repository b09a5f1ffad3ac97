use Rattle.std.proofs.Common.{ℕ, Option, Some, subst}
use Rattle.std.specs.Prelude.{IfSome}
use Rattle.pcef_index.specs.declared.based.Newer.{Newer}
use Rattle.pcef_index.specs.private.Bases.{IsFirstPlaced, Reaches}
use Rattle.pcef_index.specs.private.Indexes.{IsNewer}
use Rattle.pcef_index.proofs.Firsts.{first_of_bounded, first_of_older, first_of_one, first_of_two}
use Rattle.pcef_index.proofs.based.Based.first_place.Goals as goal
use Rattle.pcef_index.proofs.based.Based.first_place.Goals.{in-None, in-Some-reach}

pub returns-in_default : goal.returns-in_default
returns-in_default g c sources is =
    first_of_one (g.C.Offers.offers c.args.catalog.now) c.args.ue.now c.args.header.now sources c.args.self.now c.first_place.result is c.in_default.is (c.first_place.ensures sources is.older)

pub returns-in_default-first_place : goal.returns-in_default-first_place
returns-in_default-first_place g c sources is =
    let self = c.args.self.now in
    let newer : IsNewer sources self.older c.in-Some.newer = subst (λ (o : Option Newer). IfSome o (IsNewer sources self.older)) c.in-Some.is is.newer in
    first_of_older (g.C.Offers.offers c.args.catalog.now) c.args.ue.now c.args.header.now sources self c.in-Some.newer c.first_place-in_default-first_place.result is c.in-Some.is
    (c.first_place-in_default-first_place.ensures sources is.older)
    (c.in_default-first_place.ensures sources newer.part)

pub returns : goal.returns
returns g c sources is =
    let self = c.args.self.now in
    let offers = g.C.Offers.offers c.args.catalog.now in
    let ue = c.args.ue.now in
    let h = c.args.header.now in
    let place = c.in-Some-first_place.place in
    let newer : IsNewer sources self.older c.in-Some.newer = subst (λ (o : Option Newer). IfSome o (IsNewer sources self.older)) c.in-Some.is is.newer in
    let first : IsFirstPlaced offers ue h sources c.in-Some.newer.part (Some place) = c.in-Some-first_place.ensures sources newer.part in
    rw c.least.ensures (elim c.match-reach.branch [
      | in-None w ↦
          rw w.older-is (first_of_two offers ue h sources self c.in-Some.newer w.first_place-older.result (Some place) is c.in-Some.is (w.first_place-older.ensures sources is.older) first)
      | in-Some-reach w ↦
          (let reaches : Reaches self.older w.in-Some-reach.reach place =
          subst (λ (o : Option ℕ). IfSome o (λ (r : ℕ). Reaches self.older r place)) w.in-Some-reach.is (c.reach.ensures self.older newer.reaches) in
          rw w.older-is
          (first_of_bounded w.in-Some-reach.reach offers ue h sources self c.in-Some.newer w.first_within-older.result place is c.in-Some.is reaches (w.first_within-older.ensures sources is.older) first))
    ])
