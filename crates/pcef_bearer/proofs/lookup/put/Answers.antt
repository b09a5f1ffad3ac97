use Rattle.std.proofs.Common.{◌≡◌, ◌∙◌, false, sym}
use Rattle.std.specs.List.{list_any}
use Rattle.pcef_bearer.specs.Bindings.{is_bound_as}
use Rattle.pcef_bearer.proofs.Putting.{no_place, put_at, put_behind}
use Rattle.pcef_bearer.proofs.lookup.put.Goals as goal

pub take_in-requires : goal.take_in-requires
take_in-requires c =
    let none : list_any (is_bound_as c.args.new.name) c.args.bound.now.items ≡ false =
    no_place (is_bound_as c.args.new.name) c.args.bound.now.items (rw c.deref.ensures.value at (sym c.place_of.ensures ∙ c.in-None.is)) in
    c.requires none

pub returns-in-None : goal.returns-in-None
returns-in-None c =
    let none : list_any (is_bound_as c.args.new.name) c.args.bound.now.items ≡ false =
    no_place (is_bound_as c.args.new.name) c.args.bound.now.items (rw c.deref.ensures.value at (sym c.place_of.ensures ∙ c.in-None.is)) in
    c.take_in.ensures ∙ sym (put_behind c.args.new c.args.bound.now.items none)

pub returns-in-Some : goal.returns-in-Some
returns-in-Some c = put_at c.args.new c.args.bound.now.items c.in-Some.place (rw c.deref.ensures.value at (sym c.place_of.ensures ∙ c.in-Some.is))
