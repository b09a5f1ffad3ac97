use Rattle.std.proofs.Common.{◌≡◌, ◌<◌, [], length, Some, None, ◌∙◌, refl, sym, subst, append-nil}
use Rattle.std.proofs.lemmas.List.{nil_from_length}
use Rattle.std.proofs.lemmas.Bool.{eqb-true}
use Rattle.pcef_diameter.specs.Avps.{Reads}
use Rattle.pcef_diameter.proofs.Readings.{some_length}
use Rattle.pcef_diameter.proofs.avps.read_avps.Goals as goal

pub returns-in-Err : goal.returns-in-Err
returns-in-Err c =
    let some : 0 < length c.loop-rest.rest.now = some_length c.loop-rest.rest.now (sym c.is_empty.ensures ∙ c.loop-rest-test.true) in
    let read = c.loop-rest.invariant [] c.loop-rest.rest.now (Some c.in-Err.fault) (some, c.in-Err.ensures.fault, refl) in
    subst (λ avps. Reads c.args.octets.now avps c.loop-rest.rest.now (Some c.in-Err.fault)) (append-nil _) read

pub returns : goal.returns
returns c =
    let none : c.loop-rest.rest.now ≡ [] = nil_from_length c.loop-rest.rest.now (eqb-true _ _ (sym c.is_empty.ensures ∙ c.loop-rest-test.false)) in
    subst (λ avps. Reads c.args.octets.now avps [] None) (append-nil _) (c.loop-rest.invariant [] [] None (none, refl))
