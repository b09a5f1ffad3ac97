use Rattle.std.proofs.Common.{◌≡◌, ◌∙◌, List, Some, ℕ, subst, sym}
use Rattle.pcef_index.specs.declared.sieve.Sieve.{Sieve}
use Rattle.pcef_index.specs.private.ByKinds.{of_kind}
use Rattle.pcef_index.specs.private.Standing.{AreStanding, words_for}
use Rattle.pcef_index.proofs.base.first_place.Goals as goal

pub first_place-requires-clause-words : goal.first_place-requires-clause-words
first_place-requires-clause-words g c =
    let kind = c.kind_of-kind.result in
    let here : of_kind c.args.sieves.now kind ≡ Some c.in-Some.sieve = sym c.of.ensures ∙ c.in-Some.is in
    let stand : AreStanding c.args.standing.places.now c.args.standing.lines.now c.in-Some.sieve.value.numbers.items (words_for c.args.words.now kind) =
    c.requires.words kind c.in-Some.sieve here in
    subst (λ (ws : List ℕ). AreStanding c.args.standing.places.now c.args.standing.lines.now c.deref.result.now.numbers.items ws) (sym c.words_for.ensures)
    (subst (λ (s : Sieve). AreStanding c.args.standing.places.now c.args.standing.lines.now s.numbers.items (words_for c.args.words.now kind)) (sym c.deref.ensures) stand)
