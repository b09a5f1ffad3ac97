use Rattle.std.proofs.Common.{◌≡◌, ◌+◌, ◌++◌, ◌∷◌, ◌∙◌, ℕ, List, Some, [], ap, arith, length, slice_set, subst, sym}
use Rattle.std.specs.Prelude.{slice_get}
use Rattle.std.specs.Arc.{arc_value}
use Rattle.std.proofs.lemmas.Option.{slice_get-get_or}
use Rattle.pcef_table.specs.declared.entry.Source.{Source}
use Rattle.pcef_index.specs.private.AllSieves.{BaseValue}
use Rattle.pcef_index.proofs.Parting.{PlacedTo, left_over, placed_here, placed_rest}
use Rattle.pcef_index.proofs.part.Part.over.Goals as goal
use Rattle.pcef_index.proofs.part.Part.over.Goals.{in-Some, in-None+in_ok-push-in-None}

pub loop-place-preserved : goal.loop-place-preserved
loop-place-preserved c =
    let n = c.loop-place.place in
    let next = c.loop-place.next in
    let base = (arc_value c.args.base).sources in
    let sources = c.args.sources.now in
    let places = c.loop-place.places.items in
    let left = c.loop-place.rest.items in
    let s = c.index-sources-place.result in
    let is : slice_get sources n ≡ Some s = slice_get-get_or sources n s (omega arith) ∙ ap (λ (x : Source). Some x) (sym c.index-sources-place.is) in
    elim c.match-number_from.branch [
      | in-Some w ↦
          (let number = w.in-Some.number in
          let there : slice_get base number ≡ Some s = ap (λ (ss : List Source). slice_get ss number) (sym (c.sources-in-loop-place.ensures ∙ ap (λ (b : BaseValue). b.sources) c.deref-in-loop-place.ensures)) ∙ w.in-Some.ensures.1 in
          let placed : PlacedTo (n + 1) (number + 1) base sources (slice_set places number (Some n)) left =
          placed_here n next number base sources places left s c.loop-place.invariant w.in-Some.ensures.0 there is in
          rw (w.places-is, w.rest-is, w.next-is) placed)
      | in-None+in_ok-push-in-None w ↦
          (let pushed : c.match-number_from.rest.items ≡ left ++ n ∷ [] = rw w.rest-is w.in_ok-push-in-None.ensures.items in
          let placed : PlacedTo (n + 1) next base sources places (left ++ n ∷ []) = placed_rest n next base sources places left c.loop-place.invariant in
          rw (w.next-is, w.places-is, pushed) placed)
    ]

pub returns-clause-rest : goal.returns-clause-rest
returns-clause-rest c =
    let end : c.loop-place.place ≡ length c.args.sources.now = omega arith in
    left_over c.args.sources.now _ c.loop-place.next c.loop-place.rest.items
    (subst (λ (n : ℕ). PlacedTo n c.loop-place.next (arc_value c.args.base).sources c.args.sources.now c.loop-place.places.items c.loop-place.rest.items) end c.loop-place.invariant)
