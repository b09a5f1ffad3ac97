use Rattle.std.proofs.Common.{◌∙◌, List, None, Some, ap, map, subst, ℕ}
use Rattle.std.specs.Arc.{arc_value}
use Rattle.pcef_index.specs.private.AllSieves.{BaseValue}
use Rattle.pcef_index.specs.private.Bases.{AreCopies}
use Rattle.pcef_index.specs.declared.part.Part.{Part}
use Rattle.pcef_index.proofs.Running.{all_stand_in}
use Rattle.pcef_index.proofs.Parting.{all_copied, copied}
use Rattle.pcef_index.proofs.part.Part.new.Goals as goal

pub invariant_of-result : goal.invariant_of-result
invariant_of-result c = record { standing = all_stand_in (arc_value c.in_ok-base.base) c.in_ok-places.places.items }

pub returns-clause-part : goal.returns-clause-part
returns-clause-part c =
    let sources = c.args.sources.now in
    let copies = c.in_ok-copies.copies.items in
    let ks = c.args.places.items in
    let are : AreCopies sources ks copies = subst (λ (ns : List ℕ). AreCopies sources ns copies) c.deref.ensures.value c.in_ok-copies.ensures in
    copied sources copies ks _ (ap (λ (b : BaseValue). b.sources) c.in_ok-base.ensures.ok ∙ c.in_ok-new.ensures) (c.in_ok-places.ensures ∙ ap (map (λ (n : ℕ). Some n)) c.deref-2.ensures.value) are c.requires.places

pub returns-clause-all : goal.returns-clause-all
returns-clause-all c =
    let p : Part = record {
      base = c.in_ok-base.base;
      places = c.in_ok-places.places;
      words = None;
      standing = all_stand_in (arc_value c.in_ok-base.base) c.in_ok-places.places.items;
    } in
    all_copied c.args.places.items p (c.in_ok-places.ensures ∙ ap (map (λ (n : ℕ). Some n)) c.deref-2.ensures.value)
