-- The first two rows of the first worker follow, where no command was given.
use Rattle.std.proofs.Common.{◌≡◌, ℕ, List, [], ◌∷◌, map, Ok, Err, refl, sym, ap, subst, arith, inl, inr, if◌then◌else◌}
use Rattle.std.proofs.lemmas.List.Elements.{All-nil, All-push}
use Rattle.pcef_model.specs.declared.answer.AttachFault.TheVariants as attach
use Rattle.pcef_model.specs.declared.entry.Entry.TheVariants as entry
use Rattle.pcef_model.specs.declared.row.Row.{Row}
use Rattle.pcef_model.specs.Setting.{Setting}
use Rattle.pcef_model.specs.Entries.{Journal}
use Rattle.pcef_model.specs.Generations.{at_first, made_by, oldest, slots_of}
use Rattle.pcef_model.specs.Journals.{attach_count, slots, stray, unmatched, verdict_of}
use Rattle.pcef_model.specs.Lawful.{BatchFollows, RowFollows, RowsFollow}
use Rattle.pcef_model.specs.Outcomes.{AttachStep, attach_outcome}
use Rattle.pcef_model.specs.Slots.{CountsFor}
use Rattle.pcef_packet.specs.Addresses.{is_assigned}
use Rattle.pcef_session.specs.declared.batch.Item.{Item}
use Rattle.pcef_session.specs.Following.{HasItsSlots, row_of}
use Rattle.tests_sessions.specs.UnmatchedRows.{ue, unmatched_item}

abbrev attached : Journal
attached = entry.Attach 0 ∷ []

abbrev two : List Item
two = unmatched_item 0 ∷ unmatched_item 1 ∷ []

-- what stands after the first worker was attached
pub first_attached : (j k : Journal) (w : ℕ) → j ≡ [] → AttachStep j (Ok w) k → k ≡ attached
unfolding attach_outcome attach_count
first_attached j k w empty step = elim (subst (λ x. AttachStep x (Ok w) k) empty step) [
  | inl gives ↦ gives.1
  | inr lacks ↦ absurd (let e : Ok w ≡ Err attach.NoMemory = lacks.1.0 in cc)
]

first_follows : (p : Setting) → p.ue ≡ ue → RowFollows p attached (unmatched_item 0).row
unfolding made_by oldest
first_follows p h = record {
  in_lane = refl;
  not_older = omega arith;
  known = omega arith;
  verdict = sym (ap (λ a. verdict_of at_first (if is_assigned ue a then unmatched else stray)) h);
}

second_follows : (p : Setting) → p.ue ≡ ue → RowFollows p (entry.Row (unmatched_item 0).row ∷ attached) (unmatched_item 1).row
unfolding made_by oldest
second_follows p h = record {
  in_lane = refl;
  not_older = omega arith;
  known = omega arith;
  verdict = sym (ap (λ a. verdict_of at_first (if is_assigned ue a then unmatched else stray)) h);
}

both_follow : (p : Setting) → p.ue ≡ ue → BatchFollows p attached 0 (map row_of two)
unfolding RowsFollow
both_follow p h =
    let own = λ (r : Row). r.worker ≡ 0 in
    record {
      own = All-push own ((unmatched_item 0).row ∷ []) (unmatched_item 1).row (All-push own [] (unmatched_item 0).row (All-nil own) refl) refl;
      follow = (first_follows p h, (second_follows p h, tt));
    }

-- two rows are a batch that may come next
pub two_follow : (p : Setting) (j : Journal) (items : List Item) → p.ue ≡ ue → j ≡ attached → items ≡ two → BatchFollows p j 0 (map row_of items)
two_follow p j items h alone is =
    subst (λ x. BatchFollows p x 0 (map row_of items)) (sym alone) (subst (λ xs. BatchFollows p attached 0 (map row_of xs)) (sym is) (both_follow p h))

counts_for_none : (p : Setting) (n : ℕ) → p.ue ≡ ue → CountsFor p attached (unmatched_item n).row (unmatched_item n).slots.items
unfolding slots_of
counts_for_none p n h m = refl

both_slots : (p : Setting) → p.ue ≡ ue → HasItsSlots p attached two
both_slots p h =
    let its = λ (i : Item). CountsFor p attached i.row i.slots.items in
    All-push its (unmatched_item 0 ∷ []) (unmatched_item 1) (All-push its [] (unmatched_item 0) (All-nil its) (counts_for_none p 0 h)) (counts_for_none p 1 h)

-- and count for no key
pub two_slots : (p : Setting) (j : Journal) (items : List Item) → p.ue ≡ ue → j ≡ attached → items ≡ two → HasItsSlots p j items
two_slots p j items h alone is =
    subst (λ x. HasItsSlots p x items) (sym alone) (subst (λ xs. HasItsSlots p attached xs) (sym is) (both_slots p h))
