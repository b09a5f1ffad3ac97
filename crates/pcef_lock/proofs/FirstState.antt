-- What is behind the lock when a session is first shared.
use Rattle.std.proofs.Common.{rules, ◌≡◌, ◌∙◌, ◌≤◌, ◌<◌, ℕ, List, [], ◌∷◌, All, length, refl, sym, ap, subst, arith, Some, None}
use Rattle.std.specs.Prelude.{Option, slice_get, slice_index}
use Rattle.std.specs.Option.{option_map_or}
use Rattle.std.proofs.lemmas.List.Elements.{All-head}
use Rattle.pcef_table.specs.Tables.{TableValue}
use Rattle.pcef_model.specs.declared.row.Row.{Row}
use Rattle.pcef_model.specs.Setting.{Setting}
use Rattle.pcef_model.specs.Entries.{Journal, commands, rows}
use Rattle.pcef_model.specs.Journals.{attach_count, counted, counts, octets_of, slots}
use Rattle.pcef_model.specs.Lawful.{Lawful}
use Rattle.pcef_session.specs.SessionModel.{SessionModel}
use Rattle.pcef_share.specs.Amounts.{command_ledger, plus, zeros}
use Rattle.pcef_handover.specs.Counting.{AreCounted, slot_total}
use Rattle.pcef_lock.specs.Published.{ArePublished}
use Rattle.pcef_lock.specs.private.Soundness.{IsSound}
use Rattle.pcef_model.proofs.NewLanes.{lawful_numbered}
use Rattle.pcef_lock.proofs.Keeps.{locked}
use Rattle.pcef_handover.proofs.Ledgers.{length_plus, plus_other, plus_same}

no_rows : (rs : List Row) → All (λ (r : Row). r.worker < 0) rs → rs ≡ []
no_rows [] below = refl
no_rows (r ∷ rs) below = absurd (omega (arith, All-head (λ (x : Row). x.worker < 0) r rs below))

nothing_counted : (p : Setting) (j : Journal) (key : List ℕ) → rows j ≡ [] → counted p j key ≡ 0
unfolding octets_of
nothing_counted p j key none = ap (octets_of (counts p j key)) none

no_total : (p : Setting) (j : Journal) (n : ℕ) → rows j ≡ [] → slot_total p j n ≡ 0
no_total p j n none = from (slice_get (slots p j) n)
  where
    from : (o : Option (List ℕ)) → option_map_or (counted p j) o 0 ≡ 0
    from None = refl
    from (Some key) = nothing_counted p j key none

zeros_at : (n : ℕ) → slice_index zeros n ≡ 0
zeros_at n = search rules

new_counted : (p : Setting) (j : Journal) → rows j ≡ [] → AreCounted p j (plus zeros 9 (length (commands j)))
new_counted p j none =
    let n : ℕ = length (commands j) in
    let at : (k : ℕ) → k < 9 → slice_index (plus zeros 9 n) k ≡ 0 = λ k low. plus_other zeros 9 n k (λ (e : k ≡ 9). absurd (omega (arith, low, e))) ∙ zeros_at k in
    record {
      ten = length_plus zeros 9 n;
      slots_are = λ k low. at k (omega (arith, low)) ∙ sym (no_total p j k none);
      rows_are = at 8 (omega arith) ∙ sym (ap length none);
      commands_are = omega (arith, plus_same zeros 9 n (omega arith), zeros_at 9);
      within = λ k low. omega (arith, at k (omega (arith, low)));
    }

pub sound_new : (p : Setting) (first : ℕ) (s : SessionModel) (ts : List TableValue) (places free : ℕ) → s.setting ≡ p → Lawful s.setting s.journal → attach_count s.journal ≡ 0 → ArePublished p s.journal first ts →
    s.setting.rows ≤ 4294967295 → places ≤ 16 → free ≡ places → IsSound p first (locked s ts (record { totals = plus zeros command_ledger (length (commands s.journal)); issued = 1 }) places) free
sound_new p first s ts places free setting lawful fresh published most few_places free_is = record {
  kept = record { setting_is = setting; published = published; counted = new_counted p s.journal none };
  issued_is = omega (arith, fresh);
  free_are = omega (arith, free_is);
  few_places = few_places;
  most_rows = subst (λ (q : Setting). q.rows ≤ 4294967295) setting most;
  few_rows = omega (arith, ap length none);
}
  where
    none : rows s.journal ≡ []
    none = no_rows (rows s.journal) (subst (λ n. All (λ (r : Row). r.worker < n) (rows s.journal)) fresh (lawful_numbered s.setting s.journal lawful).rows_below)
