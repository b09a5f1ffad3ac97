-- A table goes on showing its generation as the journal grows.
use Rattle.std.proofs.Common.{◌≡◌, ◌∙◌, ◌≤◌, ℕ, [], ◌∷◌, length, sym, ap, subst, Contains, append-nil}
use Rattle.pcef_table.specs.declared.entry.TableEntry.{TableEntry}
use Rattle.pcef_table.specs.Tables.{TableValue}
use Rattle.pcef_model.specs.declared.entry.Entry.TheVariants as entry
use Rattle.pcef_model.specs.declared.command.Command.{Command}
use Rattle.pcef_model.specs.Setting.{Setting}
use Rattle.pcef_model.specs.ActiveRules.{Active}
use Rattle.pcef_model.specs.Generations.{Generation, made_by, oldest, slots_of}
use Rattle.pcef_model.specs.Entries.{Journal}
use Rattle.pcef_model.specs.Journals.{at, gen, slots, tables}
use Rattle.pcef_model.specs.Reports.{after_command}
use Rattle.pcef_model.proofs.Growth.{at_after_command}
use Rattle.pcef_model.proofs.AfterEvents.{tables_after}
use Rattle.pcef_session.specs.Shown.{Shows, StandsFor}
use Rattle.pcef_session.proofs.ShownSession.{session_later}
use Rattle.pcef_model.proofs.SlotPlaces.{Grows}
use Rattle.pcef_model.proofs.SlotsGrow.{shown_slots, slot_stays, slots_grow_by}

pub stands_later : (p : Setting) (j k : Journal) (g : ℕ) (e : TableEntry) (r : Active) → at p k g ≡ at p j g → Grows (slots p j) (slots p k) →
    Contains (at p j g).rules r → StandsFor p j g e r → StandsFor p k g e r
stands_later p j k g e r same grows there stands = record {
  rule_is = stands.rule_is;
  bearer_is = rw same stands.bearer_is;
  slot_is = stands.slot_is ∙ sym (slot_stays (slots p j) (slots p k) r.properties.key grows (shown_slots p j g r there));
  slot_low = stands.slot_low;
  counted_is = rw same stands.counted_is;
}

pub shows_later : (p : Setting) (j k : Journal) (g : ℕ) (t : TableValue) → at p k g ≡ at p j g → Grows (slots p j) (slots p k) → Shows p j g t → Shows p k g t
shows_later p j k g t same grows shows = record {
  number_is = shows.number_is;
  ordered = shows.ordered;
  session = session_later p j k g t.session same grows shows.session;
  each = λ r there.
      let before : Contains (at p j g).rules r = subst (λ (q : Generation). Contains q.rules r) same there in
      let w = shows.each r before in (w.0, w.1, stands_later p j k g w.0 r same grows before w.2);
  only = λ e there.
      let w = shows.only e there in
      (w.0, subst (λ (q : Generation). Contains q.rules w.0) (sym same) w.1, stands_later p j k g e w.0 same grows w.1 w.2);
}

-- where no table command came, all is as before
pub shows_same : (p : Setting) (j k : Journal) (g : ℕ) (t : TableValue) → tables k ≡ tables j → Shows p j g t → Shows p k g t
shows_same p j k g t same = shows_later p j k g t (ap (λ cs. made_by p (oldest g cs)) same) ([], ap (slots_of p) same ∙ sym (append-nil (slots p j)))

-- a command leaves the tables of the generations before it
pub shows_after_command : (p : Setting) (j : Journal) (c : Command) (g : ℕ) (t : TableValue) → g ≤ gen j → Shows p j g t → Shows p (entry.Command c ∷ j) g t
shows_after_command p j c g t within shows =
    shows_later p j (entry.Command c ∷ j) g t (at_after_command p j c g within) (slots_grow_by p j c) shows

-- the reports of a command leave the table that it makes
pub shows_after : (p : Setting) (j : Journal) (c : Command) (t : TableValue) → Shows p (entry.Command c ∷ j) (gen (entry.Command c ∷ j)) t → Shows p (after_command p j c) (gen (after_command p j c)) t
shows_after p j c t shows =
    subst (λ n. Shows p (after_command p j c) n t) (sym (ap length (tables_after p j c)))
    (shows_same p (entry.Command c ∷ j) (after_command p j c) (gen (entry.Command c ∷ j)) t (tables_after p j c) shows)
