-- What always holds of the value behind the lock stays so as its session goes on.
use Rattle.std.proofs.Common.{◌≡◌, ◌∙◌, ◌≤◌, ◌+◌, ◌-◌, ℕ, suc, List, ◌++◌, length, refl, sym, ap, subst, arith, Ok, append-nil}
use Rattle.std.specs.Prelude.{IfSome}
use Rattle.std.specs.Arc.{arc_value}
use Rattle.std.specs.Option.{option_map, option_to_list}
use Rattle.pcef_table.specs.Tables.{IsTable, TableValue}
use Rattle.pcef_model.specs.declared.answer.Accepted.{Accepted}
use Rattle.pcef_model.specs.Outcomes.{AttachStep, Gives, command_outcome}
use Rattle.pcef_model.specs.Entries.{Journal, commands, rows}
use Rattle.pcef_model.specs.Journals.{attach_count}
use Rattle.pcef_model.specs.Lawful.{Lawful}
use Rattle.pcef_model.specs.Reports.{after_attach, after_command}
use Rattle.pcef_model.specs.Setting.{Setting}
use Rattle.pcef_model.proofs.JournalExtends.{attach_count_after_command, attached_once, extends_by_command, rows_after_command}
use Rattle.pcef_session.specs.declared.prepared.Prepared.{Prepared}
use Rattle.pcef_session.specs.declared.prepared.Prepared.TheVariants.{Changing, Unchanged}
use Rattle.pcef_session.specs.declared.prepared.PreparedChange.{PreparedChange}
use Rattle.pcef_session.specs.Preparing.{IsPreparedFor, IsReady, command_of, table_made}
use Rattle.pcef_session.specs.SessionModel.{SessionModel}
use Rattle.pcef_session.proofs.Acceptance.{changed_by, unchanged_by}
use Rattle.pcef_session.proofs.CommandAgrees.{commands_after}
use Rattle.pcef_share.specs.Amounts.{Account, command_ledger, plus}
use Rattle.pcef_handover.specs.Counting.{AreCounted, one_more}
use Rattle.pcef_lock.specs.Locked.{Locked}
use Rattle.pcef_lock.specs.Published.{ArePublished}
use Rattle.pcef_lock.specs.private.Soundness.{IsSound}
use Rattle.pcef_lock.proofs.Counted.{counted_command, counted_kept}
use Rattle.pcef_handover.proofs.Ledgers.{plus_none}
use Rattle.pcef_lock.proofs.Publications.{next_table, published_command, published_same}

abbrev pub locked : SessionModel → List TableValue → Account → ℕ → Locked
locked s ts b places = record { session = s; tables = ts; books = b; places = places }

-- what an event has to keep
pub sound_after : (p : Setting) (first : ℕ) (s t : SessionModel) (ts us : List TableValue) (b c : Account) (places free left : ℕ) → t.setting ≡ s.setting → ArePublished p t.journal first us → AreCounted p t.journal c.totals →
    c.issued ≡ attach_count t.journal + 1 → left + c.issued ≡ places + 1 → length (rows t.journal) ≤ p.rows → IsSound p first (locked s ts b places) free → IsSound p first (locked t us c places) left
sound_after p first s t ts us b c places free left setting published counted issued left_are few is = record {
  kept = record { setting_is = setting ∙ is.kept.setting_is; published = published; counted = counted };
  issued_is = issued;
  free_are = left_are;
  few_places = is.few_places;
  most_rows = is.most_rows;
  few_rows = few;
}

-- where the journal stays
pub sound_same : (p : Setting) (first : ℕ) (s t : SessionModel) (ts : List TableValue) (b : Account) (places free : ℕ) → t.setting ≡ s.setting → t.journal ≡ s.journal →
    IsSound p first (locked s ts b places) free → IsSound p first (locked t ts b places) free
sound_same p first s t ts b places free setting journal is =
    sound_after p first s t ts ts b b places free free setting
    (subst (λ j. ArePublished p j first ts) (sym journal) is.kept.published) (subst (λ j. AreCounted p j b.totals) (sym journal) is.kept.counted)
    (is.issued_is ∙ ap (λ j. attach_count j + 1) (sym journal)) is.free_are (subst (λ j. length (rows j) ≤ p.rows) (sym journal) is.few_rows) is

-- by the session's own setting
pub own_sound : (p : Setting) (first : ℕ) (s : SessionModel) (ts : List TableValue) (b : Account) (places free : ℕ) → IsSound p first (locked s ts b places) free → IsSound s.setting first (locked s ts b places) free
own_sound p first s ts b places free is = subst (λ q. IsSound q first (locked s ts b places) free) (sym is.kept.setting_is) is

-- ---- a command that is settled
sound_changed : (first : ℕ) (s t : SessionModel) (ts : List TableValue) (b : Account) (places free : ℕ) (d : PreparedChange) → Lawful s.setting s.journal → IsReady s d →
    t.journal ≡ after_command s.setting s.journal d.command → t.setting ≡ s.setting → IsSound s.setting first (locked s ts b places) free →
    IsSound s.setting first (locked t (ts ++ option_to_list (option_map (λ x. arc_value x) d.table)) (record b { totals = plus b.totals command_ledger 1 }) places) free
sound_changed first s t ts b places free d lawful ready journal setting is =
    let p : Setting = s.setting in
    let j : Journal = s.journal in
    let k : Journal = after_command p j d.command in
    let made = option_map (λ x. arc_value x) d.table in
    let c : Account = record b { totals = plus b.totals command_ledger 1 } in
    sound_after p first s t ts (ts ++ option_to_list made) b c places free free setting
    (subst (λ x. ArePublished p x first (ts ++ option_to_list made)) (sym journal) (published_command p j d.command first ts made ready.table is.kept.published))
    (subst (λ x. AreCounted p x c.totals) (sym journal) (counted_command p j d.command b.totals lawful (extends_by_command p j d.command).grows is.kept.counted))
    (is.issued_is ∙ ap (λ n. n + 1) (sym (attach_count_after_command p j d.command)) ∙ ap (λ x. attach_count x + 1) (sym journal))
    is.free_are (subst (λ x. length (rows x) ≤ p.rows) (sym journal) (subst (λ rs. length rs ≤ p.rows) (sym (rows_after_command p j d.command)) is.few_rows)) is

pub sound_settled : (p : Setting) (first : ℕ) (s t : SessionModel) (ts : List TableValue) (b : Account) (places free : ℕ) (d : Prepared) (a : Accepted) → Lawful s.setting s.journal → IsPreparedFor s d →
    Gives (command_outcome s.setting s.journal (command_of d)) (Ok a) t.journal → t.setting ≡ s.setting → IsSound p first (locked s ts b places) free →
    IsSound p first (locked t (ts ++ option_to_list (table_made d)) (record b { totals = one_more a.unchanged b.totals }) places) free
sound_settled p first s t ts b places free (Changing change) a lawful ready gives setting is =
    let done = changed_by s.setting s.journal change.command a t.journal ready.accepted ready.changing gives in
    let after = sound_changed first s t ts b places free change lawful ready done.1 setting (own_sound p first s ts b places free is) in
    rw done.0 (subst (λ q. IsSound q first (locked t (ts ++ option_to_list (option_map (λ x. arc_value x) change.table)) (record b { totals = plus b.totals command_ledger 1 }) places) free) is.kept.setting_is after)
sound_settled p first s t ts b places free (Unchanged name) a lawful idle gives setting is =
    let done = unchanged_by s.setting s.journal name a t.journal idle.accepted idle.active gives in
    rw (done.0, append-nil ts) (sound_same p first s t ts b places free setting done.1 is)

-- the table of a prepared command, if it makes one, is of the next generation
pub next_published : (p : Setting) (first : ℕ) (s : SessionModel) (ts : List TableValue) (b : Account) (places free : ℕ) (d : Prepared) → IsSound p first (locked s ts b places) free → IsPreparedFor s d →
    IfSome (table_made d) (λ t. (t.number ≡ first + length ts) × IsTable p.catalog t.entries)
next_published p first s ts b places free (Changing change) is ready =
    let own = own_sound p first s ts b places free is in
    subst (λ (q : Setting). IfSome (option_map (λ x. arc_value x) change.table) (λ t. (t.number ≡ first + length ts) × IsTable q.catalog t.entries)) is.kept.setting_is
    (next_table s.setting s.journal change.command first ts (option_map (λ x. arc_value x) change.table) ready.table own.kept.published)
next_published p first s ts b places free (Unchanged name) is idle = tt

-- the commands that the journal gained by one that was settled: one, or none where it changed nothing
pub settled_gains : (s t : SessionModel) (d : Prepared) (a : Accepted) (m n : ℕ) → IsPreparedFor s d → Gives (command_outcome s.setting s.journal (command_of d)) (Ok a) t.journal →
    m ≡ length (commands s.journal) → n ≡ length (commands t.journal) → (m ≤ n) × ((xs : List ℕ) → plus xs command_ledger (n - m) ≡ one_more a.unchanged xs)
settled_gains s t (Changing change) a m n ready gives m_is n_is =
    let done = changed_by s.setting s.journal change.command a t.journal ready.accepted ready.changing gives in
    let more : length (commands t.journal) ≡ suc (length (commands s.journal)) = ap (λ k. length (commands k)) done.1 ∙ ap length (commands_after s.setting s.journal change.command) in
    let one : n - m ≡ 1 = omega (arith, more, m_is, n_is) in
    (omega (arith, more, m_is, n_is), λ xs. rw done.0 (ap (plus xs command_ledger) one))
settled_gains s t (Unchanged name) a m n idle gives m_is n_is =
    let done = unchanged_by s.setting s.journal name a t.journal idle.accepted idle.active gives in
    let same : length (commands t.journal) ≡ length (commands s.journal) = ap (λ k. length (commands k)) done.1 in
    let none : n - m ≡ 0 = omega (arith, same, m_is, n_is) in
    (omega (arith, same, m_is, n_is), λ xs. rw done.0 (ap (plus xs command_ledger) none ∙ plus_none xs command_ledger))

-- ---- a worker is attached
pub sound_attached : (p : Setting) (first : ℕ) (s t : SessionModel) (ts : List TableValue) (b c : Account) (places free left number : ℕ) → AttachStep s.journal (Ok number) t.journal → t.setting ≡ s.setting →
    c ≡ record b { issued = b.issued + 1 } → left + 1 ≡ free → IsSound p first (locked s ts b places) free → IsSound p first (locked t ts c places) left
unfolding attach_count
sound_attached p first s t ts b c places free left number attaches setting books one is =
    let come = attached_once s.journal t.journal number attaches in
    let j : Journal = s.journal in
    let k : Journal = after_attach j in
    let issued : c.issued ≡ b.issued + 1 = ap (λ (x : Account). x.issued) books in
    let count : attach_count k ≡ attach_count j + 1 = refl in
    sound_after p first s t ts ts b c places free left setting
    (subst (λ x. ArePublished p x first ts) (sym come.1) (published_same p j k first ts refl is.kept.published))
    (subst (λ x. AreCounted p x c.totals) (sym come.1) (subst (AreCounted p k) (sym (ap (λ (x : Account). x.totals) books)) (counted_kept p j k b.totals refl refl refl is.kept.counted)))
    (issued ∙ ap (λ n. n + 1) is.issued_is ∙ ap (λ x. attach_count x + 1) (sym come.1)) (omega (arith, issued, one, is.free_are)) (subst (λ x. length (rows x) ≤ p.rows) (sym come.1) is.few_rows) is
