-- What events leave in an archive.
use Rattle.std.proofs.Common.{◌≡◌, ◌∙◌, ◌<◌, ◌≤◌, ◌+◌, ℕ, Bool, true, false, List, [], ◌∷◌, ◌++◌, length, map, drop, get_or, refl, sym, ap, arith, Some, None, Ok, Err, inl, inr}
use Rattle.std.specs.Prelude.{Option, Result, min}
use Rattle.std.proofs.Math.Nat.{le-min, min-le_left, min-le_right}
use Rattle.std.specs.Option.{option_to_list}
use Rattle.std.proofs.lemmas.List.{drop_all, drop_more, length-map}
use Rattle.pcef_journaled.specs.Archived.{Archived}
use Rattle.pcef_model.specs.declared.answer.Accepted.{Accepted}
use Rattle.pcef_model.specs.declared.answer.AttachFault.{AttachFault}
use Rattle.pcef_model.specs.declared.answer.FlushRefusal.{FlushRefusal}
use Rattle.pcef_model.specs.declared.command.Command.{Command}
use Rattle.pcef_model.specs.declared.command.Command.TheVariants.{Activate}
use Rattle.pcef_model.specs.declared.entry.Entry.TheVariants as entry
use Rattle.pcef_model.specs.declared.row.Row.{Row}
use Rattle.pcef_model.specs.Entries.{Journal, commands, rows}
use Rattle.pcef_model.specs.Journals.{attached}
use Rattle.pcef_model.specs.Outcomes.{AttachStep, abandon_outcome, command_outcome, command_outcome_by}
use Rattle.pcef_model.specs.Refusals.{first_of, is_attached, refusals}
use Rattle.pcef_model.specs.Reports.{after_attach, after_command, after_flush, after_leave, thresholds, with_rows}
use Rattle.pcef_model.specs.Setting.{Setting}
use Rattle.pcef_model.proofs.JournalExtends.{attached_not, attached_once, rows_after_command, rows_after_flush}
use Rattle.pcef_session.specs.Answers.{Settles}
use Rattle.pcef_session.specs.declared.batch.Item.{Item}
use Rattle.pcef_session.specs.declared.prepared.Prepared.{Prepared}
use Rattle.pcef_session.specs.declared.prepared.Prepared.TheVariants.{Changing, Unchanged}
use Rattle.pcef_session.specs.Following.{row_of}
use Rattle.pcef_session.specs.Preparing.{IsPreparedFor}
use Rattle.pcef_session.specs.SessionModel.{HasAtLeast, SessionModel}
use Rattle.pcef_session.proofs.CommandAgrees.{commands_after, commands_told}
use Rattle.pcef_session.proofs.Leaving.{commands_with}
use Rattle.pcef_journaled.specs.Archiving.{Archives, change_of, entries_for, rows_added}

-- ---- the loop over rows
pub added_step : (items : List Item) (i : ℕ) (item : Item) (kept new all : List Row) → i < length items → item ≡ get_or items i item → new ≡ item.row ∷ kept →
    rows_added (map row_of (drop i items)) kept ≡ all → rows_added (map row_of (drop (i + 1) items)) new ≡ all
unfolding rows_added
added_step items i item kept new all within is new_is before =
    ap (rows_added (map row_of (drop (i + 1) items))) new_is
    ∙ sym (ap (λ xs. rows_added (map row_of xs) kept) (drop_more items i item within ∙ ap (λ (x : Item). x ∷ drop (i + 1) items) (sym is))) ∙ before

pub added_end : (items : List Item) (i : ℕ) (kept all : List Row) → length items ≤ i → rows_added (map row_of (drop i items)) kept ≡ all → kept ≡ all
unfolding rows_added
added_end items i kept all past before = sym (ap (λ xs. rows_added (map row_of xs) kept) (drop_all i items past)) ∙ before

-- ---- where neither rows nor commands came
pub archives_as : (j k : Journal) (a b : Archived) → rows k ≡ rows j → commands k ≡ commands j → b.rows ≡ a.rows → b.commands ≡ a.commands → Archives j a → Archives k b
archives_as j k a b rows_same commands_same kept_rows kept_commands is =
    record { rows_are = kept_rows ∙ is.rows_are ∙ sym rows_same; commands_are = kept_commands ∙ is.commands_are ∙ sym commands_same }

pub archives_same : (j k : Journal) (a b : Archived) → k ≡ j → b.rows ≡ a.rows → b.commands ≡ a.commands → Archives j a → Archives k b
archives_same j k a b same kept_rows kept_commands is = archives_as j k a b (ap rows same) (ap commands same) kept_rows kept_commands is

pub archives_attached : (j k : Journal) (a : Archived) (result : Result ℕ AttachFault) → AttachStep j result k → Archives j a → Archives k a
archives_attached j k a (Ok n) step is = let came : k ≡ after_attach j = (attached_once j k n step).1 in archives_as j k a a (ap rows came) (ap commands came) refl refl is
archives_attached j k a (Err f) step is = archives_same j k a a (attached_not j k f step) refl refl is

pub archives_abandoned : (j k : Journal) (a : Archived) (worker : ℕ) → k ≡ (abandon_outcome j worker).1 → Archives j a → Archives k a
archives_abandoned j k a worker left is = by (is_attached j worker) refl
  where
    by : (b : Bool) → is_attached j worker ≡ b → Archives k a
    by true there = let gone : k ≡ after_leave worker j = rw there at left in archives_as j k a a (ap rows gone) (ap commands gone) refl refl is
    by false away = let same : k ≡ j = rw away at left in archives_same j k a a same refl refl is

-- ---- rows
rows_with : (rs : List Row) (j : Journal) → rows (with_rows rs j) ≡ rows_added rs (rows j)
unfolding with_rows rows_added
rows_with [] j = refl
rows_with (r ∷ rs) j = rows_with rs (entry.Row r ∷ j)

commands_flushed : (p : Setting) (j : Journal) (rs : List Row) → commands (after_flush p j rs) ≡ commands j
commands_flushed p j [] = refl
commands_flushed p j (r ∷ rs) = commands_told p (thresholds p (with_rows (r ∷ rs) j)) (with_rows (r ∷ rs) j) ∙ commands_with j (r ∷ rs)

pub archives_flushed : (p : Setting) (j k : Journal) (a b : Archived) (rs : List Row) → k ≡ after_flush p j rs → b.rows ≡ rows_added rs a.rows → b.commands ≡ a.commands → Archives j a → Archives k b
archives_flushed p j k a b rs after kept_rows kept_commands is = record {
  rows_are = kept_rows ∙ ap (rows_added rs) is.rows_are ∙ sym (rows_with rs j) ∙ sym (rows_after_flush p j rs) ∙ sym (ap rows after);
  commands_are = kept_commands ∙ is.commands_are ∙ sym (commands_flushed p j rs) ∙ sym (ap commands after);
}

pub archives_finished : (p : Setting) (j k : Journal) (a b : Archived) (worker : ℕ) (rs : List Row) → k ≡ after_leave worker (after_flush p j rs) → b.rows ≡ rows_added rs a.rows → b.commands ≡ a.commands → Archives j a → Archives k b
archives_finished p j k a b worker rs after kept_rows kept_commands is =
    let m : Journal = after_flush p j rs in
    archives_as m k b b (ap rows after) (ap commands after) refl refl (archives_flushed p j m a b rs refl kept_rows kept_commands is)

-- ---- room
-- the session as it is seen, where an archive has this room
abbrev pub within : ℕ → SessionModel → SessionModel
within room s = record s { room = record { entries = min s.room.entries room; rules = s.room.rules } }

-- what is prepared for it is prepared for the session
pub prepared_within : (s : SessionModel) (room : ℕ) (d : Prepared) → IsPreparedFor (within room s) d → IsPreparedFor s d
prepared_within s room (Changing x) ready = record {
  accepted = ready.accepted;
  changing = ready.changing;
  table = ready.table;
  rule = ready.rule;
  bearer = ready.bearer;
  places = ready.places;
  key_places = ready.key_places;
  plan_is = ready.plan_is;
  has_room = omega (arith, ready.has_room, min-le_left s.room.entries room);
  has_place = ready.has_place;
}
prepared_within s room (Unchanged name) idle = record { accepted = idle.accepted; active = idle.active }

-- and the archive has room for it
pub room_for : (s : SessionModel) (room : ℕ) (d : Prepared) → IsPreparedFor (within room s) d → length (option_to_list (change_of d)) ≤ room
room_for s room (Changing x) ready = omega (arith, ready.has_room, min-le_right s.room.entries room)
room_for s room (Unchanged name) idle = omega arith

-- a command that was prepared for the session is prepared for it as it is seen, where the archive has room
pub prepared_seen : (s : SessionModel) (room count : ℕ) (d : Prepared) → IsPreparedFor s d → count ≡ length (attached s.journal) → entries_for d count ≤ room → IsPreparedFor (within room s) d
prepared_seen s room count (Changing x) ready many enough = record {
  accepted = ready.accepted;
  changing = ready.changing;
  table = ready.table;
  rule = ready.rule;
  bearer = ready.bearer;
  places = ready.places;
  key_places = ready.key_places;
  plan_is = ready.plan_is;
  has_room = le-min ready.has_room (omega (arith, many, enough));
  has_place = ready.has_place;
}
prepared_seen s room count (Unchanged name) idle many enough = record { accepted = idle.accepted; active = idle.active }

-- what was prepared before stays prepared where the room grows
pub prepared_later : (s t : SessionModel) (d : Prepared) → t.setting ≡ s.setting → t.journal ≡ s.journal → HasAtLeast s.room t.room → IsPreparedFor s d → IsPreparedFor t d
prepared_later s t (Changing x) setting journal more ready = record {
  accepted = rw (setting, journal) ready.accepted;
  changing = rw (setting, journal) ready.changing;
  table = rw (setting, journal) ready.table;
  rule = rw setting ready.rule;
  bearer = rw (setting, journal) ready.bearer;
  places = rw (setting, journal) ready.places;
  key_places = rw (setting, journal) ready.key_places;
  plan_is = rw (setting, journal) ready.plan_is;
  has_room = rw journal (omega (arith, ready.has_room, more.entries));
  has_place = omega (arith, ready.has_place, more.rules);
}
prepared_later s t (Unchanged name) setting journal more idle = record { accepted = rw (setting, journal) idle.accepted; active = rw (setting, journal) idle.active }

-- both rooms grow
pub within_grows : (s t : SessionModel) (room more : ℕ) → HasAtLeast s.room t.room → room ≤ more → HasAtLeast (within room s).room (within more t).room
within_grows s t room more session archive = record {
  entries = le-min (omega (arith, min-le_left s.room.entries room, session.entries)) (omega (arith, min-le_right s.room.entries room, archive));
  rules = session.rules;
}

-- ---- commands
pub settled_is : (s t : SessionModel) (d : Prepared) (told : Accepted) → IsPreparedFor s d → Settles s d told t →
    (rows t.journal ≡ rows s.journal) × (commands t.journal ≡ option_to_list (change_of d) ++ commands s.journal)
unfolding command_outcome
settled_is s t (Changing x) told ready does =
    let due : (command_outcome_by s.setting s.journal x.command (first_of (refusals s.setting s.journal x.command))).1 ≡ after_command s.setting s.journal x.command = rw (ready.accepted, ready.changing) refl in
    let is : t.journal ≡ after_command s.setting s.journal x.command = does.1 ∙ due in
    (ap rows is ∙ rows_after_command s.setting s.journal x.command, ap commands is ∙ commands_after s.setting s.journal x.command)
settled_is s t (Unchanged name) told ready does =
    let due : (command_outcome_by s.setting s.journal (Activate name) (first_of (refusals s.setting s.journal (Activate name)))).1 ≡ s.journal = rw (ready.accepted, ready.active) refl in
    let is : t.journal ≡ s.journal = does.1 ∙ due in
    (ap rows is, ap commands is)

pub archives_settled : (s t : SessionModel) (d : Prepared) (told : Accepted) (a b : Archived) → IsPreparedFor s d → Settles s d told t →
    b.rows ≡ a.rows → b.commands ≡ option_to_list (change_of d) ++ a.commands → Archives s.journal a → Archives t.journal b
archives_settled s t d told a b ready does kept_rows kept_commands is =
    let now = settled_is s t d told ready does in
    record {
      rows_are = kept_rows ∙ is.rows_are ∙ sym now.0;
      commands_are = kept_commands ∙ ap (λ cs. option_to_list (change_of d) ++ cs) is.commands_are ∙ sym now.1;
    }
