-- Keys are switched on again, and events subscribed again.
use Rattle.std.proofs.Common.{◌≡◌, ◌∙◌, ◌≤◌, ◌<◌, ◌+◌, ℕ, suc, Bool, true, false, List, [], ◌∷◌, ◌++◌, Contains, Some, None, length, length-append, map, nat_lt, refl, sym, ap, subst, arith, inl, inr}
use Rattle.std.specs.Prelude.{Option, ◌==◌, if◌then◌else◌}
use Rattle.std.proofs.lemmas.Bool.{and_left, cases_Bool, false_from_ne_true, lt-leb, ltb-true, ne_eqb, or_cases}
use Rattle.std.proofs.lemmas.List.{append_assoc}
use Rattle.pcef_model.specs.declared.answer.Refusal.{Refusal}
use Rattle.pcef_model.specs.declared.answer.Refusal.TheVariants as refusal
use Rattle.pcef_model.specs.declared.command.Command.{Command}
use Rattle.pcef_model.specs.declared.command.Command.TheVariants.{Close, Monitor, Triggers}
use Rattle.pcef_model.specs.declared.entry.Entry.TheVariants as entry
use Rattle.pcef_model.specs.declared.level.Level.{Level}
use Rattle.pcef_model.specs.declared.level.Level.TheVariants.{Rule, Session}
use Rattle.pcef_model.specs.declared.trigger.TriggerSet.{TriggerSet}
use Rattle.pcef_model.specs.ActiveRules.{has_key}
use Rattle.pcef_model.specs.Commands.{add_key, at_session_level, is_among}
use Rattle.pcef_model.specs.Entries.{Journal}
use Rattle.pcef_model.specs.Generations.{slots_of}
use Rattle.pcef_model.specs.Journals.{grant, level_of, now, slots, unreported}
use Rattle.pcef_model.specs.Lawful.{Lawful, by_command}
use Rattle.pcef_model.specs.Refusals.{Conditions, clashes, common_refusals, finds_no_slot, first_of, limited_count, refusals}
use Rattle.pcef_model.specs.Reports.{plan}
use Rattle.pcef_model.specs.Setting.{Setting, same_name}
use Rattle.pcef_model.proofs.Levels.{among_add, session_now}
use Rattle.pcef_model.proofs.RulesAfter.{filter_all}
use Rattle.pcef_model.proofs.RulesNow.{rules_now}
use Rattle.pcef_model.specs.Named.{has_name}
use Rattle.pcef_model.proofs.Members.{first_there, later_there}
use Rattle.pcef_model.proofs.Sameness.{same_name_is, same_name_self}
use Rattle.pcef_base.proofs.Tests.{contrary}
use Rattle.pcef_renewal.specs.Accepting.{AreTaken, IsTaken, entered}
use Rattle.pcef_renewal.specs.Renewal.{grant_after, monitor_again}
use Rattle.pcef_renewal.proofs.Fitting.{KeysOnce, among_to, none_at, once_next}
use Rattle.pcef_renewal.proofs.Playing.{Playing, both_none, common_none, finds_slot, next_none, slots_after_key}
use Rattle.pcef_renewal.proofs.Quiet.{NoneReached, none_ends, quiet_by}

-- ---- a key
-- a grant is never 0
pub some_grant : (g : Option ℕ) (octets : ℕ) → 1 ≤ grant_after g octets
some_grant None octets = omega arith
some_grant (Some amount) octets =
    elim (cases_Bool (nat_lt octets amount)) [
      | inl less ↦ let below = ltb-true octets amount less in rw less (omega (arith, below))
      | inr used ↦ rw used (omega arith)
    ]

is_session : (b : Bool) → Session ≡ (if b then Session else Rule) → b ≡ true
is_session true is = refl
is_session false is = absurd cc

-- the keys of session level are those of the old session
session_after : (p : Setting) (j k : Journal) (n : ℕ) → Playing p j k n → (key : List ℕ) (amount : ℕ) (level : Level) → level ≡ level_of (now p j) key →
    (other : List ℕ) → is_among other (at_session_level (Monitor key amount level) (now p k).session) ≡ true → is_among other (now p j).session ≡ true
session_after p j k n playing key amount Rule is other there = playing.session other there
session_after p j k n playing key amount Session is other there =
    elim (or_cases _ _ (sym (among_add other key (now p k).session) ∙ there)) [
      | inl old ↦ playing.session other old
      | inr same ↦
          subst (λ (x : List ℕ). is_among x (now p j).session ≡ true) (sym (same_name_is other key same)) (is_session (is_among key (now p j).session) is)
    ]

module _ (p : Setting) (j k : Journal) (n : ℕ) (playing : Playing p j k n) (lawful : Lawful p j) (room : n < p.commands) where
  take_monitor : (key : List ℕ) (amount : ℕ) (level : Level) → 1 ≤ amount → is_among key (slots p k) ≡ false → is_among key (slots p j) ≡ true → level ≡ level_of (now p j) key →
      IsTaken p k (Monitor key amount level) × Playing p j (entry.Command (Monitor key amount level) ∷ k) (suc n)
  unfolding grant limited_count slots_of
  take_monitor key amount level some new known level_is =
      let c : Command = Monitor key amount level in
      let slot : Conditions Refusal = (finds_no_slot p k (Some key), refusal.KeysFull) ∷ [] in
      let own : first_of ((amount == 0, refusal.ZeroGrant) ∷ (clashes p k level (Some key), refusal.LevelClash) ∷ slot) ≡ None =
      next_none (amount == 0) refusal.ZeroGrant ((clashes p k level (Some key), refusal.LevelClash) ∷ slot) (ne_eqb amount 0 (λ zero. omega (arith, zero, some)))
      (next_none (clashes p k level (Some key)) refusal.LevelClash slot (and_left _ _ new)
      (next_none (finds_no_slot p k (Some key)) refusal.KeysFull [] (finds_slot p j k n playing lawful key known) refl)) in
      let accepted : first_of (refusals p k c) ≡ None =
      both_none (common_refusals p k) ((amount == 0, refusal.ZeroGrant) ∷ (clashes p k level (Some key), refusal.LevelClash) ∷ slot) (common_none p j k n playing room) own in
      let far : NoneReached (entry.Command c ∷ k) =
      (λ other. elim (cases_Bool (same_name other key)) [
        | inl same ↦ rw same (lt-leb amount 0 (omega (arith, some)))
        | inr differs ↦ rw differs (playing.far other)
      ]) in
      let planned : plan p k c ≡ [] =
      ap (λ es. es ++ []) (none_ends p k c (λ other had. ap (has_key other) (filter_all (now p k).rules) ∙ had)) in
      let quiet = quiet_by p k c playing.no_rows far planned in (
        record { accepted = accepted; changing = refl; quiet = quiet },
        record {
          lawful = subst (Lawful p) quiet (by_command k c playing.lawful accepted refl);
          no_rows = playing.no_rows;
          open_yet = playing.open_yet;
          goes_on = playing.goes_on;
          far = far;
          count = let count = playing.count in omega (arith, count);
          slots_there = slots_after_key p j k n playing (Some key) known;
          session = λ other there. session_after p j k n playing key amount level level_is other (ap (is_among other) (sym (session_now p k c)) ∙ there);
        },
      )

  -- ---- subscriptions
  pub take_triggers : (set : TriggerSet) → IsTaken p k (Triggers set) × Playing p j (entry.Command (Triggers set) ∷ k) (suc n)
  unfolding grant limited_count slots_of
  take_triggers set =
      let c : Command = Triggers set in
      let accepted : first_of (refusals p k c) ≡ None = both_none (common_refusals p k) [] (common_none p j k n playing room) refl in
      let planned : plan p k c ≡ [] =
      ap (λ es. es ++ []) (none_ends p k c (λ other had. ap (has_key other) (filter_all (now p k).rules) ∙ had)) in
      let quiet = quiet_by p k c playing.no_rows playing.far planned in (
        record { accepted = accepted; changing = refl; quiet = quiet },
        record {
          lawful = subst (Lawful p) quiet (by_command k c playing.lawful accepted refl);
          no_rows = playing.no_rows;
          open_yet = playing.open_yet;
          goes_on = playing.goes_on;
          far = playing.far;
          count = let count = playing.count in omega (arith, count);
          slots_there = playing.slots_there;
          session = playing.session;
        },
      )

-- ---- the end
-- a close takes no rule where there is none
pub take_close : (p : Setting) (j k : Journal) (n : ℕ) → Playing p j k n → (now p k).rules ≡ [] → IsTaken p k Close
unfolding grant
take_close p j k n playing empty =
    let accepted : first_of (refusals p k Close) ≡ None = rw (playing.goes_on, playing.open_yet) refl in
    let planned : plan p k Close ≡ [] =
    ap (λ es. es ++ []) (none_ends p k Close (λ other had. let none : false ≡ true = sym (ap (has_key other) empty) ∙ had in absurd cc)) in
    record { accepted = accepted; changing = refl; quiet = quiet_by p k Close playing.no_rows playing.far planned }

-- ---- all keys that are on
pub absent_next : (key : List ℕ) (done rest : List (List ℕ)) → KeysOnce (done ++ key ∷ rest) → is_among key done ≡ false
absent_next key done rest once =
    false_from_ne_true (is_among key done) (λ there.
    contrary (same_name key key) (same_name_self key) (none_at (has_name (λ (x : List ℕ). x) key) done key (once_next (λ (x : List ℕ). x) done key rest once) (among_to key done there)))

slots_then : (p : Setting) (k : Journal) (key : List ℕ) (amount : ℕ) (level : Level) (done : List (List ℕ)) → slots p k ≡ done → is_among key done ≡ false →
    slots p (entry.Command (Monitor key amount level) ∷ k) ≡ done ++ key ∷ []
unfolding slots_of
slots_then p k key amount level done slots_are new = ap (add_key key) slots_are ∙ (rw new refl)

pub record MonitorsTaken (p : Setting) (j k : Journal) (n : ℕ) (cs : List Command) : Type 0 where
  pub taken : AreTaken p k cs
  pub playing : Playing p j (entered cs k) n
  pub empty : (now p (entered cs k)).rules ≡ []

pub take_monitors : (p : Setting) (j : Journal) → Lawful p j → (done rest : List (List ℕ)) (k : Journal) → Playing p j k (length done) → slots p k ≡ done → (now p k).rules ≡ [] →
    KeysOnce (done ++ rest) → ((key : List ℕ) → Contains rest key → is_among key (slots p j) ≡ true) → length done + length rest ≤ p.commands →
    MonitorsTaken p j k (length done + length rest) (map (monitor_again p j) rest)
take_monitors p j lawful done [] k playing slots_are empty once known room =
    record { taken = tt; playing = subst (Playing p j k) (omega arith) playing; empty = empty }
take_monitors p j lawful done (key ∷ rest) k playing slots_are empty once known room =
    let c : Command = monitor_again p j key in
    let new = absent_next key done rest once in
    let one =
    take_monitor p j k (length done) playing lawful (omega (arith, room)) key (grant_after (grant j key) (unreported p j key)) (level_of (now p j) key)
    (some_grant (grant j key) (unreported p j key)) (ap (is_among key) slots_are ∙ new) (known key (first_there key rest)) refl in
    let more : length (done ++ key ∷ []) ≡ suc (length done) = (let grown = length-append done (key ∷ []) in omega (arith, grown)) in
    let later =
    take_monitors p j lawful (done ++ key ∷ []) rest (entry.Command c ∷ k) (subst (Playing p j (entry.Command c ∷ k)) (sym more) one.1)
    (slots_then p k key (grant_after (grant j key) (unreported p j key)) (level_of (now p j) key) done slots_are new)
    (rules_now p k c ∙ filter_all (now p k).rules ∙ empty) (subst KeysOnce (sym (append_assoc done (key ∷ []) rest)) once) (λ x there. known x (later_there key rest x there))
    (omega (arith, more, room)) in
    record { taken = (one.0, later.taken); playing = subst (Playing p j (entered (map (monitor_again p j) rest) (entry.Command c ∷ k))) (omega (arith, more)) later.playing; empty = later.empty }
