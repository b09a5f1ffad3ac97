-- What is shown is as the journal says.
use Rattle.std.proofs.Common.{◌≡◌, ◌∙◌, ◌++◌, List, [], ◌∷◌, Bool, ap, arith, codes, decimal, filter_map, map, refl, subst, sym, Result, OnOk}
use Rattle.std.specs.List.{AllByRecursion}
use Rattle.json.specs.Print.{escape, escape_byte}
use Rattle.serde_json.specs.Data.{array, boolean}
use Rattle.serde_json.specs.View.{items_of}
use Rattle.serde_json.specs.Written.{compact_text, items_text}
use Rattle.pcef_model.specs.Entries.{Journal}
use Rattle.pcef_model.specs.Commands.{is_among}
use Rattle.pcef_model.specs.Journals.{gen, level_of, now, reported, unreported}
use Rattle.pcef_model.specs.Setting.{Setting}
use Rattle.pcef_model.specs.declared.level.Level.{Level}
use Rattle.pcef_model.specs.declared.level.Level.TheVariants.{Rule, Session}
use Rattle.pcef_usage.specs.declared.usage.KeyState.{KeyState}
use Rattle.pcef_session.specs.Agreement.{KeyAgrees, KeysAgree}
use Rattle.pcef_table.specs.declared.entry.TableEntry.{TableEntry}
use Rattle.pcef_bearer.specs.declared.bearers.Bound.{Bound}
use Rattle.pcef_bearer.specs.Bindings.{Binding}
use Rattle.std.specs.Prelude.{ℕ}
use Rattle.pcef_bearer.specs.Standing.{binding_of, bound_of}
use Rattle.pcef_answer.proofs.WrittenTexts.{last_three, last_two}
use Rattle.pcef_answer.specs.ShowAnswers.{active_data, bearer_data_of, bearers_data, key_data, journal_key_data, kept_data, level_text, session_data, state_data, states_data, journal_data}

state_told : (p : Setting) (j : Journal) (s : KeyState) → KeyAgrees p j s → state_data s ≡ journal_key_data p j s.key
state_told p j s agrees =
    let on = is_among s.key (now p j).on in
    let rest : s.unreported ≡ unreported p j s.key = omega (arith, agrees.reported_is, agrees.counted_is) in
    let level = level_of (now p j) s.key in
    ap (λ l. key_data s.key l s.on s.reported s.unreported) agrees.level_is
    ∙ ap (λ on. key_data s.key level on s.reported s.unreported) agrees.on_is
    ∙ ap (λ n. key_data s.key level on n s.unreported) agrees.reported_is
    ∙ ap (λ n. key_data s.key level on (reported j s.key) n) rest

after_reports : (p : Setting) (j : Journal) (states : List KeyState) → AllByRecursion (KeyAgrees p j) states → map state_data states ≡ map (journal_key_data p j) (map (λ s. s.key) states)
after_reports p j [] all = refl
after_reports p j (s ∷ states) all =
    ap (λ d. d ∷ map state_data states) (state_told p j s all.0) ∙ ap (λ ds. journal_key_data p j s.key ∷ ds) (after_reports p j states all.1)

pub kept_told : (p : Setting) (j : Journal) (entries : List TableEntry) (binding : Binding) (generation : ℕ) (keys : List KeyState) → binding ≡ binding_of p (now p j) → generation ≡ gen j → KeysAgree p j keys →
    kept_data p.catalog entries binding.bound generation keys ≡ journal_data p j entries
kept_told p j entries binding generation keys binding_is generation_is agrees =
    let active = active_data p.catalog entries in
    let bearers = bearers_data (bound_of (now p j) (now p j).rules) in
    ap (λ (b : Binding). session_data active (bearers_data b.bound) generation (states_data keys)) binding_is
    ∙ ap (λ n. session_data active bearers n (states_data keys)) generation_is
    ∙ ap (λ ds. session_data active bearers (gen j) (array (items_of ds))) (after_reports p j keys agrees.usage_is ∙ ap (map (journal_key_data p j)) agrees.keys_are)

-- ---- the bearers of some ids, up to the closing bracket
abbrev pub bearers_text : List Bound → Bool → List ℕ → List ℕ
bearers_text bound later ids = items_text later (items_of (filter_map (bearer_data_of bound) ids))

-- the text of a key, piece by piece
pub key_written : (key : List ℕ) (level : Level) (on : Bool) (reported unreported : ℕ) →
    compact_text (key_data key level on reported unreported)
    ≡ (codes "{\"key\":\"" ++ (escape key ++ codes "\"")) ++ (level_text level ++ ((codes ",\"on\":" ++ compact_text (boolean on))
    ++ ((codes ",\"reported\":" ++ decimal reported) ++ ((codes ",\"unreported\":" ++ decimal unreported) ++ codes "}"))))
unfolding escape_byte
key_written key Rule on reported unreported = refl
key_written key Session on reported unreported = refl

-- a key that was pushed piece by piece, behind a comma or none
pub key_pushed : {A E : Type 0} (result : Result A E) (s u comma key : List ℕ) (level : Level) (on : Bool) (reported unreported : ℕ) →
    OnOk result (u ≡ s ++ (comma ++ ((codes "{\"key\":\"" ++ (escape key ++ codes "\"")) ++ (level_text level ++ ((codes ",\"on\":" ++ compact_text (boolean on))
    ++ ((codes ",\"reported\":" ++ decimal reported) ++ ((codes ",\"unreported\":" ++ decimal unreported) ++ codes "}")))))))
    → OnOk result (u ≡ s ++ (comma ++ compact_text (key_data key level on reported unreported)))
key_pushed result s u comma key level on reported unreported pushed =
    subst (λ x. OnOk result (u ≡ s ++ (comma ++ x))) (sym (key_written key level on reported unreported)) pushed

pub key_whole : {A E : Type 0} (result : Result A E) (s t u v w x y comma key : List ℕ) (level : Level) (on : Bool) (reported unreported : ℕ) →
    t ≡ s ++ comma → u ≡ t ++ (codes "{\"key\":\"" ++ (escape key ++ codes "\"")) → v ≡ u ++ level_text level → w ≡ v ++ (codes ",\"on\":" ++ compact_text (boolean on))
    → x ≡ w ++ (codes ",\"reported\":" ++ decimal reported) → OnOk result (y ≡ x ++ ((codes ",\"unreported\":" ++ decimal unreported) ++ codes "}"))
    → OnOk result (y ≡ s ++ (comma ++ compact_text (key_data key level on reported unreported)))
key_whole result s t u v w x y comma key level on reported unreported a b c d e f =
    let end = last_three result v w x y (codes ",\"on\":" ++ compact_text (boolean on)) (codes ",\"reported\":" ++ decimal reported) ((codes ",\"unreported\":" ++ decimal unreported) ++ codes "}") d e f in
    let rest = last_two result u v y (level_text level) ((codes ",\"on\":" ++ compact_text (boolean on)) ++ ((codes ",\"reported\":" ++ decimal reported) ++ ((codes ",\"unreported\":" ++ decimal unreported) ++ codes "}"))) c end in
    key_pushed result s y comma key level on reported unreported (last_three result s t u y comma (codes "{\"key\":\"" ++ (escape key ++ codes "\"")) _ a b rest)
