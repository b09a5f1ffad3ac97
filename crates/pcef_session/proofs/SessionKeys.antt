-- The flags of slots that a table shows, slot by slot as the statement has them, and key by key.
use Rattle.std.proofs.Common.{◌≡◌, ◌∙◌, ◌<◌, ◌&&◌, ℕ, Bool, true, false, List, [], Some, None, get_or, length, refl, sym, ap}
use Rattle.std.specs.Prelude.{Option, slice_get}
use Rattle.std.specs.Option.{option_map_or}
use Rattle.std.proofs.lemmas.Bool.{false_from_ne_true}
use Rattle.std.proofs.lemmas.Option.{slice_get-get_or, slice_get_within}
use Rattle.pcef_table.specs.SessionSlots.{slots_up}
use Rattle.pcef_model.specs.Setting.{Setting, most_keys}
use Rattle.pcef_model.specs.Commands.{is_among}
use Rattle.pcef_model.specs.Generations.{oldest, slots_of}
use Rattle.pcef_model.specs.Entries.{Journal}
use Rattle.pcef_model.specs.Journals.{at, slots, tables}
use Rattle.pcef_model.specs.Slots.{place_of}
use Rattle.pcef_model.proofs.SlotWords.{IsWithin, has_one_of}
use Rattle.pcef_model.proofs.Levels.{stranger_level}
use Rattle.pcef_model.proofs.SlotPlaces.{more_among, place_there}
use Rattle.pcef_model.proofs.SlotsGrow.{oldest_grow}
use Rattle.pcef_model.proofs.SlotsOf.{key_at, slots_once}
use Rattle.pcef_session.specs.Shown.{ShowsSessionKeys, is_session_on}
use Rattle.pcef_session.proofs.SessionFlags.{has_at, has_none, is_up, up_within, within_up}

-- the same of keys: the slots that are up are those of keys, and the keys that have them are of session level and on
pub record ShowsByKey (p : Setting) (j : Journal) (g : ℕ) (flags : List Bool) : Type 0 where
  pub eight : length flags ≡ most_keys
  pub within : IsWithin (slots p j) (slots_up flags)
  pub on_is : (key : List ℕ) → is_session_on (at p j g) key ≡ has_one_of (slots p j) (slots_up flags) key

-- a key without a place is of session level in no generation
stranger : (p : Setting) (j : Journal) (g : ℕ) (key : List ℕ) → place_of key (slots p j) ≡ None → is_session_on (at p j g) key ≡ false
stranger p j g key none =
    let grown = oldest_grow p g (tables j) in
    let before : is_among key (slots_of p (oldest g (tables j))) ≡ false = false_from_ne_true (is_among key (slots_of p (oldest g (tables j)))) (λ there.
    let later : is_among key (slots p j) ≡ true = ap (is_among key) grown.1 ∙ more_among key (slots_of p (oldest g (tables j))) grown.0 there in
    let w = place_there key (slots p j) later in
    let e : None ≡ Some w.0 = sym none ∙ w.1 in cc) in
    ap (λ b. b && is_among key (at p j g).on) (stranger_level p (oldest g (tables j)) key before)

-- ---- from one to the other
pub by_key : (p : Setting) (j : Journal) (g : ℕ) (flags : List Bool) → ShowsSessionKeys p j g flags → ShowsByKey p j g flags
by_key p j g flags shows = record {
  eight = shows.eight;
  within = within_up (slots p j) flags (λ m is. inside m (slice_get (slots p j) m) refl (sym (shows.up_is m) ∙ is));
  on_is = λ key. from key (place_of key (slots p j)) refl;
}
  where
    inside : (m : ℕ) (o : Option (List ℕ)) → slice_get (slots p j) m ≡ o → option_map_or (is_session_on (at p j g)) (slice_get (slots p j) m) false ≡ true → m < length (slots p j)
    inside m None none is = (let off : false ≡ true = sym (ap (λ o. option_map_or (is_session_on (at p j g)) o false) none) ∙ is in absurd cc)
    inside m (Some key) some is = slice_get_within (slots p j) m key some

    from : (key : List ℕ) (o : Option ℕ) → place_of key (slots p j) ≡ o → is_session_on (at p j g) key ≡ has_one_of (slots p j) (slots_up flags) key
    from key None none = stranger p j g key none ∙ sym (has_none (slots p j) (slots_up flags) key none)
    from key (Some n) some =
        sym (has_at (slots p j) (slots_up flags) key n some ∙ is_up n flags ∙ shows.up_is n
        ∙ ap (λ o. option_map_or (is_session_on (at p j g)) o false) (key_at key (slots p j) n some))

pub by_slot : (p : Setting) (j : Journal) (g : ℕ) (flags : List Bool) → ShowsByKey p j g flags → ShowsSessionKeys p j g flags
by_slot p j g flags shows = record {
  eight = shows.eight;
  up_is = λ n. from n (slice_get (slots p j) n) refl;
}
  where
    from : (n : ℕ) (o : Option (List ℕ)) → slice_get (slots p j) n ≡ o → get_or flags n false ≡ option_map_or (is_session_on (at p j g)) (slice_get (slots p j) n) false
    from n None none =
        false_from_ne_true (get_or flags n false) (λ up.
        let e : None ≡ Some (get_or (slots p j) n []) = sym none ∙ slice_get-get_or (slots p j) n [] (up_within (slots p j) flags n shows.within up) in cc)
        ∙ sym (ap (λ o. option_map_or (is_session_on (at p j g)) o false) none)
    from n (Some key) some =
        sym (ap (λ o. option_map_or (is_session_on (at p j g)) o false) some ∙ shows.on_is key
        ∙ has_at (slots p j) (slots_up flags) key n (slots_once p (tables j) n key some) ∙ is_up n flags)
