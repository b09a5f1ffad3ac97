-- The slots of keys: they stay where they are, and each active rule's key has one.
use Rattle.std.proofs.Common.{◌≡◌, ◌∙◌, ℕ, suc, true, false, List, [], ◌∷◌, ◌++◌, refl, sym, ap, arith, inl, inr, Some, None, append-nil}
use Rattle.std.specs.Prelude.{Option}
use Rattle.std.specs.Option.{option_map}
use Rattle.std.proofs.lemmas.Bool.{cases_Bool, or_left}
use Rattle.pcef_model.specs.declared.command.Command.{Command}
use Rattle.pcef_model.specs.Setting.{Setting, same_name}
use Rattle.pcef_model.specs.Generations.{add_if_some, slots_of}
use Rattle.pcef_model.specs.Commands.{add_key, is_among, key_named}
use Rattle.pcef_model.proofs.Sameness.{same_name_is, same_name_of}
use Rattle.pcef_model.specs.Slots.{place_of}

-- ---- places in a list of keys
pub place_there : (key : List ℕ) (keys : List (List ℕ)) → is_among key keys ≡ true → (n : ℕ) × (place_of key keys ≡ Some n)
place_there key [] there = absurd cc
place_there key (k ∷ keys) there =
    elim (cases_Bool (same_name key k)) [
      | inl same ↦ (0, rw same refl)
      | inr differs ↦ let r = place_there key keys (rw differs at there) in (suc r.0, rw (differs, r.1) refl)
    ]

-- a place stays as keys come
pub place_grown : (key : List ℕ) (keys more : List (List ℕ)) → is_among key keys ≡ true → place_of key (keys ++ more) ≡ place_of key keys
place_grown key [] more there = absurd cc
place_grown key (k ∷ keys) more there =
    elim (cases_Bool (same_name key k)) [
      | inl same ↦ rw same refl
      | inr differs ↦ let later : is_among key keys ≡ true = rw differs at there in rw differs (ap (option_map (λ n. suc n)) (place_grown key keys more later))
    ]

pub suc_of : (o : Option ℕ) (n : ℕ) → option_map (λ m. suc m) o ≡ Some n → (m : ℕ) × (o ≡ Some m) × (n ≡ suc m)
suc_of None n is = absurd cc
suc_of (Some m) n is = (m, refl, cc)

-- one place has one key
pub place_once : (a b : List ℕ) (keys : List (List ℕ)) (n : ℕ) → place_of a keys ≡ Some n → place_of b keys ≡ Some n → a ≡ b
place_once a b [] n a_is b_is = absurd cc
place_once a b (k ∷ keys) n a_is b_is =
    elim (cases_Bool (same_name a k)) [
      | inl a_here ↦
          let zero_is : Some 0 ≡ Some n = rw a_here at a_is in
          elim (cases_Bool (same_name b k)) [
            | inl b_here ↦ same_name_is a k a_here ∙ sym (same_name_is b k b_here)
            | inr b_later ↦ let w = suc_of (place_of b keys) n (rw b_later at b_is) in absurd cc
          ]
      | inr a_later ↦
          let v = suc_of (place_of a keys) n (rw a_later at a_is) in
          elim (cases_Bool (same_name b k)) [
            | inl b_here ↦ let zero_is : Some 0 ≡ Some n = rw b_here at b_is in absurd cc
            | inr b_later ↦
                let w = suc_of (place_of b keys) n (rw b_later at b_is) in
                place_once a b keys v.0 v.1 (w.1 ∙ ap (λ (m : ℕ). Some m) (let e : suc w.0 ≡ suc v.0 = sym w.2 ∙ v.2 in omega (arith, e)))
          ]
    ]

-- ---- keys that come
pub more_among : (key : List ℕ) (keys more : List (List ℕ)) → is_among key keys ≡ true → is_among key (keys ++ more) ≡ true
more_among key [] more there = absurd cc
more_among key (k ∷ keys) more there =
    elim (cases_Bool (same_name key k)) [
      | inl same ↦ rw same refl
      | inr differs ↦ let later : is_among key keys ≡ true = rw differs at there in rw differs (more_among key keys more later)
    ]

last_among : (key : List ℕ) (keys : List (List ℕ)) → is_among key (keys ++ key ∷ []) ≡ true
last_among key [] = or_left (same_name key key) false (same_name_of key key refl)
last_among key (k ∷ keys) =
    elim (cases_Bool (same_name key k)) [ inl same ↦ rw same refl | inr differs ↦ rw differs (last_among key keys) ]

-- each list of keys begins with those before
abbrev pub Grows : List (List ℕ) → List (List ℕ) → Type 0
Grows keys all = (more : List (List ℕ)) × (all ≡ keys ++ more)

pub add_grows : (key : Option (List ℕ)) (keys : List (List ℕ)) → Grows keys (add_if_some key keys)
add_grows None keys = ([], sym (append-nil keys))
add_grows (Some key) keys =
    elim (cases_Bool (is_among key keys)) [
      | inl there ↦ ([], rw there (sym (append-nil keys)))
      | inr absent ↦ (key ∷ [], rw absent refl)
    ]

pub add_among : (key : List ℕ) (keys : List (List ℕ)) → is_among key (add_key key keys) ≡ true
add_among key keys =
    elim (cases_Bool (is_among key keys)) [ inl there ↦ rw there there | inr absent ↦ rw absent (last_among key keys) ]

pub slots_grow : (p : Setting) (c : Command) (cs : List Command) → Grows (slots_of p cs) (slots_of p (c ∷ cs))
unfolding slots_of
slots_grow p c cs = add_grows (key_named p c) (slots_of p cs)
