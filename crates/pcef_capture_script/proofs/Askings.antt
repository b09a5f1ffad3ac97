-- What clap finds in the words.
use Rattle.std.proofs.Common.{◌≡◌, ◌∙◌, ℕ, List, refl, sym, ap}
use Rattle.std.specs.Prelude.{Option, None, Some, false, is_some, option_map, true, Result, Ok}
use Rattle.std.proofs.lemmas.Bool.{false≢true}
use Rattle.clap.specs.Words.{ReadsOne}

pub none_differs : {T : Type 0} (v : T) → None ≡ Some v → ⊥
none_differs v is = false≢true (ap is_some is)

-- a value that was read has a text, which it is read of
pub text_of : {T E : Type 0} (gives : List ℕ → Result T E → Type 0) (text : Option (List ℕ)) (result : Option T) (v : T) → (text ≡ None → result ≡ None)
    → ((t : List ℕ) → text ≡ Some t → ReadsOne gives t result) → result ≡ Some v → (t : List ℕ) × (text ≡ Some t) × gives t (Ok v)
text_of gives None result v none value is = absurd (none_differs v (sym (none refl) ∙ is))
text_of gives (Some t) result v none value is =
    let read = value t refl in
    let right = rw is at read in
    (t, refl, right)

pub mapped_some : {T U : Type 0} (f : T → U) (o : Option T) → is_some o ≡ true → option_map f o ≡ None → ⊥
mapped_some f None is e = absurd (cc is)
mapped_some f (Some x) is e = absurd (cc e)

pub mapped_none : {T U : Type 0} (f : T → U) (o : Option T) (u : U) → is_some o ≡ false → option_map f o ≡ Some u → ⊥
mapped_none f None u is e = absurd (cc e)
mapped_none f (Some x) u is e = absurd (cc is)
