-- Reading one thing after another: what was read, or the first fault.
use Rattle.std.specs.Prelude.{◌≡◌, ◌⊎◌, ℕ, nat_le, List, Bool, true, ◌&&◌, Option, Some, None, option_map, unwrap_or, Result, Ok, Err, if◌then◌else◌}
use Rattle.std.specs.Str.{bytes_eq}
use Rattle.std.specs.List.{list_any}

-- the next thing is read by what was read before; a fault is the end
infixl 10 ◌>>=◌
abbrev pub ◌>>=◌ : {A B E : Type 0} → Result A E → (A → Result B E) → Result B E
(Ok x) >>= next = next x
(Err e) >>= next = Err e

-- nothing is a fault
abbrev pub or_fault : {A E : Type 0} → E → Option A → Result A E
or_fault fault (Some x) = Ok x
or_fault fault None = Err fault

-- what doesn't pass a test is a fault
abbrev pub passing : {A E : Type 0} → (A → Bool) → E → A → Result A E
passing test fault x = if test x then Ok x else Err fault

abbrev pub is_from_to : ℕ → ℕ → ℕ → Bool
is_from_to least most n = nat_le least n && nat_le n most

-- another reader's fault, under this one's name for it
abbrev pub under : {A E F : Type 0} → (E → F) → Result A E → Result A F
under name (Ok x) = Ok x
under name (Err e) = Err (name e)

-- What is returned, seen by `view`, is what is due. When out of memory, it says nothing.
abbrev pub GivesUnless : {X Y E : Type 0} → E → (X → Y) → Result X E → Result Y E → Type 0
GivesUnless no_memory view (Ok x) due = due ≡ Ok (view x)
GivesUnless no_memory view (Err e) due = (e ≡ no_memory) ⊎ (due ≡ Err e)

-- a test of what may be absent
abbrev pub if_there : {A : Type 0} → (A → Bool) → Option A → Bool
if_there test found = unwrap_or (option_map test found) true

-- a text is one of some names
abbrev pub names_one_of : {N : Type 0} → (N → List ℕ) → List N → List ℕ → Bool
names_one_of text_of names text = list_any (λ n. bytes_eq (text_of n) text) names
