-- What more octets change of where a line goes: nothing, once it is settled.
use Rattle.std.proofs.Common.{◌≡◌, ◌∙◌, ◌==◌, ℕ, zero, suc, ◌≤◌, Bool, true, false, List, [], ◌∷◌, ◌++◌, length, take, Option, Some, None, min, refl, sym, ap, arith, inl, inr}
use Rattle.std.specs.Prelude.{◌⊎◌, ◌||◌, nat_le, is_some, option_map, if◌then◌else◌}
use Rattle.std.specs.declared.hash.RandomState.{RandomState}
use Rattle.std.proofs.lemmas.Bool.{false≢true}
use Rattle.std.proofs.lemmas.Bool.Decides.{nat_tests}
use Rattle.std.proofs.lemmas.List.Folds.{list_any-append}
use Rattle.std.proofs.lemmas.List.{length-append, take_min}
use Rattle.memchr.specs.Find.{IsFirstByte, is_byte}
use Rattle.pcef_sessions.specs.Addressed.{at_space}
use Rattle.pcef_sessions.proofs.Spaces.{found_space, no_space}
use Rattle.pcef_shards.specs.Picks.{before_space, has_space, is_settled, thread_of, thread_of_name}

either : (a b : Bool) → (a || b) ≡ true → (a ≡ true) ⊎ (b ≡ true)
either true b h = inl refl
either false b h = inr h

or_left : (a b : Bool) → a ≡ true → (a || b) ≡ true
or_left true b h = refl
or_left false b h = absurd (false≢true h)

or_right : (a b : Bool) → b ≡ true → (a || b) ≡ true
or_right true b h = refl
or_right false b h = h

at_least : (m n : ℕ) → nat_le m n ≡ true → m ≤ n
at_least m n is = grind (arith, nat_tests)

is_least : (m n : ℕ) → m ≤ n → nat_le m n ≡ true
is_least m n le = grind (arith, nat_tests)

-- enough octets, or a space among them
abbrev Tells : ℕ → List ℕ → Type 0
Tells k line = (k ≤ length line) ⊎ (has_space line ≡ true)

behind : (k b : ℕ) (line : List ℕ) → (b == 32) ≡ false → Tells (suc k) (b ∷ line) → Tells k line
behind k b line isnt (inl le) = inl (omega (arith, le))
behind k b line isnt (inr is) = inr (rw isnt at is)

same_front : (k : ℕ) (line more : List ℕ) → Tells k line → before_space (take k (line ++ more)) ≡ before_space (take k line)
same_front zero line more h = refl
same_front (suc k) [] more (inl le) = absurd (omega (arith, le))
same_front (suc k) [] more (inr is) = absurd (false≢true is)
same_front (suc k) (b ∷ line) more h = by_test (b == 32) refl (λ isnt. same_front k line more (behind k b line isnt h))
  where
    by_test : (test : Bool) → (b == 32) ≡ test → ((b == 32) ≡ false → before_space (take k (line ++ more)) ≡ before_space (take k line))
        → (if test then [] else b ∷ before_space (take k (line ++ more))) ≡ (if test then [] else b ∷ before_space (take k line))
    by_test true is rest = refl
    by_test false isnt rest = ap (λ front. b ∷ front) (rest isnt)

tells : (line : List ℕ) → (nat_le 65 (length line) ≡ true) ⊎ (has_space line ≡ true) → Tells 65 line
tells line (inl le) = inl (at_least 65 (length line) le)
tells line (inr is) = inr is

pub same_thread : (keys : RandomState) (threads : ℕ) (line more : List ℕ) → is_settled line ≡ true → thread_of keys threads (line ++ more) ≡ thread_of keys threads line
same_thread keys threads line more is =
    ap (thread_of_name keys threads) (same_front 65 line more (tells line (either (nat_le 65 (length line)) (has_space line) is)))

still : (line more : List ℕ) → (nat_le 65 (length line) ≡ true) ⊎ (has_space line ≡ true) → is_settled (line ++ more) ≡ true
still line more (inl le) =
    or_left (nat_le 65 (length (line ++ more))) (has_space (line ++ more))
    (is_least 65 (length (line ++ more)) (omega (arith, at_least 65 (length line) le, length-append line more)))
still line more (inr is) =
    or_right (nat_le 65 (length (line ++ more))) (has_space (line ++ more))
    (list_any-append (λ b. b == 32) line more ∙ or_left (has_space line) (has_space more) is)

pub still_settled : (line more : List ℕ) → is_settled line ≡ true → is_settled (line ++ more) ≡ true
still_settled line more is = still line more (either (nat_le 65 (length line)) (has_space line) is)

-- ---- the first space
abbrev Halves : Type 0
Halves = List ℕ × List ℕ

abbrev front_by : Option Halves → List ℕ → List ℕ
front_by None line = line
front_by (Some p) line = p.0

one_more : (b : ℕ) (line : List ℕ) (o : Option Halves) → b ∷ front_by o line ≡ front_by (option_map (λ (p : Halves). (b ∷ p.0, p.1)) o) (b ∷ line)
one_more b line None = refl
one_more b line (Some p) = refl

front_at : (line : List ℕ) → before_space line ≡ front_by (at_space line) line
front_at [] = refl
front_at (b ∷ line) = by_test (b == 32) (ap (λ front. b ∷ front) (front_at line) ∙ one_more b line (at_space line))
  where
    by_test : (test : Bool) → b ∷ before_space line ≡ front_by (option_map (λ (p : Halves). (b ∷ p.0, p.1)) (at_space line)) (b ∷ line)
        → (if test then [] else b ∷ before_space line)
        ≡ front_by (if test then Some ([], line) else option_map (λ (p : Halves). (b ∷ p.0, p.1)) (at_space line)) (b ∷ line)
    by_test true h = refl
    by_test false h = h

pub front_found : (line : List ℕ) (n : ℕ) → IsFirstByte (is_byte 32) line (Some n) → take n line ≡ before_space line
front_found line n found = sym (front_at line ∙ ap (λ o. front_by o line) (found_space line n found))

pub front_whole : (line : List ℕ) → IsFirstByte (is_byte 32) line None → line ≡ before_space line
front_whole line none = sym (front_at line ∙ ap (λ o. front_by o line) (no_space line none))

pub near_line : (line : List ℕ) (n : ℕ) → n ≡ min 65 (length line) → take n line ≡ take 65 line
near_line line n is = ap (λ m. take m line) is ∙ take_min 65 line

mapped : (b : ℕ) (o : Option Halves) → is_some {T = Halves} (option_map (λ (p : Halves). (b ∷ p.0, p.1)) o) ≡ is_some {T = Halves} o
mapped b None = refl
mapped b (Some p) = refl

space_is : (line : List ℕ) → has_space line ≡ is_some {T = Halves} (at_space line)
space_is [] = refl
space_is (b ∷ line) = by_test (b == 32) (space_is line ∙ sym (mapped b (at_space line)))
  where
    by_test : (test : Bool) → has_space line ≡ is_some {T = Halves} (option_map (λ (p : Halves). (b ∷ p.0, p.1)) (at_space line))
        → (test || has_space line) ≡ is_some {T = Halves} (if test then Some ([], line) else option_map (λ (p : Halves). (b ∷ p.0, p.1)) (at_space line))
    by_test true h = refl
    by_test false h = h

pub space_found : (line : List ℕ) (r : Option ℕ) → IsFirstByte (is_byte 32) line r → is_some r ≡ has_space line
space_found line None none = sym (space_is line ∙ ap (λ (o : Option Halves). is_some o) (no_space line none))
space_found line (Some n) found = sym (space_is line ∙ ap (λ (o : Option Halves). is_some o) (found_space line n found))
