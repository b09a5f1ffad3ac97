-- Answers that are written piece by piece.
use Rattle.std.proofs.Common.{◌≡◌, ◌∙◌, ◌≤◌, ◌<◌, ◌+◌, ◌/◌, ◌%◌, ◌||◌, ◌==◌, if◌then◌else◌, ℕ, List, [], ◌∷◌, ◌++◌, true, false, Result, Ok, Err, OnOk, arith, ap, append_assoc, drop, decimal, get_or, length, nat_lt, refl, subst, sym}
use Rattle.std.specs.Result.{is_ok}
use Rattle.std.proofs.lemmas.Bool.Decides.{nat_tests}
use Rattle.std.proofs.lemmas.Fmt.{decimal_digit, decimal_step}
use Rattle.std.proofs.lemmas.List.{at_drop_more}
use Rattle.std.proofs.lemmas.List.Elements.{All-get_or}
use Rattle.json.specs.Print.{escape, escape_byte}
use Rattle.pcef_rule.specs.Name.{IsName, IsVisible}

-- ---- pieces, one after the other
pub last_two : {A E : Type 0} (result : Result A E) (s t u a b : List ℕ) → t ≡ s ++ a → OnOk result (u ≡ t ++ b) → OnOk result (u ≡ s ++ (a ++ b))
last_two (Ok x) s t u a b p q = q ∙ ap (λ x. x ++ b) p ∙ append_assoc s a b
last_two (Err e) s t u a b p q = tt

-- the last one by the contract of `push_str`
pub pushed_two : {A E : Type 0} (result : Result A E) (s t u a b : List ℕ) → t ≡ s ++ a → u ≡ (if is_ok result then t ++ b else t) → OnOk result (u ≡ s ++ (a ++ b))
pushed_two (Ok x) s t u a b p q = q ∙ ap (λ x. x ++ b) p ∙ append_assoc s a b
pushed_two (Err e) s t u a b p q = tt

pub two_alone : (s t u a b : List ℕ) → s ≡ [] → t ≡ s ++ a → u ≡ t ++ b → u ≡ a ++ b
two_alone s t u a b nothing p q = q ∙ ap (λ x. x ++ b) (p ∙ ap (λ x. x ++ a) nothing)

pub three : (s t u v a b c : List ℕ) → t ≡ s ++ a → u ≡ t ++ b → v ≡ u ++ c → v ≡ s ++ (a ++ (b ++ c))
three s t u v a b c p q r = r ∙ ap (λ x. x ++ c) (q ∙ ap (λ x. x ++ b) p) ∙ append_assoc (s ++ a) b c ∙ append_assoc s a (b ++ c)

pub three_alone : (s t u v a b c : List ℕ) → s ≡ [] → t ≡ s ++ a → u ≡ t ++ b → v ≡ u ++ c → v ≡ a ++ (b ++ c)
three_alone s t u v a b c nothing p q r = three s t u v a b c p q r ∙ ap (λ x. x ++ (a ++ (b ++ c))) nothing

pub last_three : {A E : Type 0} (result : Result A E) (s t u v a b c : List ℕ) → t ≡ s ++ a → u ≡ t ++ b → OnOk result (v ≡ u ++ c) → OnOk result (v ≡ s ++ (a ++ (b ++ c)))
last_three (Ok x) s t u v a b c p q r = three s t u v a b c p q r
last_three (Err e) s t u v a b c p q r = tt

-- the last one by the contract of `push_str`
pub pushed_three : {A E : Type 0} (result : Result A E) (s t u v a b c : List ℕ) → t ≡ s ++ a → u ≡ t ++ b → v ≡ (if is_ok result then u ++ c else u) → OnOk result (v ≡ s ++ (a ++ (b ++ c)))
pushed_three (Ok x) s t u v a b c p q r = three s t u v a b c p q r
pushed_three (Err e) s t u v a b c p q r = tt

-- a name between its quotation marks
pub name_quoted : {A E : Type 0} (result : Result A E) (s v a b front name end : List ℕ) → OnOk result (v ≡ s ++ (a ++ (b ++ (front ++ (name ++ 34 ∷ end)))))
    → OnOk result (v ≡ s ++ (a ++ (b ++ (front ++ ((name ++ 34 ∷ []) ++ end)))))
name_quoted result s v a b front name end r = subst (λ x. OnOk result (v ≡ s ++ (a ++ (b ++ (front ++ x))))) (sym (append_assoc name (34 ∷ []) end)) r

-- ---- lists
pub begun : (s t a rest : List ℕ) → t ≡ s ++ a → t ++ rest ≡ s ++ (a ++ rest)
begun s t a rest p = ap (λ x. x ++ rest) p ∙ append_assoc s a rest

pub closed : {A E : Type 0} (result : Result A E) (t u whole : List ℕ) → t ++ 93 ∷ [] ≡ whole → u ≡ (if is_ok result then t ++ 93 ∷ [] else t) → OnOk result (u ≡ whole)
closed (Ok x) t u whole p q = q ∙ p
closed (Err e) t u whole p q = tt

-- ---- numbers
pub digit_pushed : {A E : Type 0} (r : Result A E) (old new utf8 : List ℕ) (digit ch : ℕ) → digit < 10 → ch ≡ 48 + digit
    → (ch < 128 → utf8 ≡ ch ∷ []) → new ≡ (if is_ok r then old ++ utf8 else old) → OnOk r (new ≡ old ++ decimal digit)
digit_pushed (Ok x) old new utf8 digit ch low is ascii wrote =
    wrote ∙ ap (λ x. old ++ x) (ascii (omega (arith, low, is)) ∙ ap (λ x. x ∷ []) is ∙ sym (decimal_digit digit low))
digit_pushed (Err e) old new utf8 digit ch low is ascii wrote = tt

pub two_digits_pushed : {A E : Type 0} (r : Result A E) (old mid new : List ℕ) (n : ℕ) → 10 ≤ n → n < 100 → mid ≡ old ++ decimal (n / 10)
    → OnOk r (new ≡ mid ++ decimal (n % 10)) → OnOk r (new ≡ old ++ decimal n)
two_digits_pushed (Ok x) old mid new n some few first last =
    let low : n % 10 < 10 = omega arith in
    last ∙ ap (λ xs. mid ++ xs) (decimal_digit (n % 10) low) ∙ ap (λ xs. xs ++ (48 + n % 10) ∷ []) first ∙ append_assoc old (decimal (n / 10)) ((48 + n % 10) ∷ [])
    ∙ ap (λ xs. old ++ xs) (sym (decimal_step n some (omega (arith, few))))
two_digits_pushed (Err e) old mid new n some few first last = tt

-- ---- names
above : (b n : ℕ) → n < b → (b == n) ≡ false
above b n lt = grind (arith, nat_tests)

not_low : (b : ℕ) → 33 ≤ b → nat_lt b 32 ≡ false
not_low b low = grind (arith, nat_tests)

pub plain_byte : (b : ℕ) → IsVisible b → ((b == 34) || (b == 92)) ≡ false → escape_byte b ≡ b ∷ []
unfolding escape_byte
plain_byte b visible plain =
    let low : 33 ≤ b = visible.0 in
    let eight = above b 8 (omega (arith, low)) in
    let nine = above b 9 (omega (arith, low)) in
    let ten = above b 10 (omega (arith, low)) in
    let twelve = above b 12 (omega (arith, low)) in
    let thirteen = above b 13 (omega (arith, low)) in
    let high = not_low b low in
    rw (plain, eight, twelve, ten, thirteen, nine, high) refl

positive : (b : ℕ) → ((b == 34) || (b == 92)) ≡ true → nat_lt 0 b ≡ true
positive b special = grind (arith, nat_tests)

pub special_byte : (b : ℕ) → ((b == 34) || (b == 92)) ≡ true → escape_byte b ≡ 92 ∷ b ∷ []
unfolding escape_byte
special_byte b special =
    let some : nat_lt 0 b ≡ true = positive b special in
    rw (special, some) refl

pub plain_pushed : {A E : Type 0} (r : Result A E) (old new utf8 : List ℕ) (b ch : ℕ) → IsVisible b → ((b == 34) || (b == 92)) ≡ false → ch ≡ b
    → (ch < 128 → utf8 ≡ ch ∷ []) → new ≡ (if is_ok r then old ++ utf8 else old) → OnOk r (new ≡ old ++ escape_byte b)
plain_pushed (Ok x) old new utf8 b ch visible plain same ascii wrote =
    let low : ch < 128 = rw same (omega (arith, visible.1)) in
    wrote ∙ ap (λ x. old ++ x) (ascii low ∙ ap (λ x. x ∷ []) same ∙ sym (plain_byte b visible plain))
plain_pushed (Err e) old new utf8 b ch visible plain same ascii wrote = tt

pub special_pushed : {A E : Type 0} (r : Result A E) (old mid new utf8 : List ℕ) (b ch : ℕ) → IsVisible b → ((b == 34) || (b == 92)) ≡ true → ch ≡ b
    → (ch < 128 → utf8 ≡ ch ∷ []) → mid ≡ old ++ 92 ∷ [] → new ≡ (if is_ok r then mid ++ utf8 else mid) → OnOk r (new ≡ old ++ escape_byte b)
special_pushed (Ok x) old mid new utf8 b ch visible special same ascii slash wrote =
    let low : ch < 128 = rw same (omega (arith, visible.1)) in
    let letter : utf8 ≡ b ∷ [] = ascii low ∙ ap (λ x. x ∷ []) same in
    wrote ∙ ap (λ x. mid ++ x) letter ∙ ap (λ x. x ++ b ∷ []) slash ∙ append_assoc old (92 ∷ []) (b ∷ [])
    ∙ ap (λ x. old ++ x) (sym (special_byte b special))
special_pushed (Err e) old mid new utf8 b ch visible special same ascii slash wrote = tt

pub plain_more : (name : List ℕ) (i : ℕ) → IsName name → i < length name → ((get_or name i 0 == 34) || (get_or name i 0 == 92)) ≡ false → escape (drop (i + 1) name) ≡ drop (i + 1) name → escape (drop i name) ≡ drop i name
plain_more name i is_name lt plain rest =
    let b = get_or name i 0 in
    let byte = plain_byte b (All-get_or IsVisible name i 0 lt is_name.2) plain in
    let left = drop (i + 1) name in
    at_drop_more escape name i 0 lt ∙ ap (λ x. x ++ escape left) byte ∙ ap (λ x. b ∷ x) rest ∙ sym (at_drop_more (λ x. x) name i 0 lt)
