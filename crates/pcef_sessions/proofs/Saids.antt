-- The answer to one line more.
use Rattle.std.proofs.Common.{◌≡◌, ◌≢◌, ◌∙◌, ℕ, Bool, true, false, List, [], ◌∷◌, ◌++◌, map, Option, Some, None, refl, sym, ap, subst, append_assoc, append-nil}
use Rattle.std.specs.Prelude.{◌||◌, All, option_map, if◌then◌else◌}
use Rattle.std.specs.Str.{bytes_eq}
use Rattle.std.proofs.lemmas.Bool.{true≢false}
use Rattle.std.proofs.lemmas.List.{map-append}
use Rattle.std.proofs.lemmas.List.Elements.{All-append, All-cons, All-nil}
use Rattle.std.proofs.lemmas.List.Folds.{list_any-append}
use Rattle.std.proofs.lemmas.Slice.Eq.{bytes_eq-Decides}
use Rattle.pcef_model.specs.Setting.{Setting}
use Rattle.pcef_sessions.specs.Addressed.{addressed, lines_of, addressed_name, said_to}
use Rattle.pcef_sessions.specs.Sayings.{Said, SaysTo, bad_name}
use Rattle.pcef_sessions.specs.Served.{AreSaid, Under, all_bytes, any_fault, if_under, said_bytes, said_under}
use Rattle.pcef_sessions.specs.Under.{Session, UnderName}

-- ---- one name
lines_more : (name : List ℕ) (lines more : List (List ℕ)) → lines_of name (lines ++ more) ≡ lines_of name lines ++ lines_of name more
lines_more name [] more = refl
lines_more name (line ∷ lines) more =
    ap (λ rest. said_to name (addressed line) ++ rest) (lines_more name lines more) ∙ sym (append_assoc (said_to name (addressed line)) (lines_of name lines) (lines_of name more))

told_more : (name : List ℕ) (saids more : List Said) → said_under name (saids ++ more) ≡ said_under name saids ++ said_under name more
told_more name [] more = refl
told_more name (said ∷ saids) more =
    ap (λ rest. if_under name said.name said ++ rest) (told_more name saids more) ∙ sym (append_assoc (if_under name said.name said) (said_under name saids) (said_under name more))

-- some lines, and then others
pub under_more : (p : Setting) (a b c : Option Session) (lines more : List (List ℕ)) (x y : List Said) → Under p a lines x b → Under p b more y c → Under p a (lines ++ more) (x ++ y) c
under_more p a b c [] more x y h g =
    let none : [] ≡ x = sym h.0 in
    subst (λ t. Under p a more (t ++ y) c) none (subst (λ o. Under p o more y c) h.1 g)
under_more p a b c (line ∷ lines) more x y h g =
    (h.0, h.1 ++ y, h.2, h.3, under_more p h.2 b c lines more h.1 y h.4 g, ap (λ t. t ++ y) h.5)

one_under : (p : Setting) (there after : Option Session) (line : List ℕ) (said : Said) → UnderName p there line said.text said.at_fault after → Under p there (line ∷ []) (said ∷ []) after
one_under p there after line said h = (said, [], after, h, (refl, refl), refl)

-- ---- one line more, for each name
for_name : (p : Setting) (old new : List ℕ → Option Session) (name : List ℕ) (line : List ℕ × List ℕ) (said : Said) (test : Bool) → bytes_eq line.0 name ≡ test → SaysTo p old (Some line) said new
    → Under p (old name) ((if test then line.1 ∷ [] else []) ++ []) ((if test then said ∷ [] else []) ++ []) (new name)
for_name p old new name line said true is h =
    let same = (bytes_eq-Decides line.0 name).0 is in
    subst (λ n. Under p (old n) (line.1 ∷ []) (said ∷ []) (new n)) same (one_under p (old line.0) (new line.0) line.1 said h.1)
for_name p old new name line said false is h =
    (refl, h.2 name (λ same. true≢false (sym ((bytes_eq-Decides line.0 name).1 (sym same)) ∙ is)))

last_under : (p : Setting) (old new : List ℕ → Option Session) (name : List ℕ) (to : Option (List ℕ × List ℕ)) (said : Said) → SaysTo p old to said new
    → Under p (old name) (said_to name to ++ []) (if_under name said.name said ++ []) (new name)
last_under p old new name None said h =
    let none : None ≡ said.name = sym (ap (λ (s : Said). s.name) h.0) in
    subst (λ o. Under p (old name) [] (if_under name o said ++ []) (new name)) none (refl, h.1 name)
last_under p old new name (Some line) said h =
    subst (λ o. Under p (old name) (said_to name (Some line) ++ []) (if_under name o said ++ []) (new name)) (sym h.0)
    (for_name p old new name line said (bytes_eq line.0 name) refl h)

named_so : (p : Setting) (old new : List ℕ → Option Session) (to : Option (List ℕ × List ℕ)) (said : Said) → SaysTo p old to said new → said.name ≡ option_map (λ (p : List ℕ × List ℕ). p.0) to
named_so p old new None said h = ap (λ (s : Said). s.name) h.0
named_so p old new (Some line) said h = h.0

nameless_so : (p : Setting) (old new : List ℕ → Option Session) (to : Option (List ℕ × List ℕ)) (said : Said) → SaysTo p old to said new → said.name ≡ None → said ≡ bad_name
nameless_so p old new None said h none = h.0
nameless_so p old new (Some line) said h none =
    let differ : Some line.0 ≡ None = sym h.0 ∙ none in
    cc

abbrev HasBadName : Said → Type 0
HasBadName said = said.name ≡ None → said ≡ bad_name

-- ---- one line more
pub one_said : (p : Setting) (old new : List ℕ → Option Session) (lines : List (List ℕ)) (line : List ℕ) (saids : List Said) (said : Said) → AreSaid p lines saids old → SaysTo p old (addressed line) said new
    → AreSaid p (lines ++ line ∷ []) (saids ++ said ∷ []) new
one_said p old new lines line saids said h says = record {
  names = map-append (λ (s : Said). s.name) saids (said ∷ []) ∙ ap (λ t. map (λ (s : Said). s.name) saids ++ t ∷ []) (named_so p old new (addressed line) said says)
      ∙ ap (λ t. t ++ addressed_name line ∷ []) h.names ∙ sym (map-append addressed_name lines (line ∷ []));
  nameless = All-append HasBadName saids (said ∷ []) h.nameless (All-cons HasBadName said [] (nameless_so p old new (addressed line) said says) (All-nil HasBadName));
  each = λ name.
      subst (λ ls. Under p None ls (said_under name (saids ++ said ∷ [])) (new name)) (sym (lines_more name lines (line ∷ [])))
      (subst (λ ss. Under p None (lines_of name lines ++ lines_of name (line ∷ [])) ss (new name)) (sym (told_more name saids (said ∷ [])))
      (under_more p None (old name) (new name) (lines_of name lines) (lines_of name (line ∷ [])) (said_under name saids) (said_under name (said ∷ [])) (h.each name) (last_under p old new name (addressed line) said says)));
}

pub bytes_more : (saids : List Said) (said : Said) → all_bytes (saids ++ said ∷ []) ≡ all_bytes saids ++ said_bytes said
bytes_more [] said = append-nil (said_bytes said)
bytes_more (s ∷ saids) said = ap (λ rest. said_bytes s ++ rest) (bytes_more saids said) ∙ sym (append_assoc (said_bytes s) (all_bytes saids) (said_bytes said))

or_false : (x : Bool) → (x || false) ≡ x
or_false true = refl
or_false false = refl

pub fault_more : (saids : List Said) (said : Said) → any_fault (saids ++ said ∷ []) ≡ (any_fault saids || said.at_fault)
fault_more saids said = list_any-append (λ (s : Said). s.at_fault) saids (said ∷ []) ∙ ap (λ x. any_fault saids || x) (or_false said.at_fault)
