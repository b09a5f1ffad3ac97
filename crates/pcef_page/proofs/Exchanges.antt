-- Lines with their answers, one after the other.
use Rattle.std.proofs.Common.{◌≡◌, ◌∙◌, ◌+◌, ◌^◌, ◌<◌, ℕ, Bool, true, false, List, [], ◌∷◌, ◌++◌, length, length-append, append-nil, refl, sym, ap, arith}
use Rattle.std.specs.Prelude.{None, IsUtf8, map}
use Rattle.std.specs.List.{zip}
use Rattle.std.specs.Str.{is_utf8}
use Rattle.std.proofs.lemmas.List.{flat_map_more}
use Rattle.std.proofs.lemmas.List.Elements.{All-push}
use Rattle.std.proofs.lemmas.Str.{IsUtf8-from_is_utf8, is_utf8-from_IsUtf8}
use Rattle.serde_json.specs.Read.{read}
use Rattle.pcef_page.specs.declared.collecting.Collected.{Collected}
use Rattle.pcef_page.specs.declared.figures.Rates.{Rates}
use Rattle.std.proofs.Common.{append_assoc}
use Rattle.pcef_page.specs.Collecting.{AreFiguresOf, generation_from, keys_from, last_from, rates_from, rules_from}
use Rattle.pcef_page.specs.Grants.{KeyFigure, generation_behind, grants_in, keys_behind}
use Rattle.pcef_page.specs.Guarantees.{RuleFigure, rates_in, rules_behind}
use Rattle.pcef_page.specs.Pairing.{Exchange, json_of, exchange_of, is_answered}
use Rattle.pcef_page.specs.Usages.{refusals_in, usage_in}
use Rattle.pcef_page.specs.private.Steps.{AddsExchange}

-- ---- JSON
pub data_read : (octets : List ℕ) → IsUtf8 octets → json_of octets ≡ read octets
data_read octets holds = rw (is_utf8-from_IsUtf8 octets holds) refl

other_by : (octets : List ℕ) (test : Bool) → is_utf8 octets ≡ test → ¬ (IsUtf8 octets) → None ≡ json_of octets
other_by octets true is isnt = absurd (isnt (IsUtf8-from_is_utf8 octets is))
other_by octets false is isnt = rw is refl

pub other_none : (octets : List ℕ) → ¬ (IsUtf8 octets) → None ≡ json_of octets
other_none octets isnt = other_by octets (is_utf8 octets) refl isnt

-- ---- one line more
last_more : (number : ℕ) (xs : List Exchange) (x : Exchange) → last_from number (xs ++ x ∷ []) ≡ x.number
last_more number [] x = refl
last_more number (y ∷ xs) x = last_more y.number xs x

generation_more : (generation : ℕ) (xs : List Exchange) (x : Exchange) → generation_from generation (xs ++ x ∷ []) ≡ generation_behind (generation_from generation xs) x.number x.answer
generation_more generation [] x = refl
generation_more generation (y ∷ xs) x = generation_more (generation_behind generation y.number y.answer) xs x

keys_more : (keys : List KeyFigure) (xs : List Exchange) (x : Exchange) → keys_from keys (xs ++ x ∷ []) ≡ keys_behind (keys_from keys xs) x.number x.answer
keys_more keys [] x = refl
keys_more keys (y ∷ xs) x = keys_more (keys_behind keys y.number y.answer) xs x

pub rules_more : (rules : List RuleFigure) (xs : List Exchange) (x : Exchange) → rules_from rules (xs ++ x ∷ []) ≡ rules_behind (rules_from rules xs) x.number x.line x.answer
rules_more rules [] x = refl
rules_more rules (y ∷ xs) x = rules_more (rules_behind rules y.number y.line y.answer) xs x

rates_more : (rules : List RuleFigure) (xs : List Exchange) (x : Exchange)
    → rates_from rules (xs ++ x ∷ []) ≡ rates_from rules xs ++ rates_in (rules_from rules xs) x.number x.line x.answer
rates_more rules [] x = append-nil _
rates_more rules (y ∷ xs) x =
    ap (λ t. rates_in rules y.number y.line y.answer ++ t) (rates_more (rules_behind rules y.number y.line y.answer) xs x)
    ∙ sym (append_assoc (rates_in rules y.number y.line y.answer) (rates_from (rules_behind rules y.number y.line y.answer) xs)
    (rates_in (rules_from (rules_behind rules y.number y.line y.answer) xs) x.number x.line x.answer))

-- the rates of a line, behind the rules of those before it
next_rates : (xs : List Exchange) (x : Exchange) (told new : List Rates) (active : List RuleFigure)
    → told ≡ rates_from [] xs → active ≡ rules_from [] xs → new ≡ told ++ rates_in active x.number x.line x.answer → new ≡ rates_from [] (xs ++ x ∷ [])
next_rates xs x told new active before rules is =
    is ∙ ap (λ t. t ++ rates_in active x.number x.line x.answer) before ∙ ap (λ r. rates_from [] xs ++ rates_in r x.number x.line x.answer) rules ∙ sym (rates_more [] xs x)

pub tells_more : (xs : List Exchange) (x : Exchange) (old new : Collected)
    → length xs + 1 < 2 ^ 64 → AreFiguresOf xs old.figures → old.active ≡ rules_from [] xs → AddsExchange x old new → AreFiguresOf (xs ++ x ∷ []) new.figures
tells_more xs x old new room tells active next =
    record {
      lines = omega (arith, next.lines, tells.lines, room, length-append xs (x ∷ []));
      last = next.last ∙ sym (last_more 0 xs x);
      generation = next.generation ∙ ap (λ g. generation_behind g x.number x.answer) tells.generation ∙ sym (generation_more 0 xs x);
      usage = next.usage ∙ ap (λ t. t ++ usage_in x.number x.answer) tells.usage ∙ flat_map_more (λ y. usage_in y.number y.answer) [] xs x;
      grants = next.grants ∙ ap (λ t. t ++ grants_in x.number x.line x.answer) tells.grants ∙ flat_map_more (λ y. grants_in y.number y.line y.answer) [] xs x;
      keys = next.keys ∙ ap (λ t. keys_behind t x.number x.answer) tells.keys ∙ sym (keys_more [] xs x);
      rates = next_rates xs x old.figures.rates.items new.figures.rates.items old.active tells.rates active next.rates;
      refusals = next.refused ∙ ap (λ t. t ++ refusals_in x.number x.answer) tells.refusals ∙ flat_map_more (λ y. refusals_in y.number y.answer) [] xs x;
      answered = All-push (λ y. is_answered y ≡ true) xs x tells.answered next.answered;
    }

-- a line with its answer comes first
pub exchanges_next : (script answers script_later answers_later : List (ℕ × List ℕ)) (line answer : ℕ × List ℕ) → script ≡ line ∷ script_later → answers ≡ answer ∷ answers_later
    → map exchange_of (zip script answers) ≡ exchange_of (line, answer) ∷ map exchange_of (zip script_later answers_later)
exchanges_next script answers script_later answers_later line answer first second = rw (first, second) refl

-- there are no more
pub no_script : (told : List Exchange) (script answers : List (ℕ × List ℕ)) → script ≡ [] → told ++ map exchange_of (zip script answers) ≡ told
no_script told script answers none = rw (none, append-nil told) refl

pub zip_nothing : (script : List (ℕ × List ℕ)) → zip {X = ℕ × List ℕ} script [] ≡ []
zip_nothing [] = refl
zip_nothing (line ∷ script) = refl

pub no_answers : (told : List Exchange) (script answers : List (ℕ × List ℕ)) → answers ≡ [] → told ++ map exchange_of (zip script answers) ≡ told
no_answers told script answers none = rw (none, zip_nothing script, append-nil told) refl
