-- The other classes of tokens: what is read of a token is what it spells, and all that it spells.
use Rattle.std.proofs.Common.{ℕ, ◌≡◌, Bool, true, false, Option, Some, None, refl, sym, ap, ◌∙◌, subst}
use Rattle.std.specs.Prelude.{codes}
use Rattle.pcef_filter.specs.Tokens.{Token}
use Rattle.pcef_filter.specs.Pieces.{pieces}
use Rattle.pcef_filter.specs.Classes.{IsDirection, IsProto, IsPlace, AllowsFlow}
use Rattle.pcef_packet.specs.AddressTexts.{address_of, cut_at, dotted_of}
use Rattle.pcef_filter.specs.ReadingClasses.{is_word, and_then, number_in, up_to, direction_in, proto_in, net_in, place_in, is_clash}
use Rattle.pcef_filter.specs.declared.filter.Direction.{Direction}
use Rattle.pcef_filter.specs.declared.filter.Direction.TheVariants as direction
use Rattle.pcef_filter.specs.declared.filter.Flow.{Flow}
use Rattle.pcef_filter.specs.declared.filter.Net.{Net}
use Rattle.pcef_filter.specs.declared.filter.Place.{Place}
use Rattle.pcef_filter.specs.declared.filter.Place.TheVariants.{Any, Assigned}
use Rattle.pcef_filter.specs.declared.filter.Place.TheVariants as place
use Rattle.pcef_filter.proofs.NumberLaws.{word_is, not_word, then_found, limited_found, limited_again}
use Rattle.pcef_filter.proofs.AddressLaws.{net_found, net_again}

-- ---- directions
pub direction_found : (t : Token) (d : Direction) → direction_in t ≡ Some d → IsDirection t d
unfolding direction_in
direction_found t d h = go (is_word (codes "in") t) refl (is_word (codes "out") t) refl
  where
    go : (a : Bool) → is_word (codes "in") t ≡ a → (b : Bool) → is_word (codes "out") t ≡ b → IsDirection t d
    go true into b out =
        let is : Some direction.In ≡ Some d = sym (rw into refl) ∙ h in
        let same : direction.In ≡ d = cc in rw (← same) (word_is (codes "in") t into)
    go false other true out =
        let is : Some direction.Out ≡ Some d = sym (rw (other, out) refl) ∙ h in
        let same : direction.Out ≡ d = cc in rw (← same) (word_is (codes "out") t out)
    go false other false none = let clash = rw (other, none) at h in absurd (cc)

pub direction_again : (t : Token) (d : Direction) → IsDirection t d → direction_in t ≡ Some d
unfolding direction_in
direction_again t direction.In h = rw h refl
direction_again t direction.Out h = rw h refl

-- ---- protocols
pub proto_found : (t : Token) (p : Option ℕ) → proto_in t ≡ Some p → IsProto t p
unfolding proto_in
proto_found t p h = go (is_word (codes "ip") t) refl (up_to 255 (number_in 5 t)) refl
  where
    go : (b : Bool) → is_word (codes "ip") t ≡ b → (o : Option ℕ) → up_to 255 (number_in 5 t) ≡ o → IsProto t p
    go true ip o number =
        let is : Some None ≡ Some p = sym (rw ip refl) ∙ h in
        let same : None ≡ p = cc in rw (← same) (word_is (codes "ip") t ip)
    go false other (Some n) number =
        let is : Some (Some n) ≡ Some p = sym (rw (other, number) refl) ∙ h in
        let same : Some n ≡ p = cc in
        rw (← same) (limited_found 5 255 t n number)
    go false other None number = let clash = rw (other, number) at h in absurd (cc)

pub proto_again : (t : Token) (p : Option ℕ) → IsProto t p → proto_in t ≡ Some p
unfolding proto_in
proto_again t None h = rw h refl
proto_again t (Some n) h =
    let other : is_word (codes "ip") t ≡ false = not_word (codes "ip") t refl h.0.digits in
    let number : up_to 255 (number_in 5 t) ≡ Some n = limited_again 5 255 t n h.0 h.1 in
    rw (other, number) refl

-- ---- places
-- a token that is a network isn't a word that is none
no_net : (w t : Token) (n : Net) → net_in w ≡ None → net_in t ≡ Some n → is_word w t ≡ false
no_net w t n none some = go (is_word w t) refl
  where
    go : (b : Bool) → is_word w t ≡ b → is_word w t ≡ false
    go false differs = differs
    go true same = let clash : Some n ≡ None = sym some ∙ ap net_in (word_is w t same) ∙ none in absurd (cc)

any_no_net : net_in (codes "any") ≡ None
unfolding net_in address_of dotted_of cut_at pieces
any_no_net = refl

assigned_no_net : net_in (codes "assigned") ≡ None
unfolding net_in address_of dotted_of cut_at pieces
assigned_no_net = refl

pub place_found : (t : Token) (p : Place) → place_in t ≡ Some p → IsPlace t p
unfolding place_in
place_found t p h = go (is_word (codes "any") t) refl (is_word (codes "assigned") t) refl
  where
    go : (a : Bool) → is_word (codes "any") t ≡ a → (b : Bool) → is_word (codes "assigned") t ≡ b → IsPlace t p
    go true first b second =
        let is : Some Any ≡ Some p = sym (rw first refl) ∙ h in
        let same : Any ≡ p = cc in rw (← same) (word_is (codes "any") t first)
    go false first true second =
        let is : Some Assigned ≡ Some p = sym (rw (first, second) refl) ∙ h in
        let same : Assigned ≡ p = cc in rw (← same) (word_is (codes "assigned") t second)
    go false first false second =
        let joined : and_then (net_in t) (λ n. Some (place.Net n)) ≡ Some p = sym (rw (first, second) refl) ∙ h in
        let net = then_found (net_in t) (λ n. Some (place.Net n)) p joined in
        let same : place.Net net.0 ≡ p = (let last = net.2 in cc) in
        subst (λ (q : Place). IsPlace t q) same (net_found t net.0 net.1)

pub place_again : (t : Token) (p : Place) → IsPlace t p → place_in t ≡ Some p
unfolding place_in
place_again t Any h = rw h refl
place_again t Assigned h = rw h refl
place_again t (place.Net n) h =
    let net : net_in t ≡ Some n = net_again t n h in
    let first : is_word (codes "any") t ≡ false = no_net (codes "any") t n any_no_net net in
    let second : is_word (codes "assigned") t ≡ false = no_net (codes "assigned") t n assigned_no_net net in
    rw (first, second, net) refl

-- ---- flow words
pub clash_found : (d : Direction) (flow : Option Flow) → is_clash d flow ≡ true → ¬ (AllowsFlow d flow)
clash_found direction.In None h = absurd (cc)
clash_found direction.In (Some w) h = λ none. absurd (cc)
clash_found direction.Out flow h = absurd (cc)

pub no_clash : (d : Direction) (flow : Option Flow) → is_clash d flow ≡ false → AllowsFlow d flow
no_clash direction.In None h = refl
no_clash direction.In (Some w) h = absurd (cc)
no_clash direction.Out flow h = tt
