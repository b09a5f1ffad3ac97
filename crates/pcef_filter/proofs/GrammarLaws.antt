-- The functions that restate the grammar agree with it: what they return is spelled, and what is
-- spelled they return.
use Rattle.std.proofs.Common.{ℕ, ◌≡◌, Result, Ok, Err, Bool, true, false, List, [], ◌∷◌, ◌++◌, Option, Some, None, refl, sym, ap, ◌∙◌, subst}
use Rattle.std.specs.Prelude.{codes}
use Rattle.arrayvec.specs.ArrayVec.{ArrayVec}
use Rattle.pcef_filter.specs.Tokens.{Token, begins_with_digit}
use Rattle.pcef_filter.specs.ReadingClasses.{is_word, direction_in, proto_in, place_in, ports_in}
use Rattle.pcef_filter.specs.Reading.{word_at, token_at, at_end, target_from, target_at, source_from, source_at, parts_in, endpoint_of, no_ports, filter_of, ◌>>=◌}
use Rattle.pcef_filter.specs.Grammar.{SpellsPorts, SpellsEndpoint, SpellsTokens}
use Rattle.pcef_filter.specs.Classes.{IsPlace, IsDirection, IsProto}
use Rattle.pcef_filter.specs.declared.filter.Direction.{Direction}
use Rattle.pcef_filter.specs.declared.filter.Flow.{Flow}
use Rattle.pcef_filter.specs.declared.filter.Place.{Place}
use Rattle.pcef_filter.specs.declared.filter.PortRange.{PortRange}
use Rattle.pcef_filter.specs.declared.filter.Endpoint.{Endpoint}
use Rattle.pcef_filter.specs.declared.filter.Filter.{Filter}
use Rattle.pcef_filter.specs.declared.filter.FilterFault.{FilterFault}
use Rattle.pcef_filter.specs.declared.filter.FilterFault.TheVariants as fault
use Rattle.pcef_filter.proofs.NumberLaws.{word_is}
use Rattle.pcef_filter.proofs.ClassLaws.{direction_found, direction_again, proto_found, proto_again, place_found, place_again}
use Rattle.pcef_filter.proofs.PortLaws.{ports_found, ports_again, ports_digit}

bind_ok : {X Y : Type 0} (r : Result X FilterFault) (k : X → Result Y FilterFault) (y : Y) → (r >>= k) ≡ Ok y → (x : X) × (r ≡ Ok x) × (k x ≡ Ok y)
bind_ok (Ok x) k y h = (x, refl, h)
bind_ok (Err e) k y h = absurd (cc)

word_ok : (w : Token) (e : FilterFault) (ts rest : List Token) → word_at w e ts ≡ Ok rest → ts ≡ w ∷ rest
word_ok w e [] rest h = absurd (cc)
word_ok w e (t ∷ ts) rest h = go (is_word w t) refl
  where
    go : (b : Bool) → is_word w t ≡ b → t ∷ ts ≡ w ∷ rest
    go true on =
        let is : Ok ts ≡ Ok rest = sym (rw on refl) ∙ h in
        let same : t ≡ w = word_is w t on in cc
    go false off = let clash = rw off at h in absurd (cc)

token_ok : {X : Type 0} (read : Token → Option X) (e : FilterFault) (ts : List Token) (x : X × List Token) → token_at read e ts ≡ Ok x
    → (t : Token) × (ts ≡ t ∷ x.1) × (read t ≡ Some x.0)
token_ok read e [] x h = absurd (cc)
token_ok {X = X} read e (t ∷ ts) x h = go (read t) refl
  where
    go : (o : Option X) → read t ≡ o → (u : Token) × (t ∷ ts ≡ u ∷ x.1) × (read u ≡ Some x.0)
    go None is = let clash = rw is at h in absurd (cc)
    go (Some y) is =
        let joined : Ok (y, ts) ≡ Ok x = sym (rw is refl) ∙ h in
        let pair : (y, ts) ≡ x = cc in
        (t, ap (λ (p : X × List Token). t ∷ p.1) pair, is ∙ ap (λ (p : X × List Token). Some p.0) pair)

-- ---- what is returned is spelled
end_spelled : (t : Token) (rest ts : List Token) (p : Place) (x : Endpoint) → ts ≡ t ∷ rest → x.place ≡ p → IsPlace t p → SpellsPorts rest x.ports.items → SpellsEndpoint ts x
end_spelled t rest ts p x order place is ports = rw order (rw place is, ports)

ends_as : (p : Place) (items : ArrayVec PortRange) (ts : List Token) (x : Endpoint) → endpoint_of p items ≡ x → SpellsPorts ts items.items → (x.place ≡ p) × SpellsPorts ts x.ports.items
ends_as p items ts x same ports =
    let P : Endpoint → Type 0 = λ e. (e.place ≡ p) × SpellsPorts ts e.ports.items in subst P same (refl, ports)

-- these tokens are ports of an endpoint at this place, the word `to`, and what the reader leaves
abbrev SourceIs : List Token → Place → Endpoint × List Token → Type 0
SourceIs ts p x = (front : List Token) × (ts ≡ front ++ (codes "to" ∷ x.1)) × (x.0.place ≡ p) × SpellsPorts front x.0.ports.items

source_as : (ts front rest : List Token) (p : Place) (items : ArrayVec PortRange) (x : Endpoint × List Token) → (endpoint_of p items, rest) ≡ x
    → ts ≡ front ++ (codes "to" ∷ rest) → SpellsPorts front items.items → SourceIs ts p x
source_as ts front rest p items x same order ports =
    let P : Endpoint × List Token → Type 0 = λ y. SourceIs ts p y in subst P same (front, order, refl, ports)

target_from_found : (p : Place) (ts : List Token) (x : Endpoint) → target_from p ts ≡ Ok x → (x.place ≡ p) × SpellsPorts ts x.ports.items
unfolding target_from
target_from_found p [] x h =
    let same : endpoint_of p no_ports ≡ x = cc in
    (sym (ap (λ (e : Endpoint). e.place) same), sym (ap (λ (e : Endpoint). e.ports.items) same))
target_from_found p (t ∷ ts) x h = go (begins_with_digit t) refl (ports_in t) refl ts refl
  where
    go : (b : Bool) → begins_with_digit t ≡ b → (o : Option (ArrayVec PortRange)) → ports_in t ≡ o → (us : List Token) → us ≡ ts → (x.place ≡ p) × SpellsPorts (t ∷ us) x.ports.items
    go false off o is us same = let clash = rw off at h in absurd (cc)
    go true on None is us same = let clash = rw (on, is) at h in absurd (cc)
    go true on (Some items) is [] same =
        let opened : target_from p (t ∷ ts) ≡ at_end (endpoint_of p items) ts = rw (on, is) refl in
        let joined : at_end (endpoint_of p items) [] ≡ Ok x = ap (at_end (endpoint_of p items)) same ∙ (sym opened ∙ h) in
        let end : endpoint_of p items ≡ x = cc in
        ends_as p items (t ∷ []) x end (ports_found t items is)
    go true on (Some items) is (u ∷ us) same =
        let opened : target_from p (t ∷ ts) ≡ at_end (endpoint_of p items) ts = rw (on, is) refl in
        let joined : at_end (endpoint_of p items) (u ∷ us) ≡ Ok x = ap (at_end (endpoint_of p items)) same ∙ (sym opened ∙ h) in absurd (cc)

target_found : (ts : List Token) (x : Endpoint) → target_at ts ≡ Ok x → SpellsEndpoint ts x
unfolding target_at
target_found ts x h =
    let first = bind_ok (token_at place_in fault.Target ts) (λ p. target_from p.0 p.1) x h in
    let token = token_ok place_in fault.Target ts first.0 first.1 in
    let rest = target_from_found first.0.0 first.0.1 x first.2 in
    end_spelled token.0 first.0.1 ts first.0.0 x token.1 rest.0 (place_found token.0 first.0.0 token.2) rest.1

source_from_found : (p : Place) (ts : List Token) (x : Endpoint × List Token) → source_from p ts ≡ Ok x → SourceIs ts p x
unfolding source_from
source_from_found p [] x h = absurd (cc)
source_from_found p (t ∷ ts) x h = go (begins_with_digit t) refl (ports_in t) refl
  where
    go : (b : Bool) → begins_with_digit t ≡ b → (o : Option (ArrayVec PortRange)) → ports_in t ≡ o → SourceIs (t ∷ ts) p x
    go true on None is = let clash = rw (on, is) at h in absurd (cc)
    go true on (Some items) is =
        let joined = rw (on, is) at h in
        let word = bind_ok (word_at (codes "to") fault.To ts) (λ rest. Ok (endpoint_of p items, rest)) x joined in
        let pair : (endpoint_of p items, word.0) ≡ x = (let last = word.2 in cc) in
        let order : ts ≡ codes "to" ∷ word.0 = word_ok (codes "to") fault.To ts word.0 word.1 in
        source_as (t ∷ ts) (t ∷ []) word.0 p items x pair (ap (λ (l : List Token). t ∷ l) order) (ports_found t items is)
    go false off o is =
        let joined = rw off at h in
        let word = bind_ok (word_at (codes "to") fault.To (t ∷ ts)) (λ rest. Ok (endpoint_of p no_ports, rest)) x joined in
        let pair : (endpoint_of p no_ports, word.0) ≡ x = (let last = word.2 in cc) in
        let order : t ∷ ts ≡ codes "to" ∷ word.0 = word_ok (codes "to") fault.To (t ∷ ts) word.0 word.1 in
        source_as (t ∷ ts) [] word.0 p no_ports x pair order refl

source_found : (ts : List Token) (x : Endpoint × List Token) → source_at ts ≡ Ok x → (front : List Token) × (ts ≡ front ++ (codes "to" ∷ x.1)) × SpellsEndpoint front x.0
unfolding source_at
source_found ts x h =
    let first = bind_ok (token_at place_in fault.Source ts) (λ p. source_from p.0 p.1) x h in
    let token = token_ok place_in fault.Source ts first.0 first.1 in
    let rest = source_from_found first.0.0 first.0.1 x first.2 in
    (token.0 ∷ rest.0, token.1 ∙ ap (λ (l : List Token). token.0 ∷ l) rest.1, end_spelled token.0 rest.0 (token.0 ∷ rest.0) first.0.0 x.0 refl rest.2 (place_found token.0 first.0.0 token.2) rest.3)

-- a filter from its parts and their tokens
filter_spelled : (flow : Option Flow) (d : Direction) (p : Option ℕ) (s t : Endpoint) (f : Filter) (ts t1 t2 t3 t4 source target : List Token) (dt pt : Token)
    → filter_of flow d p s t ≡ f
    → ts ≡ codes "permit" ∷ t1 → t1 ≡ dt ∷ t2 → t2 ≡ pt ∷ t3 → t3 ≡ codes "from" ∷ t4 → t4 ≡ source ++ (codes "to" ∷ target)
    → IsDirection dt d → IsProto pt p → SpellsEndpoint source s → SpellsEndpoint target t → SpellsTokens ts f × (f.flow ≡ flow)
filter_spelled flow d p s t f ts t1 t2 t3 t4 source target dt pt same o1 o2 o3 o4 o5 direction proto sourced targeted =
    let P : Filter → Type 0 = λ g. SpellsTokens ts g × (g.flow ≡ flow) in
    subst P same (
      record {
        dir = dt;
        proto = pt;
        source = source;
        target = target;
        order = o1 ∙ rw (o2, o3, o4, o5) refl;
        spells_direction = direction;
        spells_proto = proto;
        spells_source = sourced;
        spells_target = targeted;
      },
      refl,
    )

-- the first law: filters that are returned are spelled
pub tokens_found : (flow : Option Flow) (ts : List Token) (f : Filter) → parts_in flow ts ≡ Ok f → SpellsTokens ts f × (f.flow ≡ flow)
unfolding parts_in
tokens_found flow ts f h =
    let a = bind_ok (word_at (codes "permit") fault.Action ts) _ f h in
    let b = bind_ok (token_at direction_in fault.Direction a.0) _ f a.2 in
    let c = bind_ok (token_at proto_in fault.Proto b.0.1) _ f b.2 in
    let d = bind_ok (word_at (codes "from") fault.From c.0.1) _ f c.2 in
    let s = bind_ok (source_at d.0) _ f d.2 in
    let t = bind_ok (target_at s.0.1) _ f s.2 in
    let dir = token_ok direction_in fault.Direction a.0 b.0 b.1 in
    let pro = token_ok proto_in fault.Proto b.0.1 c.0 c.1 in
    let src = source_found d.0 s.0 s.1 in
    let same : filter_of flow b.0.0 c.0.0 s.0.0 t.0 ≡ f = (let last = t.2 in cc) in
    filter_spelled flow b.0.0 c.0.0 s.0.0 t.0 f ts a.0 b.0.1 c.0.1 d.0 src.0 s.0.1 dir.0 pro.0
    same (word_ok (codes "permit") fault.Action ts a.0 a.1) dir.1 pro.1 (word_ok (codes "from") fault.From c.0.1 d.0 d.1) src.1
    (direction_found dir.0 b.0.0 dir.2) (proto_found pro.0 c.0.0 pro.2) src.2 (target_found s.0.1 t.0 t.1)

-- ---- what is spelled is returned
no_ports_is : (a : ArrayVec PortRange) → a.items ≡ [] → no_ports ≡ a
no_ports_is a h = ap (λ (xs : List PortRange). record { items = xs }) (sym h)

target_again : (ts : List Token) (x : Endpoint) → SpellsEndpoint ts x → target_at ts ≡ Ok x
unfolding target_at target_from
target_again [] x h = absurd h
target_again (t ∷ []) x h =
    let place = place_again t x.place h.0 in
    let ports = no_ports_is x.ports h.1 in
    rw place (ap (λ (a : ArrayVec PortRange). Ok (endpoint_of x.place a)) ports)
target_again (t ∷ u ∷ []) x h =
    let place = place_again t x.place h.0 in
    let digit = ports_digit u x.ports.items h.1 in
    let ports = ports_again u x.ports h.1 in
    rw (place, digit, ports) refl
target_again (t ∷ u ∷ v ∷ ts) x h = absurd h.1

to_no_digit : begins_with_digit (codes "to") ≡ false
unfolding begins_with_digit
to_no_digit = refl

source_again : (front rest : List Token) (x : Endpoint) → SpellsEndpoint front x → source_at (front ++ (codes "to" ∷ rest)) ≡ Ok (x, rest)
unfolding source_at source_from
source_again [] rest x h = absurd h
source_again (t ∷ []) rest x h =
    let place = place_again t x.place h.0 in
    let ports = no_ports_is x.ports h.1 in
    rw (place, to_no_digit) (ap (λ (a : ArrayVec PortRange). Ok (endpoint_of x.place a, rest)) ports)
source_again (t ∷ u ∷ []) rest x h =
    let place = place_again t x.place h.0 in
    let digit = ports_digit u x.ports.items h.1 in
    let ports = ports_again u x.ports h.1 in
    rw (place, digit, ports) refl
source_again (t ∷ u ∷ v ∷ ts) rest x h = absurd h.1

-- the second law: spelled filters are returned, with the flow word that was given
pub tokens_again : (flow : Option Flow) (ts : List Token) (f : Filter) → SpellsTokens ts f → parts_in flow ts ≡ Ok (record f { flow = flow })
unfolding parts_in
tokens_again flow ts f h =
    let direction = direction_again h.dir f.direction h.spells_direction in
    let proto = proto_again h.proto f.proto h.spells_proto in
    let source = source_again h.source h.target f.source h.spells_source in
    let target = target_again h.target f.target h.spells_target in
    ap (parts_in flow) h.order ∙ rw (direction, proto, source, target) refl
