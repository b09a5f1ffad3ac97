-- A fault that the reader returns stands behind the longest front that can be completed.
use Rattle.std.proofs.Common.{ℕ, ◌≡◌, Result, Ok, Err, Bool, true, false, List, [], ◌∷◌, Option, Some, None, refl, sym, ◌∙◌}
use Rattle.std.specs.Prelude.{codes, if◌then◌else◌}
use Rattle.std.proofs.lemmas.Option.{cond_some}
use Rattle.arrayvec.specs.ArrayVec.{ArrayVec}
use Rattle.pcef_filter.specs.Tokens.{Token, begins_with_digit}
use Rattle.pcef_filter.specs.ReadingClasses.{is_word, direction_in, proto_in, place_in, ports_in}
use Rattle.pcef_filter.specs.Reading.{word_at, token_at, at_end, target_from, target_at, source_from, source_at, parts_in, endpoint_of, no_ports, filter_of, ◌>>=◌}
use Rattle.pcef_filter.specs.Faults.{fault_after, fault_after_place, fault_after_ports, fault_after_to}
use Rattle.pcef_filter.specs.declared.filter.Direction.{Direction}
use Rattle.pcef_filter.specs.declared.filter.Direction.TheVariants as direction
use Rattle.pcef_filter.specs.declared.filter.Flow.{Flow}
use Rattle.pcef_filter.specs.declared.filter.Place.{Place}
use Rattle.pcef_filter.specs.declared.filter.PortRange.{PortRange}
use Rattle.pcef_filter.specs.declared.filter.Endpoint.{Endpoint}
use Rattle.pcef_filter.specs.declared.filter.Filter.{Filter}
use Rattle.pcef_filter.specs.declared.filter.FilterFault.{FilterFault}
use Rattle.pcef_filter.specs.declared.filter.FilterFault.TheVariants as fault
use Rattle.pcef_filter.proofs.Fronts.{FaultsAt, Succeeds, fails, same_fault, stage, step, stop_empty, stop_token, alike}

-- a fixed word as a class of tokens, whose value is empty
abbrev word_in : Token → Token → Option (Unit {0})
word_in w t = if is_word w t then Some tt else None

word_yes : (w t : Token) (x : Unit {0}) → word_in w t ≡ Some x → is_word w t ≡ true
word_yes w t x h = (cond_some (is_word w t) tt x h).0

word_no : (w t : Token) → word_in w t ≡ None → is_word w t ≡ false
word_no w t h = go (is_word w t) refl
  where
    go : (b : Bool) → is_word w t ≡ b → is_word w t ≡ false
    go true on = let clash = rw on at h in absurd (cc)
    go false off = off

-- ---- after the word `to`
end_law : (t0 t1 : Token) (x : Endpoint) (ts : List Token) (e : FilterFault) → at_end x ts ≡ Err e
    → FaultsAt (λ l. Succeeds (at_end x l)) (λ l o. fault_after_to (t0 ∷ t1 ∷ l) o) ts e
end_law t0 t1 x [] e h = absurd (cc)
end_law t0 t1 x (t ∷ ts) e h = stop_token (λ l. Succeeds (at_end x l)) (λ l o. fault_after_to (t0 ∷ t1 ∷ l) o) t ts e [] tt (λ l s. s) (cc)

after_target_law : (t0 : Token) (p : Place) (ts : List Token) (e : FilterFault) → target_from p ts ≡ Err e
    → FaultsAt (λ l. Succeeds (target_from p l)) (λ l o. fault_after_to (t0 ∷ l) o) ts e
unfolding target_from
after_target_law t0 p [] e h = absurd (cc)
after_target_law t0 p (t ∷ ts) e h = go (begins_with_digit t) refl (ports_in t) refl
  where
    go : (b : Bool) → begins_with_digit t ≡ b → (o : Option (ArrayVec PortRange)) → ports_in t ≡ o
        → FaultsAt (λ l. Succeeds (target_from p l)) (λ l o. fault_after_to (t0 ∷ l) o) (t ∷ ts) e
    go false off o is =
        stop_token (λ l. Succeeds (target_from p l)) (λ l o. fault_after_to (t0 ∷ l) o) t ts e [] tt
        (λ l s. fails (target_from p (t ∷ l)) fault.Rest (rw off refl) s)
        (same_fault (target_from p (t ∷ ts)) e fault.Rest h (rw off refl) ∙ rw off refl)
    go true on None is =
        stop_token (λ l. Succeeds (target_from p l)) (λ l o. fault_after_to (t0 ∷ l) o) t ts e [] tt
        (λ l s. fails (target_from p (t ∷ l)) fault.TargetPorts (rw (on, is) refl) s)
        (same_fault (target_from p (t ∷ ts)) e fault.TargetPorts h (rw (on, is) refl) ∙ rw on refl)
    go true on (Some items) is =
        let same : (l : List Token) → target_from p (t ∷ l) ≡ at_end (endpoint_of p items) l = λ l. rw (on, is) refl in
        step (λ l. Succeeds (at_end (endpoint_of p items) l)) (λ l. Succeeds (target_from p l)) (λ l o. fault_after_to (t0 ∷ t ∷ l) o) (λ l o. fault_after_to (t0 ∷ l) o) t ts e
        (λ l s. rw (same l) s) (λ l s. rw (same l) at s) (λ l o. refl)
        (end_law t0 t (endpoint_of p items) ts e (sym (same ts) ∙ h))

target_law : (ts : List Token) (e : FilterFault) → target_at ts ≡ Err e → FaultsAt (λ l. Succeeds (target_at l)) fault_after_to ts e
unfolding target_at place_in target_from
target_law ts e h =
    stage place_in target_at target_from fault.Target fault_after_to
    refl (λ t ts x is. rw is refl) (λ t ts is. rw is refl)
    (codes "any" ∷ []) tt (λ o. refl)
    (λ t ts x e is h. after_target_law t x ts e h)
    ts e h

-- ---- source and target
-- the filter, by what is read of the target
abbrev sides : Option Flow → Direction → Option ℕ → Endpoint × List Token → Result Filter FilterFault
sides flow d p s = target_at s.1 >>= λ t. Ok (filter_of flow d p s.0 t)

sides_law : (flow : Option Flow) (d : Direction) (p : Option ℕ) (x : Endpoint) (ts : List Token) (e : FilterFault) → sides flow d p (x, ts) ≡ Err e
    → FaultsAt (λ l. Succeeds (sides flow d p (x, l))) fault_after_to ts e
sides_law flow d p x ts e h =
    alike (λ l. Succeeds (target_at l)) (λ l. Succeeds (sides flow d p (x, l))) fault_after_to ts e to from (target_law ts e (err (target_at ts) refl))
  where
    to : (l : List Token) → Succeeds (target_at l) → Succeeds (sides flow d p (x, l))
    to l s = go (target_at l) refl
      where
        go : (r : Result Endpoint FilterFault) → target_at l ≡ r → Succeeds (sides flow d p (x, l))
        go (Ok y) is = rw is tt
        go (Err f) is = absurd (fails (target_at l) f is s)

    from : (l : List Token) → Succeeds (sides flow d p (x, l)) → Succeeds (target_at l)
    from l s = go (target_at l) refl
      where
        go : (r : Result Endpoint FilterFault) → target_at l ≡ r → Succeeds (target_at l)
        go (Ok y) is = rw is tt
        go (Err f) is = absurd (fails (sides flow d p (x, l)) f (rw is refl) s)

    err : (r : Result Endpoint FilterFault) → target_at ts ≡ r → target_at ts ≡ Err e
    err (Ok y) is = let clash = rw is at h in absurd (cc)
    err (Err f) is = let joined = rw is at h in (let same : f ≡ e = cc in (cc))

-- behind the source
to_law : (flow : Option Flow) (d : Direction) (p : Option ℕ) (x : Endpoint) (ts : List Token) (e : FilterFault)
    → ((word_at (codes "to") fault.To ts >>= λ rest. Ok (x, rest)) >>= sides flow d p) ≡ Err e
    → FaultsAt (λ l. Succeeds ((word_at (codes "to") fault.To l >>= λ rest. Ok (x, rest)) >>= sides flow d p)) fault_after_ports ts e
unfolding target_at place_in target_from
to_law flow d p x ts e h =
    stage (word_in (codes "to")) (λ l. (word_at (codes "to") fault.To l >>= λ rest. Ok (x, rest)) >>= sides flow d p) (λ _ l. sides flow d p (x, l)) fault.To fault_after_ports
    refl (λ t ts y is. rw (word_yes (codes "to") t y is) refl) (λ t ts is. rw (word_no (codes "to") t is) refl)
    (codes "to" ∷ codes "any" ∷ []) tt (λ o. refl)
    (λ t ts y e is h. sides_law flow d p x ts e h)
    ts e h

-- the shortest tokens that complete a source
after_source_right : (flow : Option Flow) (d : Direction) (p : Option ℕ) (place : Place) → Succeeds (source_from place (codes "to" ∷ codes "any" ∷ []) >>= sides flow d p)
unfolding source_from target_at place_in target_from begins_with_digit
after_source_right flow d p place = tt

after_source_law : (flow : Option Flow) (d : Direction) (p : Option ℕ) (place : Place) (ts : List Token) (e : FilterFault)
    → (source_from place ts >>= sides flow d p) ≡ Err e
    → FaultsAt (λ l. Succeeds (source_from place l >>= sides flow d p)) fault_after_place ts e
unfolding source_from
after_source_law flow d p place [] e h =
    stop_empty (λ l. Succeeds (source_from place l >>= sides flow d p)) fault_after_place e (codes "to" ∷ codes "any" ∷ []) (after_source_right flow d p place) (cc)
after_source_law flow d p place (t ∷ ts) e h = go (begins_with_digit t) refl (ports_in t) refl (is_word (codes "to") t) refl
  where
    go : (b : Bool) → begins_with_digit t ≡ b → (o : Option (ArrayVec PortRange)) → ports_in t ≡ o → (w : Bool) → is_word (codes "to") t ≡ w
        → FaultsAt (λ l. Succeeds (source_from place l >>= sides flow d p)) fault_after_place (t ∷ ts) e
    go true on None is w word =
        stop_token (λ l. Succeeds (source_from place l >>= sides flow d p)) fault_after_place t ts e (codes "to" ∷ codes "any" ∷ []) (after_source_right flow d p place)
        (λ l s. fails (source_from place (t ∷ l) >>= sides flow d p) fault.SourcePorts (rw (on, is) refl) s)
        (same_fault (source_from place (t ∷ ts) >>= sides flow d p) e fault.SourcePorts h (rw (on, is) refl) ∙ rw on refl)
    go true on (Some items) is w word =
        let same : (l : List Token) → (source_from place (t ∷ l) >>= sides flow d p) ≡ ((word_at (codes "to") fault.To l >>= λ rest. Ok (endpoint_of place items, rest)) >>= sides flow d p) = λ l. rw (on, is) refl in
        step (λ l. Succeeds ((word_at (codes "to") fault.To l >>= λ rest. Ok (endpoint_of place items, rest)) >>= sides flow d p)) (λ l. Succeeds (source_from place l >>= sides flow d p)) fault_after_ports fault_after_place t ts e
        (λ l s. rw (same l) s) (λ l s. rw (same l) at s) (λ l o. rw on refl)
        (to_law flow d p (endpoint_of place items) ts e (sym (same ts) ∙ h))
    go false off o is true word =
        let same : (l : List Token) → (source_from place (t ∷ l) >>= sides flow d p) ≡ sides flow d p (endpoint_of place no_ports, l) = λ l. rw (off, word) refl in
        step (λ l. Succeeds (sides flow d p (endpoint_of place no_ports, l))) (λ l. Succeeds (source_from place l >>= sides flow d p)) fault_after_to fault_after_place t ts e
        (λ l s. rw (same l) s) (λ l s. rw (same l) at s) (λ l o. rw off refl)
        (sides_law flow d p (endpoint_of place no_ports) ts e (sym (same ts) ∙ h))
    go false off o is false word =
        stop_token (λ l. Succeeds (source_from place l >>= sides flow d p)) fault_after_place t ts e (codes "to" ∷ codes "any" ∷ []) (after_source_right flow d p place)
        (λ l s. fails (source_from place (t ∷ l) >>= sides flow d p) fault.To (rw (off, word) refl) s)
        (same_fault (source_from place (t ∷ ts) >>= sides flow d p) e fault.To h (rw (off, word) refl) ∙ rw off refl)

source_right : (flow : Option Flow) (d : Direction) (p : Option ℕ) → Succeeds (source_at (codes "any" ∷ codes "to" ∷ codes "any" ∷ []) >>= sides flow d p)
unfolding source_at source_from target_at place_in target_from begins_with_digit
source_right flow d p = tt

source_law : (flow : Option Flow) (d : Direction) (p : Option ℕ) (t0 t1 t2 t3 : Token) (ts : List Token) (e : FilterFault)
    → (source_at ts >>= sides flow d p) ≡ Err e
    → FaultsAt (λ l. Succeeds (source_at l >>= sides flow d p)) (λ l o. fault_after (t0 ∷ t1 ∷ t2 ∷ t3 ∷ l) o) ts e
unfolding source_at
source_law flow d p t0 t1 t2 t3 ts e h =
    stage place_in (λ l. source_at l >>= sides flow d p) (λ place l. source_from place l >>= sides flow d p) fault.Source (λ l o. fault_after (t0 ∷ t1 ∷ t2 ∷ t3 ∷ l) o)
    refl (λ t ts x is. rw is refl) (λ t ts is. rw is refl)
    (codes "any" ∷ codes "to" ∷ codes "any" ∷ []) (source_right flow d p) (λ o. refl)
    (λ t ts x e is h. after_source_law flow d p x ts e h)
    ts e h

-- ---- from the beginning
from_at : Option Flow → Direction → Option ℕ → List Token → Result Filter FilterFault
from_at flow d p ts = word_at (codes "from") fault.From ts >>= λ ts. source_at ts >>= sides flow d p

from_law : (flow : Option Flow) (d : Direction) (p : Option ℕ) (t0 t1 t2 : Token) (ts : List Token) (e : FilterFault) → from_at flow d p ts ≡ Err e
    → FaultsAt (λ l. Succeeds (from_at flow d p l)) (λ l o. fault_after (t0 ∷ t1 ∷ t2 ∷ l) o) ts e
unfolding from_at
from_law flow d p t0 t1 t2 ts e h =
    stage (word_in (codes "from")) (from_at flow d p) (λ _ l. source_at l >>= sides flow d p) fault.From (λ l o. fault_after (t0 ∷ t1 ∷ t2 ∷ l) o)
    refl (λ t ts y is. rw (word_yes (codes "from") t y is) refl) (λ t ts is. rw (word_no (codes "from") t is) refl)
    (codes "from" ∷ codes "any" ∷ codes "to" ∷ codes "any" ∷ []) (source_right flow d p) (λ o. refl)
    (λ t ts y e is h. source_law flow d p t0 t1 t2 t ts e h)
    ts e h

proto_at : Option Flow → Direction → List Token → Result Filter FilterFault
proto_at flow d ts = token_at proto_in fault.Proto ts >>= λ p. from_at flow d p.0 p.1

proto_right : (flow : Option Flow) (d : Direction) → Succeeds (proto_at flow d (codes "ip" ∷ codes "from" ∷ codes "any" ∷ codes "to" ∷ codes "any" ∷ []))
unfolding proto_at from_at proto_in
proto_right flow d = source_right flow d None

proto_law : (flow : Option Flow) (d : Direction) (t0 t1 : Token) (ts : List Token) (e : FilterFault) → proto_at flow d ts ≡ Err e
    → FaultsAt (λ l. Succeeds (proto_at flow d l)) (λ l o. fault_after (t0 ∷ t1 ∷ l) o) ts e
unfolding proto_at
proto_law flow d t0 t1 ts e h =
    stage proto_in (proto_at flow d) (λ p l. from_at flow d p l) fault.Proto (λ l o. fault_after (t0 ∷ t1 ∷ l) o)
    refl (λ t ts x is. rw is refl) (λ t ts is. rw is refl)
    (codes "ip" ∷ codes "from" ∷ codes "any" ∷ codes "to" ∷ codes "any" ∷ []) (proto_right flow d) (λ o. refl)
    (λ t ts x e is h. from_law flow d x t0 t1 t ts e h)
    ts e h

direction_at : Option Flow → List Token → Result Filter FilterFault
direction_at flow ts = token_at direction_in fault.Direction ts >>= λ d. proto_at flow d.0 d.1

direction_right : (flow : Option Flow) → Succeeds (direction_at flow (codes "out" ∷ codes "ip" ∷ codes "from" ∷ codes "any" ∷ codes "to" ∷ codes "any" ∷ []))
unfolding direction_at direction_in
direction_right flow = proto_right flow direction.Out

direction_law : (flow : Option Flow) (t0 : Token) (ts : List Token) (e : FilterFault) → direction_at flow ts ≡ Err e
    → FaultsAt (λ l. Succeeds (direction_at flow l)) (λ l o. fault_after (t0 ∷ l) o) ts e
unfolding direction_at
direction_law flow t0 ts e h =
    stage direction_in (direction_at flow) (λ d l. proto_at flow d l) fault.Direction (λ l o. fault_after (t0 ∷ l) o)
    refl (λ t ts x is. rw is refl) (λ t ts is. rw is refl)
    (codes "out" ∷ codes "ip" ∷ codes "from" ∷ codes "any" ∷ codes "to" ∷ codes "any" ∷ []) (direction_right flow) (λ o. refl)
    (λ t ts x e is h. proto_law flow x t0 t ts e h)
    ts e h

-- the law for all tokens
pub tokens_law : (flow : Option Flow) (ts : List Token) (e : FilterFault) → parts_in flow ts ≡ Err e
    → FaultsAt (λ l. Succeeds (parts_in flow l)) fault_after ts e
unfolding parts_in direction_at proto_at from_at
tokens_law flow ts e h =
    stage (word_in (codes "permit")) (parts_in flow) (λ _ l. direction_at flow l) fault.Action fault_after
    refl (λ t ts y is. rw (word_yes (codes "permit") t y is) refl) (λ t ts is. rw (word_no (codes "permit") t is) refl)
    (codes "permit" ∷ codes "out" ∷ codes "ip" ∷ codes "from" ∷ codes "any" ∷ codes "to" ∷ codes "any" ∷ []) (direction_right flow) (λ o. refl)
    (λ t ts y e is h. direction_law flow t ts e h)
    ts e h
