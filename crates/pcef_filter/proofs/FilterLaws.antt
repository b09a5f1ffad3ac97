-- The laws of the reader: a text and a flow word as a whole.
use Rattle.std.proofs.Common.{ℕ, ◌≡◌, Result, Ok, Err, Bool, true, false, List, Option, None, refl, sym, ap, ◌∙◌, subst, inl, inr}
use Rattle.std.specs.Prelude.{IfOk, IfErr, take, slice_get}
use Rattle.pcef_filter.specs.Tokens.{Token, tokens}
use Rattle.pcef_filter.specs.Classes.{AllowsFlow}
use Rattle.pcef_filter.specs.Grammar.{Spells, SpellsTokens}
use Rattle.pcef_filter.specs.Faults.{IsRight, TokensFault, FilterFaultOf, fault_after}
use Rattle.pcef_filter.specs.ReadingClasses.{is_clash}
use Rattle.pcef_filter.specs.Reading.{parts_in, filter_in}
use Rattle.pcef_filter.specs.declared.filter.Direction.{Direction}
use Rattle.pcef_filter.specs.declared.filter.Flow.{Flow}
use Rattle.pcef_filter.specs.declared.filter.Filter.{Filter}
use Rattle.pcef_filter.specs.declared.filter.FilterFault.{FilterFault}
use Rattle.pcef_filter.specs.declared.filter.FilterFault.TheVariants as fault
use Rattle.pcef_filter.proofs.Fronts.{Succeeds, fails, alike, same_count}
use Rattle.pcef_filter.proofs.FaultLaws.{tokens_law}
use Rattle.pcef_filter.proofs.ClassLaws.{clash_found, no_clash}
use Rattle.pcef_filter.proofs.GrammarLaws.{tokens_found, tokens_again}

-- ---- tokens that are read are those that are right
right_from : (flow : Option Flow) (ts : List Token) → Succeeds (parts_in flow ts) → IsRight ts
right_from flow ts s = go (parts_in flow ts) refl
  where
    go : (r : Result Filter FilterFault) → parts_in flow ts ≡ r → IsRight ts
    go (Ok f) is = (f, (tokens_found flow ts f is).0)
    go (Err e) is = absurd (fails (parts_in flow ts) e is s)

right_to : (flow : Option Flow) (ts : List Token) → IsRight ts → Succeeds (parts_in flow ts)
right_to flow ts right = rw (tokens_again flow ts right.0 right.1) tt

tokens_fault : (flow : Option Flow) (text : List ℕ) (e : FilterFault) → parts_in flow (tokens text) ≡ Err e → FilterFaultOf text flow e
tokens_fault flow text e h =
    let law = alike (λ l. Succeeds (parts_in flow l)) IsRight fault_after (tokens text) e (right_from flow) (right_to flow) (tokens_law flow (tokens text) e h) in
    inl ((λ right. fails (parts_in flow (tokens text)) e h (right_to flow (tokens text) right)), law.count, law.longest, law.is)

-- ---- the flow word
allowed_no_clash : (d : Direction) (flow : Option Flow) → AllowsFlow d flow → is_clash d flow ≡ false
allowed_no_clash d flow allowed = go (is_clash d flow) refl
  where
    go : (b : Bool) → is_clash d flow ≡ b → is_clash d flow ≡ false
    go true clash = absurd (clash_found d flow clash allowed)
    go false none = none

-- ---- the reader
filter_fault : (flow : Option Flow) (text : List ℕ) (e : FilterFault) → filter_in flow (tokens text) ≡ Err e → FilterFaultOf text flow e
unfolding filter_in
filter_fault flow text e h = go (parts_in flow (tokens text)) refl
  where
    go : (r : Result Filter FilterFault) → parts_in flow (tokens text) ≡ r → FilterFaultOf text flow e
    go (Err d) is =
        let joined = rw is at h in
        let same : d ≡ e = cc in
        tokens_fault flow text e (is ∙ ap (λ (x : FilterFault). Err x) same)
    go (Ok f) is = test (is_clash f.direction flow) refl
      where
        test : (b : Bool) → is_clash f.direction flow ≡ b → FilterFaultOf text flow e
        test true clash =
            let joined = rw (is, clash) at h in
            let same : fault.Flow ≡ e = cc in
            inr (sym same, (f, (tokens_found flow (tokens text) f is).0, clash_found f.direction flow clash))
        test false clash = let joined = rw (is, clash) at h in absurd (cc)

filter_found : (flow : Option Flow) (text : List ℕ) (f : Filter) → filter_in flow (tokens text) ≡ Ok f → Spells text flow f
unfolding filter_in
filter_found flow text f h = go (parts_in flow (tokens text)) refl
  where
    go : (r : Result Filter FilterFault) → parts_in flow (tokens text) ≡ r → Spells text flow f
    go (Err d) is = let joined = rw is at h in absurd (cc)
    go (Ok g) is = test (is_clash g.direction flow) refl
      where
        test : (b : Bool) → is_clash g.direction flow ≡ b → Spells text flow f
        test true clash = let joined = rw (is, clash) at h in absurd (cc)
        test false clash =
            let joined = rw (is, clash) at h in
            let same : g ≡ f = cc in
            let found = tokens_found flow (tokens text) g is in
            subst (λ (k : Filter). Spells text flow k) same (record { parts = found.0; given = found.1; allowed = no_clash g.direction flow clash })

pub filter_again : (flow : Option Flow) (text : List ℕ) (f : Filter) → Spells text flow f → filter_in flow (tokens text) ≡ Ok f
unfolding filter_in
filter_again flow text f s =
    let is : parts_in flow (tokens text) ≡ Ok f = tokens_again flow (tokens text) f s.parts ∙ ap (λ (w : Option Flow). Ok (record f { flow = w })) (sym s.given) in
    let clash : is_clash f.direction flow ≡ false = allowed_no_clash f.direction flow s.allowed in
    rw (is, clash) refl

pub read_found : (flow : Option Flow) (text : List ℕ) (r : Result Filter FilterFault) → r ≡ filter_in flow (tokens text) → IfOk r (λ f. Spells text flow f)
read_found flow text (Ok f) h = filter_found flow text f (sym h)
read_found flow text (Err e) h = tt

pub read_fault : (flow : Option Flow) (text : List ℕ) (r : Result Filter FilterFault) → r ≡ filter_in flow (tokens text) → IfErr r (λ e. FilterFaultOf text flow e)
read_fault flow text (Ok f) h = tt
read_fault flow text (Err e) h = filter_fault flow text e (sym h)

-- ---- one fault
-- tokens spell filters of one direction
same_direction : (ts : List Token) (f g : Filter) → SpellsTokens ts f → SpellsTokens ts g → f.direction ≡ g.direction
same_direction ts f g sf sg =
    let both : Ok (record f { flow = None }) ≡ Ok (record g { flow = None }) = sym (tokens_again None ts f sf) ∙ tokens_again None ts g sg in
    let same : record f { flow = None } ≡ record g { flow = None } = cc in
    ap (λ (k : Filter). k.direction) same

tokens_once : (ts : List Token) (d e : FilterFault) → TokensFault ts d → TokensFault ts e → d ≡ e
tokens_once ts d e hd he =
    let same : hd.1 ≡ he.1 = same_count IsRight ts hd.1 he.1 hd.2 he.2 in
    hd.3 ∙ ap (λ (n : ℕ). fault_after (take n ts) (slice_get ts n)) same ∙ sym he.3

pub fault_once : (text : List ℕ) (flow : Option Flow) (d e : FilterFault) → FilterFaultOf text flow d → FilterFaultOf text flow e → d ≡ e
fault_once text flow d e (inl hd) (inl he) = tokens_once (tokens text) d e hd he
fault_once text flow d e (inl hd) (inr he) = absurd (hd.0 (he.1.0, he.1.1))
fault_once text flow d e (inr hd) (inl he) = absurd (he.0 (hd.1.0, hd.1.1))
fault_once text flow d e (inr hd) (inr he) = hd.0 ∙ sym he.0

pub fault_or_filter : (text : List ℕ) (flow : Option Flow) (f : Filter) (e : FilterFault) → Spells text flow f → FilterFaultOf text flow e → ⊥
fault_or_filter text flow f e s (inl h) = h.0 (f, s.parts)
fault_or_filter text flow f e s (inr h) =
    let same : f.direction ≡ h.1.0.direction = same_direction (tokens text) f h.1.0 s.parts h.1.1 in
    h.1.2 (subst (λ (d : Direction). AllowsFlow d flow) same s.allowed)
