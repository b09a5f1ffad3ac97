-- What stands under a name between its `open` and its `end`.
use Rattle.std.proofs.Common.{◌≡◌, ◌∙◌, ℕ, ◌+◌, Bool, List, [], ◌∷◌, ◌++◌, Option, Some, None, refl, sym, ap, subst, append_assoc, append-nil, arith}
use Rattle.std.specs.Prelude.{All, false}
use Rattle.std.proofs.lemmas.List.Elements.{All-head, All-tail}
use Rattle.pcef_packet.specs.declared.header.Addr.{Addr}
use Rattle.pcef_model.specs.Setting.{Setting}
use Rattle.pcef_world.specs.Steps.{Standing, at_start}
use Rattle.pcef_script.specs.ScriptAnswers.{Answers, fault_count}
use Rattle.pcef_sessions.specs.declared.asking.Asking.{Asking}
use Rattle.pcef_sessions.specs.declared.asking.Asking.TheVariants as asking
use Rattle.pcef_sessions.specs.Asked.{asked_of}
use Rattle.pcef_sessions.specs.Between.{IsOfScript, LinesChangeNothing, OpenSessionsAreScripts, RenewedSessionsAreScripts, WholeSessionsAreScripts, faults_of, texts_of}
use Rattle.pcef_sessions.specs.Sayings.{Said}
use Rattle.pcef_sessions.specs.Served.{Under}
use Rattle.pcef_sessions.specs.Under.{Session, InSession, ShowsLines, UnderBy, WithoutSession, done_text, opened, renewal_text, renewed, with_address}

pub open_script : OpenSessionsAreScripts
open_script p s [] saids after all h = (s.standing, (ap texts_of h.0, ap faults_of h.0, refl), h.1)
open_script p s (line ∷ lines) saids after all h =
    let first = h.0 in
    let now : InSession s asking.Script line first.text first.at_fault h.2 =
    subst (λ k. UnderBy p (Some s) k line first.text first.at_fault h.2) (All-head IsOfScript line lines all) h.3 in
    let next : Session = record s { standing = now.0 } in
    let rest = open_script p next lines h.1 after (All-tail IsOfScript line lines all) (subst (λ o. Under p o lines h.1 after) now.2 h.4) in
    (rest.0, (first.text, texts_of h.1, first.at_fault, faults_of h.1, now.0, now.1, rest.1, ap texts_of h.5, ap faults_of h.5), rest.2)

pub lines_stay : LinesChangeNothing
lines_stay p None line text at_fault after shows h =
    let now : WithoutSession p asking.Lines text at_fault after = subst (λ k. UnderBy p None k line text at_fault after) shows h in
    now.2
lines_stay p (Some s) line text at_fault after shows h =
    let now : ShowsLines s text at_fault after = subst (λ k. UnderBy p (Some s) k line text at_fault after) shows h in
    now.2

pub renewed_script : RenewedSessionsAreScripts
renewed_script p s first lines saids after renews all h =
    let now : InSession s asking.Renew first h.0.text h.0.at_fault h.2 =
    subst (λ k. UnderBy p (Some s) k first h.0.text h.0.at_fault h.2) renews h.3 in
    let rest = open_script p (renewed s) lines h.1 after all (subst (λ o. Under p o lines h.1 after) now.2 h.4) in
    let right : fault_count h.0.at_fault ≡ 0 = ap fault_count now.1 in (
      texts_of h.1,
      faults_of h.1,
      rest.0,
      rest.1,
      ap texts_of h.5 ∙ ap (λ t. (t ++ 10 ∷ []) ++ texts_of h.1) now.0,
      ap faults_of h.5 ∙ omega (arith, right),
      rest.2,
    )

-- the lines up to one of them, and the others
under_split : (p : Setting) (a c : Option Session) (lines more : List (List ℕ)) (saids : List Said) → Under p a (lines ++ more) saids c
    → (x y : List Said) × (b : Option Session) × (saids ≡ x ++ y) × Under p a lines x b × Under p b more y c
under_split p a c [] more saids h = ([], saids, a, refl, (refl, refl), h)
under_split p a c (line ∷ lines) more saids h =
    let rest = under_split p h.2 c lines more h.1 h.4 in
    (h.0 ∷ rest.0, rest.1, rest.2, h.5 ∙ ap (λ t. h.0 ∷ t) rest.3, (h.0, rest.0, h.2, h.3, rest.4, refl), rest.5)

texts_last : (saids : List Said) (said : Said) → texts_of (saids ++ said ∷ []) ≡ texts_of saids ++ (said.text ++ 10 ∷ [])
texts_last [] said = append-nil (said.text ++ 10 ∷ [])
texts_last (s ∷ saids) said = ap (λ rest. (s.text ++ 10 ∷ []) ++ rest) (texts_last saids said) ∙ sym (append_assoc (s.text ++ 10 ∷ []) (texts_of saids) (said.text ++ 10 ∷ []))

faults_last : (saids : List Said) (said : Said) → faults_of (saids ++ said ∷ []) ≡ faults_of saids + fault_count said.at_fault
faults_last [] said = omega arith
faults_last (s ∷ saids) said = omega (arith, faults_last saids said)

abbrev ended : List ℕ → List ℕ
ended text = text ++ 10 ∷ []

pub whole_script : WholeSessionsAreScripts
whole_script p ue first last lines saids after opens all ends h =
    let opening = subst (λ k. UnderBy p None k first h.0.text h.0.at_fault h.2) opens h.3 in
    let parts = under_split p h.2 after lines (last ∷ []) h.1 h.4 in
    let there : Session = opened (with_address ue p) in
    let script = open_script p there lines parts.0 parts.2 all (subst (λ o. Under p o lines parts.0 parts.2) opening.2 parts.4) in
    let end = subst (λ o. Under p o (last ∷ []) parts.1 after) script.2 parts.5 in
    let stands : Session = record there { standing = script.0 } in
    let ending : InSession stands asking.End last end.0.text end.0.at_fault end.2 =
    subst (λ k. UnderBy p (Some stands) k last end.0.text end.0.at_fault end.2) ends end.3 in
    let only : parts.1 ≡ end.0 ∷ [] = end.5 ∙ ap (λ t. end.0 ∷ t) end.4.0 in
    let told : saids ≡ h.0 ∷ (parts.0 ++ end.0 ∷ []) = h.5 ∙ ap (λ t. h.0 ∷ t) (parts.3 ∙ ap (λ t. parts.0 ++ t) only) in (
      texts_of parts.0,
      faults_of parts.0,
      script.0,
      script.1,
      ap texts_of told ∙ ap (λ t. ended h.0.text ++ t) (texts_last parts.0 end.0) ∙ sym (append_assoc (ended h.0.text) (texts_of parts.0) (ended end.0.text))
          ∙ ap (λ t. (ended t ++ texts_of parts.0) ++ ended end.0.text) opening.0 ∙ ap (λ t. (ended done_text ++ texts_of parts.0) ++ ended t) ending.0,
      ap faults_of told ∙ faults_of_all h.0 parts.0 end.0 opening.1 ending.1,
      end.4.1 ∙ ending.2,
    )
  where
    faults_of_all : (a : Said) (mid : List Said) (b : Said) → a.at_fault ≡ false → b.at_fault ≡ false → faults_of (a ∷ (mid ++ b ∷ [])) ≡ faults_of mid
    faults_of_all a mid b right also =
        let first : fault_count a.at_fault ≡ 0 = ap fault_count right in
        let last : fault_count b.at_fault ≡ 0 = ap fault_count also in
        omega (arith, faults_last mid b)
