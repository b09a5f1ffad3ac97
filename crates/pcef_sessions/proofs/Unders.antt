-- From the steps to an answer to what stands under a name.
use Rattle.std.proofs.Common.{◌≡◌, ◌≢◌, ◌∙◌, ℕ, Bool, true, false, List, Option, Some, None, inl, inr, refl, sym, ap, subst, string_bytes}
use Rattle.pcef_model.specs.Setting.{Setting}
use Rattle.pcef_world.specs.Steps.{Standing}
use Rattle.pcef_script.specs.declared.step.LineAnswer.{LineAnswer}
use Rattle.pcef_script.specs.ScriptAnswers.{AnswersLine}
use Rattle.pcef_sessions.specs.declared.asking.Asking.{Asking}
use Rattle.pcef_sessions.specs.declared.asking.Asking.TheVariants as asking
use Rattle.pcef_sessions.specs.Asked.{asked_of}
use Rattle.pcef_sessions.specs.Under.{Session, InSession, LacksUnder, UnderBy, UnderName, WithoutSession, renewal_text}
use Rattle.pcef_sessions.specs.private.Steps.{AskLacks, AsksOf, InsteadOf, RunLacks, Runs}
use Rattle.pcef_sessions.proofs.Asks.{fault_stays, is_of_script}

-- no session is there
asks_without : (p : Setting) (asks : Asking) (a : LineAnswer) (after : Option Session) → AsksOf p None asks a after → WithoutSession p asks (string_bytes a.text) a.is_fault after
asks_without p (asking.Open ue) a after h = h
asks_without p asking.Renew a after h = h
asks_without p asking.Lines a after h = h
asks_without p asking.End a after h = h
asks_without p (asking.Fault why) a after h = h
asks_without p asking.Script a after h = h

pub none_told : (p : Setting) (there between after : Option Session) (asks : Asking) (line : List ℕ) (a : LineAnswer)
    → Runs there line None between → asks ≡ asked_of line → AsksOf p between asks a after → UnderName p there line (string_bytes a.text) a.is_fault after
none_told p None between after asks line a none is h =
    let moved : AsksOf p None asks a after = subst (λ o. AsksOf p o asks a after) none h in
    subst (λ k. UnderBy p None k line (string_bytes a.text) a.is_fault after) is (asks_without p asks a after moved)
none_told p (Some s) between after asks line a none is h = absurd none

-- a session answered
pub script_told : (p : Setting) (there after : Option Session) (line : List ℕ) (a : LineAnswer) → Runs there line (Some a) after → a.is_fault ≡ false → UnderName p there line (string_bytes a.text) a.is_fault after
script_told p None after line a runs right = absurd runs
script_told p (Some s) after line a runs right =
    let script = is_of_script s.setting s.standing runs.0 line (string_bytes a.text) a.is_fault runs.1 right in
    subst (λ k. UnderBy p (Some s) k line (string_bytes a.text) a.is_fault after) (sym script) runs

-- a session answered with a fault, and the line may be for the sessions
instead_by : (p : Setting) (s : Session) (asks : Asking) (line : List ℕ) (script a : LineAnswer) (between after : Option Session) → Runs (Some s) line (Some script) between → script.is_fault ≡ true
    → InsteadOf p between asks script a after → UnderBy p (Some s) asks line (string_bytes a.text) a.is_fault after
instead_by p s asks line script a between after runs wrong h = by_asks asks h
  where
    same : between ≡ Some s
    same = runs.2 ∙ ap (λ (t : Standing). Some (record s { standing = t })) (fault_stays s.setting s.standing runs.0 line (string_bytes script.text) script.is_fault runs.1 wrong)

    by_asks : (asks : Asking) → InsteadOf p between asks script a after → UnderBy p (Some s) asks line (string_bytes a.text) a.is_fault after
    by_asks (asking.Open ue) h = subst (λ o. AsksOf p o (asking.Open ue) a after) same h
    by_asks asking.Renew h = subst (λ o. AsksOf p o asking.Renew a after) same h
    by_asks asking.Lines h = subst (λ o. AsksOf p o asking.Lines a after) same h
    by_asks asking.End h = subst (λ o. AsksOf p o asking.End a after) same h
    by_asks (asking.Fault why) h = subst (λ o. AsksOf p o (asking.Fault why) a after) same h
    by_asks asking.Script h =
        (runs.0, subst (λ (b : LineAnswer). AnswersLine s.setting s.standing line (string_bytes b.text) b.is_fault runs.0) (sym h.0) runs.1, h.1 ∙ runs.2)

pub instead_told : (p : Setting) (there between after : Option Session) (line : List ℕ) (script a : LineAnswer) → Runs there line (Some script) between → script.is_fault ≡ true
    → InsteadOf p between (asked_of line) script a after → UnderName p there line (string_bytes a.text) a.is_fault after
instead_told p None between after line script a runs wrong h = absurd runs
instead_told p (Some s) between after line script a runs wrong h = instead_by p s (asked_of line) line script a between after runs wrong h

-- memory was lacking for a session's answer: a line at fault changes nothing, and any other asks nothing of the sessions
done_under : (p : Setting) (s : Session) (line : List ℕ) (standing : Standing) (after : Option Session) (text : List ℕ) (at_fault test : Bool) → at_fault ≡ test
    → AnswersLine s.setting s.standing line text at_fault standing → after ≡ Some (record s { standing = standing }) → LacksUnder p (Some s) line after
done_under p s line standing after text at_fault true wrong told is =
    inl (is ∙ ap (λ (t : Standing). Some (record s { standing = t })) (fault_stays s.setting s.standing standing line text at_fault told wrong))
done_under p s line standing after text at_fault false right told is =
    let script = is_of_script s.setting s.standing standing line text at_fault told right in
    inr (record { text = text; at_fault = at_fault; answer = subst (λ k. UnderBy p (Some s) k line text at_fault after) (sym script) (standing, told, is) })

pub run_lacks : (p : Setting) (there after : Option Session) (line : List ℕ) → RunLacks there line after → LacksUnder p there line after
run_lacks p None after line lacks = absurd lacks
run_lacks p (Some s) after line (standing, (filled, inl same), is) = inl (is ∙ ap (λ (t : Standing). Some (record s { standing = t })) same)
run_lacks p (Some s) after line (standing, (filled, inr done), is) = done_under p s line standing after done.text done.at_fault done.at_fault refl done.answer is

-- memory was lacking for what the line asks of the sessions
ask_lacks : (p : Setting) (there after : Option Session) (asks : Asking) (line : List ℕ) → asks ≡ asked_of line → AskLacks there asks after → LacksUnder p there line after
ask_lacks p there after asks line is (inl same) = inl same
ask_lacks p there after asks line is (inr (s, there_is, renews, after_is)) =
    let answer : UnderBy p (Some s) asking.Renew line (renewal_text s) false after = (refl, refl, after_is) in
    let asked : UnderBy p (Some s) (asked_of line) line (renewal_text s) false after =
    subst (λ k. UnderBy p (Some s) k line (renewal_text s) false after) (sym renews ∙ is) answer in
    inr (record { text = renewal_text s; at_fault = false; answer = subst (λ o. UnderName p o line (renewal_text s) false after) (sym there_is) asked })

-- where a session answered with a fault
pub instead_lacks : (p : Setting) (there between after : Option Session) (line : List ℕ) (script : LineAnswer) → Runs there line (Some script) between → script.is_fault ≡ true
    → AskLacks between (asked_of line) after → LacksUnder p there line after
instead_lacks p None between after line script runs wrong lacks = absurd runs
instead_lacks p (Some s) between after line script runs wrong lacks =
    let same : between ≡ Some s = runs.2 ∙ ap (λ (t : Standing). Some (record s { standing = t })) (fault_stays s.setting s.standing runs.0 line (string_bytes script.text) script.is_fault runs.1 wrong) in
    ask_lacks p (Some s) after (asked_of line) line refl (subst (λ o. AskLacks o (asked_of line) after) same lacks)
