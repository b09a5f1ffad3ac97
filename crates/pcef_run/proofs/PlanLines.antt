-- Lines that are planned, one after the other.
use Rattle.std.proofs.Common.{◌≡◌, ◌∙◌, ◌⊎◌, ◌<◌, ◌≤◌, ℕ, Bool, true, false, List, [], ◌∷◌, ◌++◌, length, refl, sym, ap, append-nil, subst, inl, inr}
use Rattle.std.proofs.lemmas.Bool.{le-ltb, lt-ltb}
use Rattle.std.proofs.lemmas.List.Elements.{filter-append}
use Rattle.std.specs.Prelude.{IfErr, None, OnOk, Result, Some, Ok, Err, not, if◌then◌else◌}
use Rattle.pcef_line.specs.declared.fault.LineFault.{LineFault}
use Rattle.pcef_line.specs.declared.fault.LineFault.TheVariants as fault
use Rattle.pcef_line.specs.declared.line.Line.{Line}
use Rattle.pcef_script.specs.ScriptAnswers.{DueWithin, LineDue, answered}
use Rattle.pcef_script.specs.ScriptLines.{is_blank_line, is_too_long, line_most}
use Rattle.pcef_run.specs.Plans.{ArePlanned, AskFor, LineAsks, IsPlanOf, IsUnfit, unfit_for, unfit_if_read}
use Rattle.pcef_run.specs.Reasons.{IsFor, untaken_by}
use Rattle.pcef_run.specs.declared.unfit.Unfit.{Unfit}
use Rattle.pcef_run.specs.declared.unfit.Unfit.TheVariants as unfit
use Rattle.pcef_run.specs.declared.unfit.Untaken.{Untaken}
use Rattle.pcef_run.specs.declared.unfit.Untaken.TheVariants as untaken
use Rattle.pcef_run.specs.declared.plan.Plan.{Plan}

asked_more : (workers : ℕ) (lines : List (List ℕ)) (asked : List Line) (bytes : List ℕ) (l : Line) → AskFor workers lines asked → LineAsks workers bytes l → AskFor workers (lines ++ bytes ∷ []) (asked ++ l ∷ [])
asked_more workers [] asked bytes l none asks = (l, [], ap (λ t. t ++ l ∷ []) none, asks, refl)
asked_more workers (b ∷ lines) asked bytes l (first, others, is, reads, rest) asks =
    (first, others ++ l ∷ [], ap (λ t. t ++ l ∷ []) is, reads, asked_more workers lines others bytes l rest asks)

filled_one : (test : Bool) (bytes : List ℕ) → is_blank_line bytes ≡ test → answered (bytes ∷ []) ≡ (if not test then bytes ∷ [] else [])
filled_one test bytes is = rw is refl

-- a blank line is passed over
pub blank_planned : (workers : ℕ) (lines : List (List ℕ)) (bytes : List ℕ) (plan : Plan) → is_blank_line bytes ≡ true → ArePlanned workers lines plan → ArePlanned workers (lines ++ bytes ∷ []) plan
blank_planned workers lines bytes plan blank (asked, ask, is) =
    let same : answered (lines ++ bytes ∷ []) ≡ answered lines =
    filter-append (λ line. not (is_blank_line line)) lines (bytes ∷ []) ∙ ap (λ t. answered lines ++ t) (filled_one true bytes blank) ∙ append-nil (answered lines) in
    (asked, subst (λ ls. AskFor workers ls asked) (sym same) ask, is)

-- and another one is asked for
pub line_planned : (workers : ℕ) (lines : List (List ℕ)) (bytes : List ℕ) (plan new : Plan) (l : Line) → is_blank_line bytes ≡ false → LineDue bytes (Ok l) → unfit_for workers l ≡ None
    → ((asked : List Line) → IsPlanOf asked plan → IsPlanOf (asked ++ l ∷ []) new) → ArePlanned workers lines plan → ArePlanned workers (lines ++ bytes ∷ []) new
line_planned workers lines bytes plan new l filled due fit grows (asked, ask, is) =
    let same : answered (lines ++ bytes ∷ []) ≡ answered lines ++ bytes ∷ [] =
    filter-append (λ line. not (is_blank_line line)) lines (bytes ∷ []) ∙ ap (λ t. answered lines ++ t) (filled_one false bytes filled) in
    (asked ++ l ∷ [], subst (λ ls. AskFor workers ls (asked ++ l ∷ [])) (sym same) (asked_more workers (answered lines) asked bytes l ask (due, fit)), grows asked is)

-- what is asked for was added
pub line_added : (r : Result (Unit {0}) Untaken) (workers : ℕ) (lines : List (List ℕ)) (bytes : List ℕ) (plan new : Plan) (l : Line) → is_blank_line bytes ≡ false → LineDue bytes (Ok l) → OnOk r (unfit_for workers l ≡ None)
    → ((asked : List Line) → IsPlanOf asked plan → OnOk r (IsPlanOf (asked ++ l ∷ []) new)) → ArePlanned workers lines plan → OnOk r (ArePlanned workers (lines ++ bytes ∷ []) new)
line_added (Ok done) workers lines bytes plan new l filled due fit grows planned = line_planned workers lines bytes plan new l filled due fit grows planned
line_added (Err e) workers lines bytes plan new l filled due fit grows planned = tt

-- what a run has no use for
pub use_unfit : (r : Result (Unit {0}) Untaken) (workers : ℕ) (bytes : List ℕ) (l : Line) → is_blank_line bytes ≡ false → LineDue bytes (Ok l)
    → IfErr r (IsFor (λ why. unfit_for workers l ≡ Some why)) → IfErr r (IsFor (IsUnfit workers bytes))
use_unfit (Ok done) workers bytes l filled due is = tt
use_unfit (Err (untaken.Unfit why)) workers bytes l filled due is = (filled, Ok l, due, is)
use_unfit (Err untaken.NoMemory) workers bytes l filled due is = tt

-- a line that couldn't be read
by_fault : (Is : Unfit → Type 0) (f : LineFault) → Is (unfit.AtFault f) → IsFor Is (untaken_by f)
by_fault Is fault.NoMemory is = tt
by_fault Is f is = is

pub unread_for : (Is : Unfit → Type 0) (f : LineFault) → (f ≡ fault.NoMemory) ⊎ Is (unfit.AtFault f) → IsFor Is (untaken_by f)
unread_for Is f (inl none) = subst (λ g. IsFor Is (untaken_by g)) (sym none) tt
unread_for Is f (inr is) = by_fault Is f is

pub unfit_read : (workers : ℕ) (bytes : List ℕ) (f : LineFault) → is_blank_line bytes ≡ false
    → (due : Result Line LineFault) × LineDue bytes due × ((f ≡ fault.NoMemory) ⊎ (due ≡ Err f)) → IsFor (IsUnfit workers bytes) (untaken_by f)
unfit_read workers bytes f filled (due, is, inl none) = unread_for (IsUnfit workers bytes) f (inl none)
unfit_read workers bytes f filled (due, is, inr same) = unread_for (IsUnfit workers bytes) f (inr (filled, due, is, ap (unfit_if_read workers) same))
