-- Lines that are orders, one after the other.
use Rattle.std.proofs.Common.{◌≡◌, ◌∙◌, ◌⊎◌, ◌<◌, ◌≤◌, ◌+◌, ℕ, Bool, true, false, List, [], ◌∷◌, ◌++◌, All, length, refl, sym, ap, append-nil, arith, subst, inl, inr}
use Rattle.std.proofs.lemmas.List.Elements.{All-cons, All-nil, filter-append}
use Rattle.std.specs.Prelude.{IfErr, IfOk, OnOk, Option, Some, None, Result, Ok, Err, Vec, not, string_bytes, if◌then◌else◌}
use Rattle.std.specs.declared.alloc.Global.{Global}
use Rattle.pcef_model.specs.declared.command.Command.{Command}
use Rattle.pcef_line.specs.declared.fault.LineFault.{LineFault}
use Rattle.pcef_line.specs.declared.fault.LineFault.TheVariants.{NoMemory}
use Rattle.pcef_line.specs.declared.line.Line.{Line}
use Rattle.pcef_script.specs.ScriptAnswers.{LineDue, answered}
use Rattle.pcef_script.specs.ScriptLines.{is_blank_line}
use Rattle.pcef_script.specs.Scripts.{all_lines}
use Rattle.pcef_run.specs.Inputs.{IsRead}
use Rattle.pcef_run.specs.Plans.{line_of_command}
use Rattle.pcef_run.specs.declared.fault.PlanFault.{PlanFault}
use Rattle.pcef_run.specs.declared.fault.PlanFault.TheVariants as fault
use Rattle.pcef_run.specs.Reasons.{IsFaultAt, IsFor, SaysReason, untaken_by}
use Rattle.pcef_run.specs.declared.unfit.Unfit.{Unfit}
use Rattle.pcef_run.specs.declared.unfit.Unfit.TheVariants as unfit
use Rattle.pcef_run.specs.declared.unfit.Untaken.{Untaken}
use Rattle.pcef_run.specs.declared.unfit.Untaken.TheVariants as untaken
use Rattle.pcef_run.proofs.PlanLines.{unread_for}
use Rattle.pcef_run.specs.Orders.{AreOrdered, AreOrders, FailsInOrders, IsOrder, IsWrong, IsWrongFor, IsWrongLine, ReadsOrders, TakesLine, other_than_command, session_in}
use Rattle.pcef_run.specs.PoolRuns.{AreFor}
use Rattle.pcef_run.specs.declared.order.Order.{Order}

-- ---- one line
pub no_session : (sessions : ℕ) (bytes : List ℕ) → None ≡ session_in bytes → IsWrong sessions bytes unfit.NoNumber
no_session sessions bytes is = subst (λ s. IsWrongFor sessions s unfit.NoNumber) is refl

pub no_such_session : (sessions : ℕ) (bytes rest : List ℕ) (n : ℕ) → Some (n, rest) ≡ session_in bytes → sessions ≤ n → IsWrong sessions bytes (unfit.NoSession sessions)
no_such_session sessions bytes rest n is beyond = subst (λ s. IsWrongFor sessions s (unfit.NoSession sessions)) is (inl (beyond, refl))

pub other_line : (sessions : ℕ) (bytes rest : List ℕ) (n : ℕ) (due : Result Line LineFault) (why : Unfit) → Some (n, rest) ≡ session_in bytes → n < sessions → LineDue rest due
    → other_than_command due ≡ Some why → IsWrong sessions bytes why
other_line sessions bytes rest n due why is below reads other = subst (λ s. IsWrongFor sessions s why) is (inr (below, (due, reads, other)))

pub unread_line : (sessions : ℕ) (bytes rest : List ℕ) (n : ℕ) (f : LineFault) → Some (n, rest) ≡ session_in bytes → n < sessions
    → (due : Result Line LineFault) × LineDue rest due × ((f ≡ NoMemory) ⊎ (due ≡ Err f)) → IsFor (IsWrong sessions bytes) (untaken_by f)
unread_line sessions bytes rest n f is below (due, reads, inl none) = unread_for (IsWrong sessions bytes) f (inl none)
unread_line sessions bytes rest n f is below (due, reads, inr same) =
    unread_for (IsWrong sessions bytes) f (inr (other_line sessions bytes rest n due (unfit.AtFault f) is below reads (ap other_than_command same)))

-- of a line that isn't blank
pub wrong_line : (sessions : ℕ) (bytes : List ℕ) (e : Untaken) → is_blank_line bytes ≡ false → IsFor (IsWrong sessions bytes) e → IsFor (IsWrongLine sessions bytes) e
wrong_line sessions bytes (untaken.Unfit why) filled is = (filled, is)
wrong_line sessions bytes untaken.NoMemory filled is = tt

pub lacks_memory : (Is : Unfit → Type 0) (r : Result (Unit {0}) Untaken) → IfErr r (λ e. e ≡ untaken.NoMemory) → IfErr r (IsFor Is)
lacks_memory Is (Ok done) lacks = tt
lacks_memory Is (Err e) lacks = subst (IsFor Is) (sym lacks) tt

-- ---- lines
orders_more : (sessions : ℕ) (lines : List (List ℕ)) (orders : List Order) (bytes : List ℕ) (o : Order) → AreOrders sessions lines orders → IsOrder sessions bytes o → AreOrders sessions (lines ++ bytes ∷ []) (orders ++ o ∷ [])
orders_more sessions [] orders bytes o none is = (o, [], ap (λ t. t ++ o ∷ []) none, is, refl)
orders_more sessions (b ∷ lines) orders bytes o (first, others, same, first_is, rest) is =
    (first, others ++ o ∷ [], ap (λ t. t ++ o ∷ []) same, first_is, orders_more sessions lines others bytes o rest is)

filled_one : (test : Bool) (bytes : List ℕ) → is_blank_line bytes ≡ test → answered (bytes ∷ []) ≡ (if not test then bytes ∷ [] else [])
filled_one test bytes is = rw is refl

-- a blank line is passed over
pub blank_taken : (sessions : ℕ) (lines : List (List ℕ)) (bytes : List ℕ) (orders : List Order) → is_blank_line bytes ≡ true → AreOrdered sessions lines orders → AreOrdered sessions (lines ++ bytes ∷ []) orders
blank_taken sessions lines bytes orders blank are =
    let same : answered (lines ++ bytes ∷ []) ≡ answered lines =
    filter-append (λ line. not (is_blank_line line)) lines (bytes ∷ []) ∙ ap (λ t. answered lines ++ t) (filled_one true bytes blank) ∙ append-nil (answered lines) in
    subst (λ ls. AreOrders sessions ls orders) (sym same) are

-- and another one is an order
pub order_taken : (sessions : ℕ) (lines : List (List ℕ)) (bytes : List ℕ) (orders : List Order) (o : Order) → is_blank_line bytes ≡ false → IsOrder sessions bytes o → AreOrdered sessions lines orders
    → AreOrdered sessions (lines ++ bytes ∷ []) (orders ++ o ∷ [])
order_taken sessions lines bytes orders o filled is are =
    let same : answered (lines ++ bytes ∷ []) ≡ answered lines ++ bytes ∷ [] =
    filter-append (λ line. not (is_blank_line line)) lines (bytes ∷ []) ∙ ap (λ t. answered lines ++ t) (filled_one false bytes filled) in
    subst (λ ls. AreOrders sessions ls (orders ++ o ∷ [])) (sym same) (orders_more sessions (answered lines) orders bytes o are is)

pub order_added : (r : Result (Unit {0}) Untaken) (sessions : ℕ) (bytes : List ℕ) (old new : List Order) (o : Order) → is_blank_line bytes ≡ false → IsOrder sessions bytes o → OnOk r (new ≡ old ++ o ∷ [])
    → OnOk r (TakesLine sessions bytes old new)
order_added (Ok done) sessions bytes old new o filled is pushed = λ lines are. subst (AreOrdered sessions (lines ++ bytes ∷ [])) (sym pushed) (order_taken sessions lines bytes old o filled is are)
order_added (Err e) sessions bytes old new o filled is pushed = tt

-- ---- inputs
-- the first line that is no order
pub fails_at : (sessions : ℕ) (lines front : List (List ℕ)) (bytes : List ℕ) (rest : List (List ℕ)) (before : List Order) (number : ℕ) (u : Untaken) (f : PlanFault) → lines ≡ front ++ bytes ∷ rest
    → number ≡ length front + 1 → AreOrdered sessions front before → IsFor (IsWrongLine sessions bytes) u → IsFaultAt number u f → FailsInOrders sessions lines f
fails_at sessions lines front bytes rest before number (untaken.Unfit why) (fault.Line first) whole at ordered wrong (numbered, is, told) =
    (front, bytes, rest, before, whole, numbered ∙ at, ordered, subst (IsWrongLine sessions bytes) (sym is) wrong, subst (λ w. SaysReason w (string_bytes first.explanation)) (sym is) told)
fails_at sessions lines front bytes rest before number (untaken.Unfit why) fault.Read whole at ordered wrong none = absurd none
fails_at sessions lines front bytes rest before number (untaken.Unfit why) fault.TooMuch whole at ordered wrong none = absurd none
fails_at sessions lines front bytes rest before number (untaken.Unfit why) fault.NoMemory whole at ordered wrong none = tt
fails_at sessions lines front bytes rest before number untaken.NoMemory (fault.Line first) whole at ordered wrong none = absurd none
fails_at sessions lines front bytes rest before number untaken.NoMemory fault.Read whole at ordered wrong none = absurd none
fails_at sessions lines front bytes rest before number untaken.NoMemory fault.TooMuch whole at ordered wrong none = absurd none
fails_at sessions lines front bytes rest before number untaken.NoMemory fault.NoMemory whole at ordered wrong is = tt

pub input_ordered : (sessions : ℕ) (r : Result (Vec Order Global) PlanFault) (input : List ℕ) (before left : Option (List ℕ)) → IsRead input before left
    → IfOk r (λ v. AreOrdered sessions (all_lines input) v.items) → IfErr r (λ e. FailsInOrders sessions (all_lines input) e) → ReadsOrders sessions r before left
input_ordered sessions (Ok orders) input before left read are fails = (input, read, are)
input_ordered sessions (Err (fault.Line first)) input before left read are fails = (input, read, fails)
input_ordered sessions (Err fault.NoMemory) input before left read are fails = (input, read.read, omega (arith, read.most))
input_ordered sessions (Err fault.Read) input before left read are fails = absurd fails
input_ordered sessions (Err fault.TooMuch) input before left read are fails = absurd fails

orders_for : (sessions : ℕ) (lines : List (List ℕ)) (orders : List Order) → AreOrders sessions lines orders → AreFor sessions orders
orders_for sessions [] orders none =
    let Known : Order → Type 0 = λ o. o.session < sessions in
    subst (All Known) (sym none) (All-nil Known)
orders_for sessions (bytes ∷ lines) orders (first, others, same, is, rest) =
    let Known : Order → Type 0 = λ o. o.session < sessions in
    subst (All Known) (sym same) (All-cons Known first others is.2 (orders_for sessions lines others rest))

-- each order is for a session that there is
pub orders_known : (sessions : ℕ) (orders : Vec Order Global) (before left : Option (List ℕ)) → ReadsOrders sessions (Ok orders) before left → AreFor sessions orders.items
orders_known sessions orders before left (input, read, are) = orders_for sessions (answered (all_lines input)) orders.items are
