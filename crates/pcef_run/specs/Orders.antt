-- What the lines of an input ask of sessions on a pool (own choice).
use Rattle.std.specs.Prelude.{ℕ, ◌≡◌, ◌⊎◌, ◌≤◌, ◌<◌, ◌+◌, ◌-◌, ◌*◌, ◌==◌, ◌&&◌, Bool, true, false, nat_le, List, [], ◌∷◌, ◌++◌, length, Vec, Option, Some, None, Result, Ok, Err, string_bytes, if◌then◌else◌}
use Rattle.std.specs.declared.alloc.Global.{Global}
use Rattle.pcef_model.specs.declared.step.Step.TheVariants as step
use Rattle.pcef_line.specs.declared.fault.LineFault.{LineFault}
use Rattle.pcef_line.specs.declared.line.Line.{Line}
use Rattle.pcef_line.specs.declared.line.Line.TheVariants as line
use Rattle.pcef_script.specs.ScriptAnswers.{LineDue, answered}
use Rattle.pcef_script.specs.ScriptLines.{is_blank_line}
use Rattle.pcef_script.specs.Scripts.{all_lines}
use Rattle.pcef_run.specs.Inputs.{IsRead, IsUnread}
use Rattle.pcef_run.specs.Plans.{line_of_command}
use Rattle.pcef_run.specs.Reasons.{SaysReason}
use Rattle.pcef_run.specs.declared.fault.PlanFault.{PlanFault}
use Rattle.pcef_run.specs.declared.fault.PlanFault.TheVariants as fault
use Rattle.pcef_run.specs.declared.unfit.FirstUnfit.{FirstUnfit}
use Rattle.pcef_run.specs.declared.unfit.Unfit.{Unfit}
use Rattle.pcef_run.specs.declared.unfit.Unfit.TheVariants as unfit
use Rattle.pcef_run.specs.declared.order.Order.{Order}

-- ---- lines
abbrev pub is_between : ℕ → ℕ → ℕ → Bool
is_between low high b = nat_le low b && nat_le b high

-- two digits, of which the first is no zero, and a space
abbrev pub after_two_digits : ℕ → ℕ → List ℕ → Option (ℕ × List ℕ)
after_two_digits ten digit [] = None
after_two_digits ten digit (space ∷ rest) =
    if (is_between 49 57 ten && is_between 48 57 digit) && (space == 32) then Some ((ten - 48) * 10 + (digit - 48), rest) else None

-- the number of a session, in one or two decimal digits without a zero before them, and what follows the one space behind it
abbrev pub session_in : List ℕ → Option (ℕ × List ℕ)
session_in [] = None
session_in (first ∷ []) = None
session_in (first ∷ second ∷ rest) =
    if is_between 48 57 first && (second == 32) then Some (first - 48, rest) else after_two_digits first second rest

-- a line is an order for one of `sessions` sessions: its number, and a line of a script that is a command
abbrev pub IsOrder : ℕ → List ℕ → Order → Type 0
IsOrder sessions bytes o =
    (rest : List ℕ) × (session_in bytes ≡ Some (o.session, rest)) × (o.session < sessions) × LineDue rest (Ok (line_of_command o.command))

-- A line that is none, by its reason: it isn't of this form, there is no such session, or what follows is at fault or no
-- command.
abbrev pub other_than_command : Result Line LineFault → Option Unfit
other_than_command (Ok (line.Step (step.Command c))) = None
other_than_command (Ok asked) = Some unfit.NotOfPool
other_than_command (Err fault) = Some (unfit.AtFault fault)

abbrev pub IsNoCommand : List ℕ → Unfit → Type 0
IsNoCommand rest why = (due : Result Line LineFault) × LineDue rest due × (other_than_command due ≡ Some why)

abbrev pub IsWrongFor : ℕ → Option (ℕ × List ℕ) → Unfit → Type 0
IsWrongFor sessions None why = why ≡ unfit.NoNumber
IsWrongFor sessions (Some (n, rest)) why =
    ((sessions ≤ n) × (why ≡ unfit.NoSession sessions)) ⊎ ((n < sessions) × IsNoCommand rest why)

abbrev pub IsWrong : ℕ → List ℕ → Unfit → Type 0
IsWrong sessions bytes why = IsWrongFor sessions (session_in bytes) why

-- ---- inputs
abbrev pub AreOrders : ℕ → List (List ℕ) → List Order → Type 0
AreOrders sessions [] orders = orders ≡ []
AreOrders sessions (bytes ∷ lines) orders =
    (first : Order) × (others : List Order) × (orders ≡ first ∷ others) × IsOrder sessions bytes first × AreOrders sessions lines others

-- the orders that these lines are, blank ones aside
abbrev pub AreOrdered : ℕ → List (List ℕ) → List Order → Type 0
AreOrdered sessions lines orders = AreOrders sessions (answered lines) orders

-- the first line among these that is neither blank nor an order, by its number, with its reason
abbrev pub IsWrongLine : ℕ → List ℕ → Unfit → Type 0
IsWrongLine sessions bytes why = (is_blank_line bytes ≡ false) × IsWrong sessions bytes why

abbrev pub IsFirstWrong : ℕ → List (List ℕ) → FirstUnfit → Type 0
IsFirstWrong sessions lines first =
    (front : List (List ℕ)) × (bytes : List ℕ) × (rest : List (List ℕ)) × (before : List Order)
    × (lines ≡ front ++ bytes ∷ rest) × (first.number ≡ length front + 1) × AreOrdered sessions front before
    × IsWrongLine sessions bytes first.why × SaysReason first.why (string_bytes first.explanation)

-- The orders of an input that was read to its end, or its first line that is none; and else why it wasn't read. Out of
-- memory may come in either.
abbrev pub ReadsOrders : ℕ → Result (Vec Order Global) PlanFault → Option (List ℕ) → Option (List ℕ) → Type 0
ReadsOrders sessions (Ok orders) before left = (input : List ℕ) × IsRead input before left × AreOrdered sessions (all_lines input) orders.items
ReadsOrders sessions (Err (fault.Line first)) before left = (input : List ℕ) × IsRead input before left × IsFirstWrong sessions (all_lines input) first
ReadsOrders sessions (Err other) before left = IsUnread other before left

-- ---- for private clauses
abbrev pub FailsInOrders : ℕ → List (List ℕ) → PlanFault → Type 0
FailsInOrders sessions lines (fault.Line first) = IsFirstWrong sessions lines first
FailsInOrders sessions lines fault.NoMemory = Unit {0}
FailsInOrders sessions lines other = ⊥

-- the bytes of a line more, whatever lines the orders before are
abbrev pub TakesLine : ℕ → List ℕ → List Order → List Order → Type 0
TakesLine sessions bytes before after =
    (lines : List (List ℕ)) → AreOrdered sessions lines before → AreOrdered sessions (lines ++ bytes ∷ []) after
