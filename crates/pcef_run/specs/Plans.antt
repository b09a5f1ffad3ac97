-- What an input asks of a run (own choice).
use Rattle.std.specs.Prelude.{ℕ, ◌≡◌, ◌≤◌, ◌+◌, Bool, true, false, nat_lt, List, [], ◌∷◌, ◌++◌, length, Option, Some, None, Result, Ok, Err, OnOk, string_bytes, if◌then◌else◌}
use Rattle.pcef_model.specs.declared.command.Command.{Command}
use Rattle.pcef_model.specs.declared.step.Step.TheVariants as step
use Rattle.pcef_line.specs.declared.fault.LineFault.{LineFault}
use Rattle.pcef_line.specs.declared.line.Line.{Line}
use Rattle.pcef_line.specs.declared.line.Line.TheVariants as line
use Rattle.pcef_gateway.specs.declared.arrivals.Arrival.{Arrival}
use Rattle.pcef_script.specs.ScriptAnswers.{LineDue, answered}
use Rattle.pcef_script.specs.ScriptLines.{is_blank_line}
use Rattle.pcef_script.specs.Scripts.{all_lines}
use Rattle.pcef_run.specs.declared.fault.PlanFault.{PlanFault}
use Rattle.pcef_run.specs.declared.fault.PlanFault.TheVariants as fault
use Rattle.pcef_run.specs.declared.plan.Plan.{Plan}
use Rattle.pcef_run.specs.declared.unfit.FirstUnfit.{FirstUnfit}
use Rattle.pcef_run.specs.declared.unfit.Unfit.{Unfit}
use Rattle.pcef_run.specs.declared.unfit.Unfit.TheVariants as unfit
use Rattle.pcef_run.specs.Inputs.{IsRead, IsUnread}
use Rattle.pcef_run.specs.Reasons.{SaysReason}

-- ---- lines
abbrev pub line_of_command : Command → Line
line_of_command c = line.Step (step.Command c)

abbrev pub packet_line : Arrival → Line
packet_line a = line.Step (step.Take a.worker a.header)

-- the command or the packet that a line is, if it is one
abbrev pub command_in : Line → List Command
command_in (line.Step (step.Command c)) = c ∷ []
command_in other = []

abbrev pub arrival_in : Line → List Arrival
arrival_in (line.Step (step.Take w h)) = record { worker = w; header = h } ∷ []
arrival_in other = []

abbrev pub is_packet : Line → Bool
is_packet (line.Step (step.Take w h)) = true
is_packet other = false

-- why a run has no use for a line, if it has none: it takes commands, and packets for one of `workers` workers
abbrev pub unfit_for : ℕ → Line → Option Unfit
unfit_for workers (line.Step (step.Command c)) = None
unfit_for workers (line.Step (step.Take w h)) = if nat_lt w workers then None else Some (unfit.NoWorker workers)
unfit_for workers other = Some unfit.NotOfRun

-- ---- plans
unfoldable pub commands_in : List Line → List Command
commands_in [] = []
commands_in (first ∷ lines) = command_in first ++ commands_in lines

unfoldable pub packets_in : List Line → List Arrival
packets_in [] = []
packets_in (first ∷ lines) = arrival_in first ++ packets_in lines

-- the lines before the first packet, and those from it on
unfoldable pub before_packets : List Line → List Line
before_packets [] = []
before_packets (first ∷ lines) = if is_packet first then [] else first ∷ before_packets lines

unfoldable pub from_packets : List Line → List Line
from_packets [] = []
from_packets (first ∷ lines) = if is_packet first then first ∷ lines else from_packets lines

pub record IsPlanOf (asked : List Line) (plan : Plan) : Type 0 where
  pub first : plan.first.items ≡ commands_in (before_packets asked)
  pub arrivals : plan.arrivals.items ≡ packets_in asked
  pub later : plan.later.items ≡ commands_in (from_packets asked)

-- ---- inputs
-- a line that is read and fits
abbrev pub LineAsks : ℕ → List ℕ → Line → Type 0
LineAsks workers bytes asked = LineDue bytes (Ok asked) × (unfit_for workers asked ≡ None)

abbrev pub AskFor : ℕ → List (List ℕ) → List Line → Type 0
AskFor workers [] asked = asked ≡ []
AskFor workers (bytes ∷ rest) asked =
    (first : Line) × (others : List Line) × (asked ≡ first ∷ others) × LineAsks workers bytes first × AskFor workers rest others

-- what these lines ask for, blank ones aside
abbrev pub ArePlanned : ℕ → List (List ℕ) → Plan → Type 0
ArePlanned workers lines plan = (asked : List Line) × AskFor workers (answered lines) asked × IsPlanOf asked plan

-- a line that isn't blank and doesn't fit for this reason: its own fault, or that a run has no use for it
abbrev pub unfit_if_read : ℕ → Result Line LineFault → Option Unfit
unfit_if_read workers (Ok asked) = unfit_for workers asked
unfit_if_read workers (Err fault) = Some (unfit.AtFault fault)

abbrev pub IsUnfit : ℕ → List ℕ → Unfit → Type 0
IsUnfit workers bytes why =
    (is_blank_line bytes ≡ false) × (due : Result Line LineFault) × LineDue bytes due × (unfit_if_read workers due ≡ Some why)

-- the first such line among these, by its number, with its reason
abbrev pub IsFirstUnfit : ℕ → List (List ℕ) → FirstUnfit → Type 0
IsFirstUnfit workers lines first =
    (front : List (List ℕ)) × (bytes : List ℕ) × (rest : List (List ℕ)) × (before : List Line)
    × (lines ≡ front ++ bytes ∷ rest) × (first.number ≡ length front + 1) × AskFor workers (answered front) before
    × IsUnfit workers bytes first.why × SaysReason first.why (string_bytes first.explanation)

-- The plan of an input that was read to its end, or its first line that is unfit; and else why it wasn't read. Either
-- may run out of memory.
abbrev pub Plans : ℕ → Result Plan PlanFault → Option (List ℕ) → Option (List ℕ) → Type 0
Plans workers (Ok plan) before left = (input : List ℕ) × IsRead input before left × ArePlanned workers (all_lines input) plan
Plans workers (Err (fault.Line first)) before left = (input : List ℕ) × IsRead input before left × IsFirstUnfit workers (all_lines input) first
Plans workers (Err other) before left = IsUnread other before left

-- ---- for private clauses
abbrev pub FailsIn : ℕ → List (List ℕ) → PlanFault → Type 0
FailsIn workers lines (fault.Line first) = IsFirstUnfit workers lines first
FailsIn workers lines fault.NoMemory = Unit {0}
FailsIn workers lines other = ⊥

-- a line more is planned, whatever lines were planned before
abbrev pub AddsLine : {A E : Type 0} → Line → Plan → Result A E → Plan → Type 0
AddsLine line before result after =
    (asked : List Line) → IsPlanOf asked before → OnOk result (IsPlanOf (asked ++ line ∷ []) after)

-- the bytes of a line more are planned, whatever lines were planned before
abbrev pub AddsBytes : {A E : Type 0} → ℕ → List ℕ → Plan → Result A E → Plan → Type 0
AddsBytes workers bytes before result after =
    (lines : List (List ℕ)) → ArePlanned workers lines before → OnOk result (ArePlanned workers (lines ++ bytes ∷ []) after)
