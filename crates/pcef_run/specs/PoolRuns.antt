-- Sessions on a pool that answer orders: what is written (own choice).
use Rattle.std.specs.Prelude.{ℕ, ◌≡◌, ◌≢◌, ◌⊎◌, ◌<◌, List, [], ◌∷◌, ◌++◌, All, codes, decimal, slice_get, Option, Some, IfSome, Result, Ok, Err}
use Rattle.std.specs.Io.KnownBytes.{Appends, Keeps}
use Rattle.pcef_rule.specs.declared.quantity.Sums.{Sums}
use Rattle.pcef_model.specs.declared.answer.Accepted.{Accepted}
use Rattle.pcef_model.specs.declared.answer.Refusal.{Refusal}
use Rattle.pcef_model.specs.declared.answer.Refusal.TheVariants.{NoMemory}
use Rattle.pcef_answer.specs.StepAnswers.{command_text}
use Rattle.pcef_script.specs.ScriptLines.{AppendsFront}
use Rattle.pcef_run.specs.Granting.{AnswersAt, KeepsOthers, PooledModel, granted_to, settings_of}
use Rattle.pcef_run.specs.Opening.{AreOpened, Asked, OpensOn}
use Rattle.pcef_run.specs.declared.pool_end.PoolEnd.{PoolEnd}
use Rattle.pcef_run.specs.declared.pool_end.PoolEnd.TheVariants as end
use Rattle.pcef_run.specs.declared.order.Order.{Order}

-- ---- one order
-- the line for an answer of the session of a number, with the reports that its journal has for it
abbrev pub IsAnswerLine : ℕ → PooledModel → Result Accepted Refusal → List ℕ → Type 0
IsAnswerLine n after answer text = IfSome (slice_get after.sessions n) (λ s. text ≡ command_text s.journal answer ++ 10 ∷ [])

-- A session answers an order in the room that the others leave it, and this is the line for the answer. What is fixed
-- for each session stays, and the others stay as they were. What the pool has granted is then again what the sessions
-- have. Out of memory is no answer.
pub record AnswersOrder (before : PooledModel) (o : Order) (text : List ℕ) (after : PooledModel) : Type 0 where
  pub answer : Result Accepted Refusal
  pub answers : AnswersAt o.session before o.command answer after
  pub memory : answer ≢ Err NoMemory
  pub line : IsAnswerLine o.session after answer text
  pub settings : settings_of after.sessions ≡ settings_of before.sessions
  pub others : KeepsOthers o.session before after
  pub capacity : after.pool.capacity ≡ before.pool.capacity
  pub granted : after.pool.books.granted ≡ granted_to after.sessions

-- ---- orders
-- the lines for the answers to orders that are given one after the other
abbrev pub AnswersEach : PooledModel → List Order → List ℕ → PooledModel → Type 0
AnswersEach before [] text after = (text ≡ []) × (after ≡ before)
AnswersEach before (o ∷ orders) text after =
    (first rest : List ℕ) × (between : PooledModel) × AnswersOrder before o first between × AnswersEach between orders rest after × (text ≡ first ++ rest)

-- those to the first of them
abbrev pub AnswersFirst : PooledModel → List Order → List ℕ → Type 0
AnswersFirst before orders text =
    (first rest : List Order) × (orders ≡ first ++ rest) × (after : PooledModel) × AnswersEach before first text after

-- the last line: what the pool has granted, in bit/s
abbrev pub granted_text : Sums → List ℕ
granted_text s = codes "granted up " ++ (decimal s.up ++ (codes " down " ++ (decimal s.down ++ codes "\n")))

-- the lines to all orders, and the last line
abbrev pub AnswersAll : PooledModel → List Order → List ℕ → Type 0
AnswersAll before orders text =
    (lines : List ℕ) × (after : PooledModel) × AnswersEach before orders lines after × (text ≡ lines ++ granted_text (granted_to after.sessions))

-- What is written: all that; where the writer fails, a front of it, up to the line that failed; and where memory runs
-- out, the lines before that.
abbrev pub EndsOrders : PooledModel → List Order → Result (Unit {0}) PoolEnd → Option (List ℕ) → Option (List ℕ) → Type 0
EndsOrders before orders (Ok done) old new = (text : List ℕ) × AnswersAll before orders text × Appends old new text
EndsOrders before orders (Err end.Write) old new =
    (text : List ℕ) × (AnswersFirst before orders text ⊎ AnswersAll before orders text) × AppendsFront old new text
EndsOrders before orders (Err end.NoMemory) old new = (text : List ℕ) × AnswersFirst before orders text × Appends old new text
EndsOrders before orders (Err (end.Open fault)) old new = ⊥

-- ---- the run
-- sessions that were opened on a pool of a capacity, of which nothing is granted
pub record OpenedOn (capacity : Sums) (asked : List Asked) (p : PooledModel) : Type 0 where
  pub sessions : AreOpened asked p.sessions
  pub capacity_is : p.pool.capacity ≡ capacity
  pub granted : p.pool.books.granted ≡ granted_to p.sessions

-- sessions are opened on a pool, and answer the orders; or they can't be opened
abbrev pub RunsPool : Sums → List Asked → List Order → Result (Unit {0}) PoolEnd → Option (List ℕ) → Option (List ℕ) → Type 0
RunsPool capacity asked orders (Err (end.Open fault)) old new = OpensOn capacity asked (Some fault) × Keeps old new
RunsPool capacity asked orders (Err end.NoMemory) old new =
    Keeps old new ⊎ ((start : PooledModel) × OpenedOn capacity asked start × EndsOrders start orders (Err end.NoMemory) old new)
RunsPool capacity asked orders result old new =
    (start : PooledModel) × OpenedOn capacity asked start × EndsOrders start orders result old new

-- each order is for one of `sessions` sessions
abbrev pub AreFor : ℕ → List Order → Type 0
AreFor sessions orders = All (λ (o : Order). o.session < sessions) orders

-- ---- for private clauses
abbrev pub WritesOrder : PooledModel → Order → PooledModel → Option (List ℕ) → Option (List ℕ) → Type 0
WritesOrder before o after old new = (text : List ℕ) × AnswersOrder before o text after × Appends old new text

abbrev pub StopsAtOrder : PoolEnd → PooledModel → Order → Option (List ℕ) → Option (List ℕ) → Type 0
StopsAtOrder end.Write before o old new = (text : List ℕ) × (after : PooledModel) × AnswersOrder before o text after × AppendsFront old new text
StopsAtOrder end.NoMemory before o old new = Keeps old new
StopsAtOrder (end.Open fault) before o old new = ⊥

abbrev pub WritesOrders : PooledModel → List Order → PooledModel → Option (List ℕ) → Option (List ℕ) → Type 0
WritesOrders before orders after old new = (text : List ℕ) × AnswersEach before orders text after × Appends old new text

abbrev pub StopsInOrders : PoolEnd → PooledModel → List Order → Option (List ℕ) → Option (List ℕ) → Type 0
StopsInOrders end.Write before orders old new = (text : List ℕ) × AnswersFirst before orders text × AppendsFront old new text
StopsInOrders end.NoMemory before orders old new = (text : List ℕ) × AnswersFirst before orders text × Appends old new text
StopsInOrders (end.Open fault) before orders old new = ⊥

abbrev pub StopsText : PoolEnd → List ℕ → Option (List ℕ) → Option (List ℕ) → Type 0
StopsText end.Write text old new = AppendsFront old new text
StopsText end.NoMemory text old new = Keeps old new
StopsText (end.Open fault) text old new = ⊥
