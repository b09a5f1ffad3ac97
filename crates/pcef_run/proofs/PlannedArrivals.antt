-- Packets that are planned are for workers that there are.
use Rattle.std.proofs.Common.{◌≡◌, ◌<◌, ℕ, Bool, true, false, List, [], ◌∷◌, All, ap, refl, subst, sym}
use Rattle.std.specs.Prelude.{Option, None, Ok, Some, is_some, nat_lt, if◌then◌else◌}
use Rattle.std.proofs.lemmas.Bool.{false≢true, ltb-true}
use Rattle.std.proofs.lemmas.List.Elements.{All-append, All-cons, All-nil}
use Rattle.pcef_model.specs.declared.step.Step.TheVariants as step
use Rattle.pcef_line.specs.declared.line.Line.{Line}
use Rattle.pcef_line.specs.declared.line.Line.TheVariants as line
use Rattle.pcef_gateway.specs.declared.arrivals.Arrival.{Arrival}
use Rattle.pcef_script.specs.ScriptAnswers.{answered}
use Rattle.pcef_script.specs.Scripts.{all_lines}
use Rattle.pcef_run.specs.Plans.{AskFor, Plans, arrival_in, packets_in, unfit_for}
use Rattle.pcef_run.specs.declared.plan.Plan.{Plan}
use Rattle.pcef_run.specs.declared.unfit.Unfit.{Unfit}
use Rattle.pcef_run.specs.declared.unfit.Unfit.TheVariants.{NoWorker}

no_reason : (test : Bool) (why : Unfit) → (if test then None else Some why) ≡ None → test ≡ true
no_reason true why none = refl
no_reason false why some = absurd (false≢true (sym (ap is_some some)))

packet_known : (workers : ℕ) (l : Line) → unfit_for workers l ≡ None → All (λ (a : Arrival). a.worker < workers) (arrival_in l)
packet_known workers (line.Step (step.Take w h)) fit =
    let Known : Arrival → Type 0 = λ a. a.worker < workers in
    All-cons Known (record { worker = w; header = h }) [] (ltb-true w workers (no_reason (nat_lt w workers) (NoWorker workers) fit)) (All-nil Known)
packet_known workers other fit = All-nil (λ (a : Arrival). a.worker < workers)

packets_known : (workers : ℕ) (lines : List (List ℕ)) (asked : List Line) → AskFor workers lines asked → All (λ (a : Arrival). a.worker < workers) (packets_in asked)
unfolding packets_in
packets_known workers [] asked none =
    let Known : Arrival → Type 0 = λ a. a.worker < workers in
    subst (λ ls. All Known (packets_in ls)) (sym none) (All-nil Known)
packets_known workers (bytes ∷ lines) asked (first, others, is, asks, rest) =
    let Known : Arrival → Type 0 = λ a. a.worker < workers in
    subst (λ ls. All Known (packets_in ls)) (sym is)
    (All-append Known (arrival_in first) (packets_in others) (packet_known workers first asks.1) (packets_known workers lines others rest))

pub arrivals_known : (workers : ℕ) (plan : Plan) (before left : Option (List ℕ)) → Plans workers (Ok plan) before left → All (λ (a : Arrival). a.worker < workers) plan.arrivals.items
arrivals_known workers plan before left (input, read, (asked, ask, is)) =
    let Known : Arrival → Type 0 = λ a. a.worker < workers in
    subst (All Known) (sym is.arrivals) (packets_known workers (answered (all_lines input)) asked ask)
