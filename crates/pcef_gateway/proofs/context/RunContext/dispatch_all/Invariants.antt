use Rattle.std.specs.Prelude.{◌≡◌, ◌++◌, ◌<◌, ℕ, [], All, length, slice_index_or}
use Rattle.pcef_gateway.specs.Arriving.{headers_for}
use Rattle.pcef_gateway.specs.Commanding.{HaveAnswers}
use Rattle.pcef_gateway.proofs.context.RunContext.dispatch_all.Given as goal

abbrev pub invariant-loop-command : goal.invariant-loop-command
invariant-loop-command g l =
    HaveAnswers l.initial.desk.commands l.yielded l.desk.commands l.answers.items × All (λ a. a.worker < length l.rings) l.left
    × ((w : ℕ) → w < length l.rings → slice_index_or l.rings w [] ++ headers_for w l.left ≡ slice_index_or l.initial.rings w [] ++ headers_for w l.fn.arrivals)
