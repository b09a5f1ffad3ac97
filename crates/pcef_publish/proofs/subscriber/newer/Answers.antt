use Rattle.std.proofs.Common.{◌≡◌, Err, Ok, Result, subst, sym}
use Rattle.std.specs.Prelude.{IfOk, IfSome}
use Rattle.std.specs.Result.{result_ok}
use Rattle.pcef_publish.proofs.subscriber.newer.Goals as goal

-- what holds of a value holds of a copy, where there is one
of_copy : {X E : Type 0} (holds : X → Type 0) (x : X) (r : Result X E) → IfOk r (λ e. e ≡ x) → holds x → IfSome (result_ok r) holds
of_copy holds x (Ok e) same told = subst holds (sym same) told
of_copy holds x (Err e) same told = tt

pub returns : goal.returns
returns g c = rw c.ok.ensures.value (of_copy _ _ c.again.result c.again.ensures c.if-begins.ensures.0)
