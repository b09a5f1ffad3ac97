-- The ends of a run.
use Rattle.std.proofs.Common.{◌≡◌, ◌∙◌, ◌⊎◌, ℕ, List, [], ◌++◌, append-nil, inl, inr, refl, subst, sym}
use Rattle.std.specs.Prelude.{Option, Result, Ok, Err, string_bytes}
use Rattle.std.specs.Io.KnownBytes.{Appends, Keeps}
use Rattle.std.proofs.KnownBytes.{Appends-kept, Keeps-refl}
use Rattle.pcef_model.specs.Setting.{Setting}
use Rattle.pcef_model.specs.declared.answer.OpenFault.TheVariants as opening
use Rattle.pcef_gateway.specs.declared.fault.RunFault.{RunFault}
use Rattle.pcef_gateway.specs.declared.fault.RunFault.TheVariants as failure
use Rattle.pcef_script.specs.ScriptLines.{AppendsFront}
use Rattle.pcef_run.specs.Plans.{Plans}
use Rattle.pcef_run.specs.Runs.{EndsPlan, FailsRun, RunsPlan}
use Rattle.pcef_run.specs.Summaries.{summary_text}
use Rattle.pcef_run.specs.declared.fault.PlanFault.{PlanFault}
use Rattle.pcef_run.specs.declared.fault.PlanFault.TheVariants as fault
use Rattle.pcef_run.specs.declared.fault.RunEnd.{RunEnd}
use Rattle.pcef_run.specs.declared.fault.RunEnd.TheVariants as run
use Rattle.pcef_run.specs.declared.plan.Plan.{Plan}
use Rattle.pcef_run.specs.declared.run.Ran.{Ran}
use Rattle.pcef_run.specs.declared.taken.Counts.{Counts}
use Rattle.pcef_run.proofs.PlannedArrivals.{arrivals_known}
use Rattle.pcef_run.specs.declared.end.End.{End}
use Rattle.pcef_run.specs.declared.end.End.TheVariants as ending
use Rattle.pcef_run.specs.Ends.{IsPlanEnd, run_end}
use Rattle.pcef_run.specs.PlanRuns.{IsRunFault, IsWritten, RanOne, RanPlan}

-- ---- what is written
pub written : (ran : Ran) (taken : Counts) (text : List ℕ) (a b c : Option (List ℕ)) → text ≡ summary_text ran taken → Appends a b text → Keeps b c → IsWritten ran taken ending.Done a c
written ran taken text a b c is appended kept = subst (Appends a c) is (Appends-kept a b c text appended kept)

pub unflushed : (ran : Ran) (taken : Counts) (text : List ℕ) (a b c : Option (List ℕ)) → text ≡ summary_text ran taken → Appends a b text → Keeps b c → IsWritten ran taken ending.Write a c
unflushed ran taken text a b c is appended kept = subst (AppendsFront a c) is (text, [], sym (append-nil text), Appends-kept a b c text appended kept)

pub unwritten : (ran : Ran) (taken : Counts) (text : List ℕ) (a b : Option (List ℕ)) → text ≡ summary_text ran taken → AppendsFront a b text → IsWritten ran taken ending.Write a b
unwritten ran taken text a b is front = subst (AppendsFront a b) is front

-- by how the flush ended
pub flushed : (ran : Ran) (taken : Counts) (end : End) (text : List ℕ) (a b c : Option (List ℕ)) → text ≡ summary_text ran taken → Appends a b text
    → (end ≡ ending.Done) ⊎ (end ≡ ending.Write) → Keeps b c → IsWritten ran taken end a c
flushed ran taken end text a b c is appended (inl done) kept = rw done (written ran taken text a b c is appended kept)
flushed ran taken end text a b c is appended (inr fails) kept = rw fails (unflushed ran taken text a b c is appended kept)

-- ---- a plan that was run
pub one_told : (p : Setting) (plan : Plan) (workers : ℕ) (ran : Ran) (end : End) (old new : Option (List ℕ)) → RunsPlan p plan workers ran
    → (taken : Counts) × IsWritten ran taken end old new → RanOne p workers plan end old new
one_told p plan workers ran ending.Done old new runs told = (ran, runs, told.0, told.1)
one_told p plan workers ran ending.LinesAtFault old new runs told = absurd told.1
one_told p plan workers ran (ending.Profile fault) old new runs told = absurd told.1
one_told p plan workers ran ending.Usage old new runs told = absurd told.1
one_told p plan workers ran ending.NoMemory old new runs told = told.1
one_told p plan workers ran ending.NoProfile old new runs told = absurd told.1
one_told p plan workers ran ending.Read old new runs told = absurd told.1
one_told p plan workers ran ending.TooMuch old new runs told = absurd told.1
one_told p plan workers ran ending.Write old new runs told = (ran, runs, told.0, told.1)
one_told p plan workers ran (ending.Line first text) old new runs told = absurd told.1
one_told p plan workers ran (ending.Run fault) old new runs told = absurd told.1

pub none_told : (p : Setting) (plan : Plan) (workers : ℕ) (end : RunEnd) (old : Option (List ℕ)) → EndsPlan p plan workers end → RanOne p workers plan (run_end end) old old
none_told p plan workers (run.Open opening.UnknownQci) old due = ((opening.UnknownQci, due, refl), Keeps-refl old)
none_told p plan workers (run.Open opening.DefaultIsGbr) old due = ((opening.DefaultIsGbr, due, refl), Keeps-refl old)
none_told p plan workers (run.Open opening.NoMemory) old due = Keeps-refl old
none_told p plan workers (run.Run fault) old due = (due, Keeps-refl old)
none_told p plan workers run.NoMemory old due = Keeps-refl old

-- ---- an input
run_fault : (plan : Plan) (workers : ℕ) (f : RunFault) (before left : Option (List ℕ)) → Plans workers (Ok plan) before left → FailsRun plan workers f → IsRunFault workers f
run_fault plan workers failure.Workers before left planned fails = fails
run_fault plan workers failure.StrangeWorker before left planned fails = fails (arrivals_known workers plan before left planned)
run_fault plan workers failure.Shared before left planned fails = tt
run_fault plan workers failure.Ring before left planned fails = tt
run_fault plan workers failure.Attach before left planned fails = tt
run_fault plan workers failure.Thread before left planned fails = tt
run_fault plan workers failure.Gather before left planned fails = tt
run_fault plan workers failure.NoMemory before left planned fails = fails

pub plan_told : (p : Setting) (plan : Plan) (workers : ℕ) (end : End) (before left old new : Option (List ℕ)) → Plans workers (Ok plan) before left → RanOne p workers plan end old new → RanPlan p workers end before left old new
plan_told p plan workers ending.Done before left old new planned told = (plan, planned, told)
plan_told p plan workers ending.LinesAtFault before left old new planned told = absurd told
plan_told p plan workers (ending.Profile fault) before left old new planned told = (plan, planned, told.0, told.1)
plan_told p plan workers ending.Usage before left old new planned told = absurd told
plan_told p plan workers ending.NoMemory before left old new planned told = told
plan_told p plan workers ending.NoProfile before left old new planned told = absurd told
plan_told p plan workers ending.Read before left old new planned told = absurd told
plan_told p plan workers ending.TooMuch before left old new planned told = absurd told
plan_told p plan workers ending.Write before left old new planned told = (plan, planned, told)
plan_told p plan workers (ending.Line first text) before left old new planned told = absurd told
plan_told p plan workers (ending.Run fault) before left old new planned told = (plan, planned, run_fault plan workers fault before left planned told.0, told.1)

pub no_plan_told : (p : Setting) (workers : ℕ) (e : PlanFault) (end : End) (before left old : Option (List ℕ)) → Plans workers (Err e) before left → IsPlanEnd e end → RanPlan p workers end before left old old
no_plan_told p workers fault.Read end before left old unread is = rw is (unread, Keeps-refl old)
no_plan_told p workers fault.TooMuch end before left old unread is = rw is (unread, Keeps-refl old)
no_plan_told p workers fault.NoMemory end before left old unread is = rw is (Keeps-refl old)
no_plan_told p workers (fault.Line first) end before left old unread (inl (text, is, said)) = rw is (said, unread, Keeps-refl old)
no_plan_told p workers (fault.Line first) end before left old unread (inr is) = rw is (Keeps-refl old)
