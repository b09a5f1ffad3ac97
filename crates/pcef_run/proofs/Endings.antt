-- The ends of the program: their statuses, and what holds at status 0.
use Rattle.std.proofs.Common.{◌≡◌, ◌∙◌, ℕ, ◌<◌, ◌≤◌, Bool, true, false, List, ap, arith, inl, inr, refl, subst, sym}
use Rattle.std.specs.Prelude.{◌==◌, Option, None, Some, Ok, Err, String, Vec, string_bytes}
use Rattle.std.specs.Io.KnownBytes.{Keeps}
use Rattle.std.specs.declared.alloc.Global.{Global}
use Rattle.std.specs.declared.io.ErrorKind.{ErrorKind}
use Rattle.std.specs.declared.io.ErrorKind.TheVariants.{OutOfMemory}
use Rattle.std.specs.IoError.{error_kind}
use Rattle.std.proofs.KnownBytes.{Appends-kept}
use Rattle.std.proofs.lemmas.Bool.{eqb-true}
use Rattle.pcef_catalog.specs.declared.listing.Offer.{Offer}
use Rattle.pcef_model.specs.declared.answer.OpenFault.TheVariants as opening
use Rattle.pcef_model.specs.ProfileModel.{ProfileModel, setting_of}
use Rattle.pcef_profile.specs.ProfileOf.{GivesProfile, ProfileOf}
use Rattle.pcef_profile.specs.declared.fault.ReadProfileFault.{ReadProfileFault}
use Rattle.pcef_profile.specs.declared.fault.ReadProfileFault.TheVariants as profile
use Rattle.pcef_script.specs.declared.fault.ScriptFault.{ScriptFault}
use Rattle.pcef_script.specs.declared.fault.ScriptFault.TheVariants as script
use Rattle.pcef_script.specs.Scripts.{Wrote, all_lines}
use Rattle.pcef_rule.specs.declared.quantity.Sums.{Sums}
use Rattle.pcef_share.specs.declared.pool_state.PoolFault.TheVariants as of_pool
use Rattle.pcef_run.specs.Opening.{Asked}
use Rattle.pcef_run.specs.declared.pooled_fault.PooledFault.TheVariants as pooled
use Rattle.pcef_run.specs.declared.fault.PlanFault.{PlanFault}
use Rattle.pcef_run.specs.declared.fault.PlanFault.TheVariants as plan
use Rattle.pcef_run.specs.PoolRuns.{RunsPool}
use Rattle.pcef_run.specs.declared.pool_end.PoolEnd.{PoolEnd}
use Rattle.pcef_run.specs.declared.pool_end.PoolEnd.TheVariants as pool
use Rattle.pcef_run.specs.declared.order.Order.{Order}
use Rattle.pcef_run.specs.declared.end.End.{End}
use Rattle.pcef_run.specs.declared.end.End.TheVariants as ending
use Rattle.pcef_run.specs.Ends.{IsPlanEnd, end_status, lines_end, pool_end, profile_end, script_end, unread_end}
use Rattle.pcef_run.specs.PlanRuns.{RanPlan}
use Rattle.pcef_run.specs.PoolEnds.{EndsPool, IsProfileUnread, IsWholePool, Text}
use Rattle.pcef_run.specs.Programs.{Ends, EndsAsked, EndsOne, IsWhole, IsWholeAsked, IsWholeOne, IsWholeRun, IsWholeScript, RanScriptOrPlan, RanScript, asked, asked_pool}
use Rattle.pcef_run.specs.Words.{workers_of}

-- ---- statuses
pub status_most : (e : End) → end_status e ≤ 4
status_most ending.Done = omega arith
status_most ending.LinesAtFault = omega arith
status_most (ending.Profile fault) = omega arith
status_most ending.Usage = omega arith
status_most ending.NoMemory = omega arith
status_most ending.NoProfile = omega arith
status_most ending.Read = omega arith
status_most ending.TooMuch = omega arith
status_most ending.Write = omega arith
status_most (ending.Line first text) = omega arith
status_most (ending.Run fault) = omega arith

not_zero : (n : ℕ) → 0 < n → n ≡ 0 → ⊥
not_zero n some is = omega (arith, some, is)

profile_status : (fault : ReadProfileFault) → end_status (profile_end fault) ≡ 0 → ⊥
profile_status profile.NotToml is = not_zero 1 (omega arith) is
profile_status profile.UnknownKey is = not_zero 1 (omega arith) is
profile_status profile.Missing is = not_zero 1 (omega arith) is
profile_status profile.BadValue is = not_zero 1 (omega arith) is
profile_status profile.UnknownQci is = not_zero 1 (omega arith) is
profile_status profile.DefaultIsGbr is = not_zero 1 (omega arith) is
profile_status profile.NoMemory is = not_zero 3 (omega arith) is

fault_status : (fault : ScriptFault) → end_status (script_end (Err fault)) ≡ 0 → ⊥
fault_status script.Read is = not_zero 4 (omega arith) is
fault_status script.Write is = not_zero 4 (omega arith) is
fault_status script.TooMuch is = not_zero 4 (omega arith) is
fault_status script.NoMemory is = not_zero 3 (omega arith) is
fault_status (script.Profile opening.UnknownQci) is = not_zero 1 (omega arith) is
fault_status (script.Profile opening.DefaultIsGbr) is = not_zero 1 (omega arith) is
fault_status (script.Profile opening.NoMemory) is = not_zero 3 (omega arith) is

no_faults : (n : ℕ) → end_status (lines_end n) ≡ 0 → n ≡ 0
no_faults n is = by_test (n == 0) refl
  where
    by_test : (test : Bool) → (n == 0) ≡ test → n ≡ 0
    by_test true holds = eqb-true n 0 holds
    by_test false fails = let one = rw fails at is in absurd (not_zero 1 (omega arith) one)

-- ---- status 0
unread_status : (kind : ErrorKind) → end_status (unread_end kind) ≡ 0 → ⊥
unread_status OutOfMemory is = not_zero 3 (omega arith) is
unread_status kind is = not_zero 4 (omega arith) is

ran_whole : (offers : List Offer) (text : String Global) (terms : ProfileModel) (end : End) (before left old new : Option (List ℕ)) → GivesProfile (Ok terms) (ProfileOf (string_bytes text))
    → RanScript (setting_of terms offers) end before left old new → end_status end ≡ 0 → IsWholeScript offers (Some (Ok text)) before left old new
ran_whole offers text terms end before left old new gives (result, opened, written, runs, kept, inr is) zero = absurd (not_zero 4 (omega arith) (sym (ap end_status is) ∙ zero))
ran_whole offers text terms end before left old new gives (Err fault, opened, written, runs, kept, inl is) zero = absurd (fault_status fault (sym (ap end_status is) ∙ zero))
ran_whole offers text terms end before left old new gives (Ok faults, opened, written, runs, kept, inl is) zero =
    let none : faults ≡ 0 = no_faults faults (sym (ap end_status is) ∙ zero) in
    let wrote : Wrote (setting_of terms offers) (all_lines runs.0) 0 old written = subst (λ n. Wrote (setting_of terms offers) (all_lines runs.0) n old written) none runs.3.1 in
    (text, terms, runs.0, refl, gives, runs.1, runs.3.0, (wrote.0, wrote.1, wrote.2, Appends-kept old written new wrote.0 wrote.3 kept))

run_whole : (offers : List Offer) (text : String Global) (terms : ProfileModel) (workers : ℕ) (end : End) (before left old new : Option (List ℕ)) → GivesProfile (Ok terms) (ProfileOf (string_bytes text))
    → RanPlan (setting_of terms offers) workers end before left old new → end_status end ≡ 0 → IsWholeRun offers workers (Some (Ok text)) before left old new
run_whole offers text terms workers ending.Done before left old new gives ran zero = (text, terms, refl, gives, ran)
run_whole offers text terms workers ending.LinesAtFault before left old new gives ran zero = absurd ran
run_whole offers text terms workers (ending.Profile fault) before left old new gives ran zero = absurd (not_zero 1 (omega arith) zero)
run_whole offers text terms workers ending.Usage before left old new gives ran zero = absurd ran
run_whole offers text terms workers ending.NoMemory before left old new gives ran zero = absurd (not_zero 3 (omega arith) zero)
run_whole offers text terms workers ending.NoProfile before left old new gives ran zero = absurd ran
run_whole offers text terms workers ending.Read before left old new gives ran zero = absurd (not_zero 4 (omega arith) zero)
run_whole offers text terms workers ending.TooMuch before left old new gives ran zero = absurd (not_zero 4 (omega arith) zero)
run_whole offers text terms workers ending.Write before left old new gives ran zero = absurd (not_zero 4 (omega arith) zero)
run_whole offers text terms workers (ending.Line first said) before left old new gives ran zero = absurd (not_zero 1 (omega arith) zero)
run_whole offers text terms workers (ending.Run fault) before left old new gives ran zero = absurd (not_zero 4 (omega arith) zero)

as_asked : (offers : List Offer) (workers : Option ℕ) (text : String Global) (terms : ProfileModel) (end : End) (before left old new : Option (List ℕ)) → GivesProfile (Ok terms) (ProfileOf (string_bytes text))
    → RanScriptOrPlan workers (setting_of terms offers) end before left old new → end_status end ≡ 0 → IsWholeOne offers workers (Some (Ok text)) before left old new
as_asked offers None text terms end before left old new gives ran zero = ran_whole offers text terms end before left old new gives ran zero
as_asked offers (Some workers) text terms end before left old new gives ran zero = run_whole offers text terms workers end before left old new gives ran zero

one_whole : (offers : List Offer) (workers : Option ℕ) (asked : Option Text) (end : End) (before left old new : Option (List ℕ))
    → EndsOne offers workers asked end before left old new → end_status end ≡ 0 → IsWholeOne offers workers asked before left old new
one_whole offers workers None end before left old new h zero = absurd (not_zero 2 (omega arith) (sym (ap end_status h.0) ∙ zero))
one_whole offers workers (Some (Err error)) end before left old new h zero = absurd (unread_status (error_kind error) (sym (ap end_status h.0) ∙ zero))
one_whole offers workers (Some (Ok text)) end before left old new (Ok terms, gives, ran) zero = as_asked offers workers text terms end before left old new gives ran zero
one_whole offers workers (Some (Ok text)) end before left old new (Err fault, gives, ended) zero = absurd (profile_status fault (sym (ap end_status ended.0) ∙ zero))

-- ---- a pool
pool_status : (e : PoolEnd) → end_status (pool_end (Err e)) ≡ 0 → ⊥
pool_status (pool.Open pooled.Sessions) is = not_zero 2 (omega arith) is
pool_status (pool.Open (pooled.Session n opening.UnknownQci)) is = not_zero 1 (omega arith) is
pool_status (pool.Open (pooled.Session n opening.DefaultIsGbr)) is = not_zero 1 (omega arith) is
pool_status (pool.Open (pooled.Session n opening.NoMemory)) is = not_zero 3 (omega arith) is
pool_status (pool.Open (pooled.Pool of_pool.OutOfRange)) is = not_zero 2 (omega arith) is
pool_status (pool.Open pooled.NoMemory) is = not_zero 3 (omega arith) is
pool_status pool.Write is = not_zero 4 (omega arith) is
pool_status pool.NoMemory is = not_zero 3 (omega arith) is

plan_status : (f : PlanFault) (end : End) → IsPlanEnd f end → end_status end ≡ 0 → ⊥
plan_status plan.Read end is zero = not_zero 4 (omega arith) (sym (ap end_status is) ∙ zero)
plan_status plan.TooMuch end is zero = not_zero 4 (omega arith) (sym (ap end_status is) ∙ zero)
plan_status plan.NoMemory end is zero = not_zero 3 (omega arith) (sym (ap end_status is) ∙ zero)
plan_status (plan.Line first) end (inl (text, is, said)) zero = not_zero 1 (omega arith) (sym (ap end_status is) ∙ zero)
plan_status (plan.Line first) end (inr is) zero = not_zero 3 (omega arith) (sym (ap end_status is) ∙ zero)

text_status : (text : Text) (end : End) → IsProfileUnread text end → end_status end ≡ 0 → ⊥
text_status (Ok text) end (inl is) zero = not_zero 3 (omega arith) (sym (ap end_status is) ∙ zero)
text_status (Ok text) end (inr (fault, gives, is)) zero = profile_status fault (sym (ap end_status is) ∙ zero)
text_status (Err error) end is zero = unread_status (error_kind error) (sym (ap end_status is) ∙ zero)

-- what was written stays so
still_run : (capacity : Sums) (asked : List Asked) (orders : List Order) (old written new : Option (List ℕ)) → RunsPool capacity asked orders (Ok tt) old written → Keeps written new
    → RunsPool capacity asked orders (Ok tt) old new
still_run capacity asked orders old written new (start, opened, (text, answers, appended)) kept = (start, opened, (text, answers, Appends-kept old written new text appended kept))

pool_whole : (offers : List Offer) (capacity : Sums) (texts : List Text) (end : End) (before left old new : Option (List ℕ)) → EndsPool offers capacity texts end before left old new → end_status end ≡ 0
    → IsWholePool offers capacity texts before left old new
pool_whole offers capacity texts end before left old new (inl (asked, are, inl (orders, reads, (result, written, runs, kept, inr is)))) zero =
    absurd (not_zero 4 (omega arith) (sym (ap end_status is) ∙ zero))
pool_whole offers capacity texts end before left old new (inl (asked, are, inl (orders, reads, (Ok done, written, runs, kept, inl is)))) zero =
    (asked, are, orders, reads, still_run capacity asked orders.items old written new runs kept)
pool_whole offers capacity texts end before left old new (inl (asked, are, inl (orders, reads, (Err e, written, runs, kept, inl is)))) zero =
    absurd (pool_status e (sym (ap end_status is) ∙ zero))
pool_whole offers capacity texts end before left old new (inl (asked, are, inr (fault, reads, is, kept))) zero = absurd (plan_status fault end is zero)
pool_whole offers capacity texts end before left old new (inr ((front, text, rest, asked, whole, are, unread), kept, still)) zero = absurd (text_status text end unread zero)

whole_asked : (offers : List Offer) (capacity : Option Sums) (words : List (Vec ℕ Global)) (profiles : List Text) (end : End) (before left old new : Option (List ℕ))
    → EndsAsked offers capacity words profiles end before left old new → end_status end ≡ 0 → IsWholeAsked offers capacity words profiles before left old new
whole_asked offers (Some capacity) words profiles end before left old new h zero = pool_whole offers capacity profiles end before left old new h zero
whole_asked offers None words profiles end before left old new h zero = one_whole offers (workers_of words) (asked words profiles) end before left old new h zero

pub whole_ended : (offers : List Offer) (words : List (Vec ℕ Global)) (profiles : List Text) (end : End) (before left old new : Option (List ℕ))
    → Ends offers words profiles end before left old new → end_status end ≡ 0 → IsWhole offers words profiles before left old new
whole_ended offers words profiles end before left old new h zero = whole_asked offers (asked_pool words profiles) words profiles end before left old new h zero
