use Rattle.std.proofs.Common.{rules, ◌≡◌, ◌∙◌, ◌<◌, ◌≤◌, ap, inl, inr, length, refl, subst, List, None, Some, false, true}
use Rattle.pcef_model.specs.Refusals.{first_of}
use Rattle.pcef_share.specs.Pools.{PoolModel}
use Rattle.pcef_run.specs.Opening.{Asked, list_faults}
use Rattle.pcef_run.proofs.Opened.{as_many, nothing_granted, opens, out_of_range, session_told}
use Rattle.pcef_run.proofs.pooled.Pooled.open.Goals as goal

pub returns-in-Some-clause-answer : goal.returns-in-Some-clause-answer
returns-in-Some-clause-answer g c =
    let some : 0 < length c.args.profiles.items = search rules in
    let few : length c.args.profiles.items ≤ 64 = search rules in
    inl (session_told c.args.capacity c.args.profiles.items c.in-Some.fault some few
    (subst (λ (xs : List Asked). Some c.in-Some.fault ≡ first_of (list_faults 0 xs)) c.as_slice.ensures.value c.in-Some.ensures))

pub returns-in-Err-clause-answer : goal.returns-in-Err-clause-answer
returns-in-Err-clause-answer g c =
    let some : 0 < length c.args.profiles.items = search rules in
    let few : length c.args.profiles.items ≤ 64 = search rules in
    let none : None ≡ first_of (list_faults 0 c.args.profiles.items) = subst (λ (xs : List Asked). None ≡ first_of (list_faults 0 xs)) c.as_slice.ensures.value c.in_default.ensures in
    inl (out_of_range c.args.capacity c.args.profiles.items c.in-Err.fault some few none (λ within. let no : false ≡ true = c.in-Err.ensures.within.1 within in cc) c.in-Err.ensures.fault)

pub invariant_of-result : goal.invariant_of-result
invariant_of-result g c = ap (λ (v : PoolModel). v.books.granted) c.in-Ok-open_members.ensures.pool ∙ nothing_granted c.args.profiles.items c.in-Ok-open_members.members.items c.in-Ok-open_members.ensures.sessions

pub returns-in-Ok-open_members-clause-answer : goal.returns-in-Ok-open_members-clause-answer
returns-in-Ok-open_members-clause-answer g c =
    let some : 0 < length c.args.profiles.items = search rules in
    let few : length c.args.profiles.items ≤ 64 = search rules in
    let none : None ≡ first_of (list_faults 0 c.args.profiles.items) = subst (λ (xs : List Asked). None ≡ first_of (list_faults 0 xs)) c.as_slice.ensures.value c.in_default.ensures in
    opens c.args.capacity c.args.profiles.items some few none (c.in-Ok.ensures.within.0 refl)

pub returns-in-Err-open_members-clause-answer : goal.returns-in-Err-open_members-clause-answer
returns-in-Err-open_members-clause-answer g c =
    let some : 0 < length c.args.profiles.items = search rules in
    let few : length c.args.profiles.items ≤ 64 = search rules in
    let none : None ≡ first_of (list_faults 0 c.args.profiles.items) = subst (λ (xs : List Asked). None ≡ first_of (list_faults 0 xs)) c.as_slice.ensures.value c.in_default.ensures in
    inr (opens c.args.capacity c.args.profiles.items some few none (c.in-Ok.ensures.within.0 refl), refl)

pub returns-in-Ok-open_members-clause-many : goal.returns-in-Ok-open_members-clause-many
returns-in-Ok-open_members-clause-many g c = as_many c.args.profiles.items c.in-Ok-open_members.members.items c.in-Ok-open_members.ensures.sessions

pub returns-in-Ok-open_members-clause-granted : goal.returns-in-Ok-open_members-clause-granted
returns-in-Ok-open_members-clause-granted g c = ap (λ (v : PoolModel). v.books.granted) c.in-Ok-open_members.ensures.pool ∙ nothing_granted c.args.profiles.items c.in-Ok-open_members.members.items c.in-Ok-open_members.ensures.sessions
