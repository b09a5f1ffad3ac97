-- Deliveries one after the other.
use Rattle.std.proofs.Common.{◌≡◌, ◌∙◌, ◌+◌, ◌<◌, ℕ, suc, zero, List, [], ◌∷◌, ◌++◌, Option, Some, None, refl, ap, sym, arith, inl, inr, length, get_or, take, drop}
use Rattle.std.proofs.lemmas.Bool.{cases_Bool}
use Rattle.std.proofs.lemmas.List.{append_assoc, take_more}
use Rattle.pcef_model.specs.declared.report.Report.{Report}
use Rattle.pcef_trigger.specs.declared.kind.ReportKind.{ReportKind}
use Rattle.pcef_trigger.specs.declared.kind.ReportKind.TheVariants.{Usage, Access, Inactive}
use Rattle.pcef_trigger.specs.Kinds.{of_kind, same_kind, report_kind}
use Rattle.pcef_trigger.specs.Deliveries.{ReportLists, lists_after, with_more}

more_joined : (first more : List Report) (o : Option (List Report)) → with_more more (with_more first o) ≡ with_more (first ++ more) o
more_joined first more None = refl
more_joined first more (Some l) = ap (λ x. Some x) (append_assoc l first more)

taken_joined : (first more : ℕ) (xs : List Report) → take first xs ++ take more (drop first xs) ≡ take (first + more) xs
taken_joined zero more xs = let sum : 0 + more ≡ more = omega arith in rw sum refl
taken_joined (suc first) zero [] = let sum : suc first + 0 ≡ suc first = omega arith in rw sum refl
taken_joined (suc first) (suc more) [] = let sum : suc first + suc more ≡ suc (first + suc more) = omega arith in rw sum refl
taken_joined (suc first) more (x ∷ xs) =
    let sum : suc first + more ≡ suc (first + more) = omega arith in rw sum (ap (λ ys. x ∷ ys) (taken_joined first more xs))

of_kind_joined : (kind : ReportKind) (xs ys : List Report) → of_kind kind (xs ++ ys) ≡ of_kind kind xs ++ of_kind kind ys
of_kind_joined kind [] ys = refl
of_kind_joined kind (x ∷ xs) ys =
    elim (cases_Bool (same_kind kind (report_kind x))) [
      | inl is ↦ rw is (ap (λ zs. x ∷ zs) (of_kind_joined kind xs ys))
      | inr isnt ↦ rw isnt (of_kind_joined kind xs ys)
    ]

lists_joined : (old : ReportLists) (xs ys : List Report) → lists_after (lists_after old xs) ys ≡ lists_after old (xs ++ ys)
lists_joined old xs ys =
    rw (
      of_kind_joined Usage xs ys,
      of_kind_joined Access xs ys,
      of_kind_joined Inactive xs ys,
      more_joined (of_kind Usage xs) (of_kind Usage ys) old.usage,
      more_joined (of_kind Access xs) (of_kind Access ys) old.access,
      more_joined (of_kind Inactive xs) (of_kind Inactive ys) old.inactive,
    ) refl

pub deliveries_joined : (old : ReportLists) (reports : List Report) (first more : ℕ) →
    lists_after (lists_after old (take first reports)) (take more (drop first reports)) ≡ lists_after old (take (first + more) reports)
deliveries_joined old reports first more =
    lists_joined old (take first reports) (take more (drop first reports)) ∙ ap (lists_after old) (taken_joined first more reports)

-- one more report, behind those that were sent
pub sent_next : (old now new : ReportLists) (reports : List Report) (sent : ℕ) (r : Report) → sent < length reports → r ≡ get_or reports sent r →
    now ≡ lists_after old (take sent reports) → new ≡ lists_after now (r ∷ []) → new ≡ lists_after old (take (sent + 1) reports)
sent_next old now new reports sent r within is before then =
    then ∙ ap (λ lists. lists_after lists (r ∷ [])) before ∙ lists_joined old (take sent reports) (r ∷ [])
    ∙ sym (ap (lists_after old) (take_more reports sent r within ∙ ap (λ x. take sent reports ++ x ∷ []) (sym is)))
