use Rattle.std.proofs.Common.{◌≡◌, List, [], ◌∷◌, ◌++◌, refl, true, false, cond, Option, Some, None}
use Rattle.pcef_model.specs.declared.report.Report.{Report}
use Rattle.pcef_trigger.specs.declared.kind.ReportKind.{ReportKind}
use Rattle.pcef_trigger.specs.Kinds.{same_kind}
use Rattle.pcef_trigger.specs.Deliveries.{ReportLists, list_in}

-- the first option if it is there, and else the second
abbrev pub or_else : Option (List Report) → Option (List Report) → Option (List Report)
or_else None o = o
or_else (Some l) o = Some l

abbrev pub over : ReportLists → ReportLists → ReportLists
over a b = record { usage = or_else a.usage b.usage; access = or_else a.access b.access; inactive = or_else a.inactive b.inactive }

-- one more reporter at the end serves where there was none
pub list_in_last : {B : Type 0} (kind : ReportKind) (list : B → List Report) (ps : List (ReportKind × B)) (p : ReportKind × B) → list_in kind list (ps ++ p ∷ []) ≡ or_else (list_in kind list ps) (cond (same_kind kind p.0) (Some (list p.1)) None)
list_in_last kind list [] p = refl
list_in_last kind list (q ∷ ps) p =
    elim (same_kind kind q.0) as (λ b. cond b (Some (list q.1)) (list_in kind list (ps ++ p ∷ [])) ≡ or_else (cond b (Some (list q.1)) (list_in kind list ps)) (cond (same_kind kind p.0) (Some (list p.1)) None)) [ true ↦ refl | false ↦ list_in_last kind list ps p ]

pub or_else_none : (o : Option (List Report)) → or_else o None ≡ o
or_else_none None = refl
or_else_none (Some l) = refl

pub or_else_again : (a b c : Option (List Report)) → or_else (or_else a b) c ≡ or_else a (or_else b c)
or_else_again None b c = refl
or_else_again (Some l) b c = refl
