-- A usage report has all octets that are unreported.
use Rattle.std.proofs.Common.{◌≡◌, ◌∙◌, ℕ, List, [], ◌∷◌, refl, sym, arith, true}
use Rattle.pcef_model.specs.declared.pending_report.PendingReport.TheVariants.{Usage}
use Rattle.pcef_model.specs.declared.report.Cause.{Cause}
use Rattle.pcef_model.specs.Setting.{Setting, same_name}
use Rattle.pcef_model.specs.Entries.{Journal}
use Rattle.pcef_model.specs.Journals.{counted, octets_of_report, reported, unreported}
use Rattle.pcef_model.specs.Lawful.{Lawful}
use Rattle.pcef_model.specs.Reports.{body_of, with_reports}
use Rattle.pcef_model.proofs.Exactness.{lawful_exact}
use Rattle.pcef_model.proofs.Reports.{tell_counted}
use Rattle.pcef_model.proofs.Sameness.{same_name_of}

pub told_all : (p : Setting) (j : Journal) → Lawful p j → (key : List ℕ) (cause : Cause) →
    reported (with_reports p (Usage key cause ∷ []) j) key ≡ counted p (with_reports p (Usage key cause ∷ []) j) key
unfolding with_reports reported
told_all p j lawful key cause =
    let own : same_name key key ≡ true = same_name_of key key refl in
    let told : octets_of_report key (body_of p j (Usage key cause)) ≡ unreported p j key = rw own refl in
    let all : reported (with_reports p (Usage key cause ∷ []) j) key ≡ counted p j key = omega (arith, told, (lawful_exact p j lawful).exact key) in
    all ∙ sym (tell_counted p (Usage key cause ∷ []) j key)
