-- The usage that is kept and isn't reported is that of the journal.
use Rattle.std.proofs.Common.{◌≡◌, ◌∙◌, ℕ, true, false, List, [], ◌∷◌, filter, map, refl, sym, ap, arith, inl, inr}
use Rattle.std.specs.Prelude.{nat_lt}
use Rattle.std.specs.List.{AllByRecursion}
use Rattle.std.proofs.lemmas.Bool.{cases_Bool}
use Rattle.pcef_model.specs.Entries.{Journal}
use Rattle.pcef_model.specs.Journals.{slots, unreported}
use Rattle.pcef_model.specs.Setting.{Setting}
use Rattle.pcef_model.specs.declared.report.Body.TheVariants as body
use Rattle.pcef_model.specs.declared.report.Cause.TheVariants.{Requested}
use Rattle.pcef_model.specs.declared.report.Report.{Report}
use Rattle.pcef_session.specs.Agreement.{KeyAgrees, KeysAgree}
use Rattle.pcef_usage.specs.declared.usage.KeyState.{KeyState}
use Rattle.pcef_gx_handle.specs.Renewing.{has_unreported, usage_left, usage_report}
use Rattle.pcef_gx_handle.specs.private.Carrying.{report_of, states_left}

same_usage : (p : Setting) (j : Journal) (s : KeyState) → KeyAgrees p j s → s.unreported ≡ unreported p j s.key
same_usage p j s agrees = omega (arith, agrees.counted_is, agrees.reported_is)

left_are : (p : Setting) (j : Journal) (states : List KeyState) → AllByRecursion (KeyAgrees p j) states →
    states_left states ≡ map (usage_report p j) (filter (has_unreported p j) (map (λ s. s.key) states))
left_are p j [] agree = refl
left_are p j (s ∷ states) agree =
    let same : s.unreported ≡ unreported p j s.key = same_usage p j s agree.0 in
    let report : report_of s ≡ usage_report p j s.key = ap (λ (n : ℕ). record { number = 0; body = body.Usage s.key n Requested }) same in
    elim (cases_Bool (nat_lt 0 s.unreported)) [
      | inl is ↦
          let has : has_unreported p j s.key ≡ true = ap (λ n. nat_lt 0 n) (sym same) ∙ is in
          rw (is, has, report, left_are p j states agree.1) refl
      | inr isnt ↦
          let has : has_unreported p j s.key ≡ false = ap (λ n. nat_lt 0 n) (sym same) ∙ isnt in
          rw (isnt, has) (left_are p j states agree.1)
    ]

pub usage_is_left : (p : Setting) (j : Journal) (states : List KeyState) → KeysAgree p j states → states_left states ≡ usage_left p j
usage_is_left p j states agree =
    left_are p j states agree.usage_is ∙ ap (λ keys. map (usage_report p j) (filter (has_unreported p j) keys)) agree.keys_are
