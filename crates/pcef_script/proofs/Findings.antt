-- What is found in lines, one after the other.
use Rattle.std.proofs.Common.{◌≡◌, ◌∙◌, ◌+◌, ℕ, List, [], ◌∷◌, ◌++◌, length, refl, sym, ap, subst, arith, add-zero, append-nil, append_assoc}
use Rattle.std.specs.Prelude.{Option, Some, None, string_bytes}
use Rattle.pcef_model.specs.Setting.{Setting}
use Rattle.pcef_world.specs.Steps.{Standing, at_start, standing_of}
use Rattle.pcef_world.specs.Worlds.{IsOpenedWorld, World}
use Rattle.pcef_script.specs.Findings.{Finds, FindsAll, FindsLine, IsFindingOf, as_list}
use Rattle.pcef_script.specs.private.Playing.{PlaysBytes, PlaysLines}
use Rattle.pcef_script.specs.declared.finding.Finding.{Finding}
use Rattle.pcef_script.specs.declared.finding.Found.{Found}

-- where nothing is found, there is no finding
pub none_told : (number : ℕ) (f : Option Found) (text : List ℕ) → f ≡ None → IsFindingOf number f text None
none_told number f text is = rw is refl

-- where something is found, there is a finding
pub some_told : (number : ℕ) (f : Option Found) (text : List ℕ) (x : Finding) → f ≡ Some x.found → x.line ≡ number → string_bytes x.answer ≡ text → IsFindingOf number f text (Some x)
some_told number f text x is line answer = rw is (x, refl, line, refl, answer)

-- one line more
pub finds_more : (p : Setting) (before between after : Standing) (number : ℕ) (lines : List (List ℕ)) (bytes : List ℕ) (told : List Finding) (next : Option Finding)
    → Finds p before number lines told between → FindsLine p between (number + length lines) bytes next after → Finds p before number (lines ++ bytes ∷ []) (told ++ as_list next) after
finds_more p before between after number [] bytes told next (none, same) line = (
  next,
  [],
  after,
  subst (λ s. FindsLine p s number bytes next after) same (subst (λ k. FindsLine p between k bytes next after) (add-zero number) line),
  (refl, refl),
  ap (λ t. t ++ as_list next) none ∙ sym (append-nil (as_list next)),
)
finds_more p before between after number (l ∷ lines) bytes told next (first, rest, middle, first_is, others, is) line =
    let same : number + length (l ∷ lines) ≡ (number + 1) + length lines = omega arith in (
      first,
      rest ++ as_list next,
      middle,
      first_is,
      finds_more p middle between after (number + 1) lines bytes rest next others (subst (λ k. FindsLine p between k bytes next after) same line),
      ap (λ t. t ++ as_list next) is ∙ append_assoc (as_list first) rest (as_list next),
    )

-- what a world finds in one line more
pub finds_added : (start before after : World) (number : ℕ) (lines : List (List ℕ)) (bytes : List ℕ) (old new : List Finding) (told : Option Finding)
    → before.session.setting ≡ start.session.setting → number ≡ 1 + length lines → Finds start.session.setting (standing_of start) 1 lines old (standing_of before)
    → PlaysBytes before number bytes told after → new ≡ old ++ as_list told → Finds start.session.setting (standing_of start) 1 (lines ++ bytes ∷ []) new (standing_of after)
finds_added start before after number lines bytes old new told setting count finds plays is =
    let p = start.session.setting in
    let here : FindsLine p (standing_of before) (1 + length lines) bytes told (standing_of after) =
    subst (λ n. FindsLine p (standing_of before) n bytes told (standing_of after)) count (subst (λ s. FindsLine s (standing_of before) number bytes told (standing_of after)) setting plays) in
    subst (λ f. Finds p (standing_of start) 1 (lines ++ bytes ∷ []) f (standing_of after)) (sym is)
    (finds_more p (standing_of start) (standing_of before) (standing_of after) 1 lines bytes old told finds here)

-- what a world finds that was just opened
pub opened_finds : (p : Setting) (w : World) (lines : List (List ℕ)) (found : List Finding) → IsOpenedWorld p w → PlaysLines w lines found → FindsAll p lines found
opened_finds p w lines found (setting, journal, workers, kept) (after, finds) =
    let start : standing_of w ≡ at_start = rw (journal, workers) refl in
    (after, subst (λ s. Finds s at_start 1 lines found after) setting (subst (λ s. Finds w.session.setting s 1 lines found after) start finds))
