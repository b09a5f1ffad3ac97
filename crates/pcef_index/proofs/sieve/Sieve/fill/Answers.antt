use Rattle.std.proofs.Common.{◌≡◌, ◌+◌, ◌/◌, ◌%◌, ◌∙◌, ℕ, List, true, length, ap, sym, subst, arith, inl, inr}
use Rattle.std.proofs.lemmas.Bool.{cases_lt}
use Rattle.pcef_index.specs.declared.runs.Runs.{Runs}
use Rattle.pcef_index.specs.private.Lines.{line_fits}
use Rattle.pcef_index.specs.private.Runs.{AreRuns}
use Rattle.pcef_index.specs.private.Sieves.{IsShaped, Lets, LetsTo}
use Rattle.pcef_index.specs.private.Words.{fits_at, passes_at}
use Rattle.pcef_index.proofs.sieve.Sieve.fill.Goals as goal

pub loop-place-preserved : goal.loop-place-preserved
loop-place-preserved c =
    let place = c.loop-place.place in
    let old = c.loop-place.self in
    let new = c.add_at.new.self in
    let same : new.numbers.items ≡ old.numbers.items = c.add_at.ensures.numbers in
    record {
      numbers = same ∙ c.loop-place.invariant.numbers;
      runs = c.add_at.ensures.runs ∙ c.loop-place.invariant.runs;
      shaped = subst (λ (ns : List ℕ). IsShaped ((length ns + 63) / 64) new) (sym same) c.add_at.ensures.shaped;
      lets = λ j offers ue h below ranged passes.
          (let there : passes_at (fits_at (line_fits offers ue h) c.args.lines.now) old.numbers.items j ≡ true =
          ap (λ (ns : List ℕ). passes_at (fits_at (line_fits offers ue h) c.args.lines.now) ns j) (sym same) ∙ passes in
          elim (cases_lt j place) [
            | inl before ↦ c.add_at.ensures.keeps (j / 64) (j % 64) ue h (c.loop-place.invariant.lets j offers ue h before ranged there)
            | inr not_before ↦
                (let here : place ≡ j = omega (arith, below, not_before) in
                subst (λ (n : ℕ). Lets new (n / 64) ue h (n % 64)) here
                (c.add_at.ensures.lets offers ue h ranged (ap (passes_at (fits_at (line_fits offers ue h) c.args.lines.now) old.numbers.items) here ∙ there)))
          ]);
    }

pub returns-clause-sieve : goal.returns-clause-sieve
returns-clause-sieve c =
    let self = c.loop-place.self in
    let end : c.loop-place.place ≡ length self.numbers.items = omega (arith, ap (λ (ns : List ℕ). length ns) c.loop-place.invariant.numbers) in
    record {
      shaped = c.loop-place.invariant.shaped;
      lets = subst (λ (n : ℕ). LetsTo n c.args.lines.now self) end c.loop-place.invariant.lets;
      runs = subst (λ (ns : List ℕ). AreRuns c.args.lines.now ns self.runs) (sym c.loop-place.invariant.numbers)
          (subst (λ (r : Runs). AreRuns c.args.lines.now c.args.self.now.numbers.items r) (sym c.loop-place.invariant.runs) c.requires.runs);
    }

pub returns-clause-runs : goal.returns-clause-runs
returns-clause-runs c = c.loop-place.invariant.runs
