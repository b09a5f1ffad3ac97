use Rattle.std.proofs.Common.{◌≡◌, ◌∙◌, ◌++◌, ◌+◌, ℕ, suc, List, [], ◌∷◌, Some, find, take, ap, sym, arith, false, inl, inr}
use Rattle.std.specs.Prelude.{slice_get}
use Rattle.std.proofs.Math.Seq.{take-suc}
use Rattle.std.proofs.lemmas.Bool.{and_parts, cases_Bool}
use Rattle.std.proofs.lemmas.Option.{slice_get-get_or}
use Rattle.pcef_base.proofs.Tests.{contrary}
use Rattle.pcef_index.specs.declared.lines.Line.{Line}
use Rattle.pcef_index.specs.private.Lines.{line_fits, standing_fits, stands}
use Rattle.pcef_index.specs.private.Words.{first_of}
use Rattle.pcef_index.proofs.Numbering.{first_more, place_of, skip_one}
use Rattle.pcef_index.proofs.kinds.numbers_of.Goals as goal
use Rattle.pcef_index.proofs.kinds.numbers_of.Goals.{then-may_fit+in_ok-push, else-may_fit}

pub loop-number-preserved : goal.loop-number-preserved
loop-number-preserved c places offers ue h is =
    let test = standing_fits places offers ue h in
    let lines = c.args.lines.now in
    let n = c.loop-number.number in
    let l = c.index-lines-number.result in
    let there : slice_get lines n ≡ Some l = slice_get-get_or lines n l (omega arith) ∙ ap (λ (x : Line). Some x) (sym c.index-lines-number.is) in
    let next : n + 1 ≡ suc n = omega arith in
    let grown : take (n + 1) lines ≡ take n lines ++ l ∷ [] =
    ap (λ (k : ℕ). take k lines) next ∙ take-suc lines n l (omega arith) ∙ ap (λ (x : Line). take n lines ++ x ∷ []) (sym c.index-lines-number.is) in
    let before : first_of test lines c.loop-number.numbers.items ≡ place_of (find test (take n lines)) = c.loop-number.invariant places offers ue h is in
    let after : first_of test lines c.if-may_fit.numbers.items ≡ place_of (find test (take n lines ++ l ∷ [])) =
    elim c.if-may_fit.branch [
      | then-may_fit+in_ok-push w ↦
          (let pushed : c.if-may_fit.numbers.items ≡ c.loop-number.numbers.items ++ n ∷ [] = cc w.in_ok-push.ensures.items in
          ap (first_of test lines) pushed ∙ first_more test lines (take n lines) c.loop-number.numbers.items n l there before)
      | else-may_fit w ↦
          (let same : c.if-may_fit.numbers.items ≡ c.loop-number.numbers.items = cc in
          let fails : test l ≡ false = elim (cases_Bool (test l)) [
            | inl fits ↦ contrary c.may_fit.result (c.may_fit.ensures offers ue h is (and_parts (line_fits offers ue h l) (stands places l.place) fits).0) w.if-may_fit.false
            | inr fails ↦ fails
          ] in
          ap (first_of test lines) same ∙ before ∙ sym (ap place_of (skip_one test (take n lines) l fails)))
    ] in
    after ∙ sym (ap (λ (xs : List Line). place_of (find test xs)) grown)
