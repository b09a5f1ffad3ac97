use Rattle.std.proofs.Common.{◌≡◌, ◌<◌, ℕ, length, inl, inr, subst, arith}
use Rattle.std.proofs.lemmas.Bool.{cases_lt}
use Rattle.pcef_index.specs.private.Words.{Has}
use Rattle.pcef_index.proofs.Bits.{mark_grows, mark_has, marked, then_grows}
use Rattle.pcef_index.proofs.words.mark_words.Goals as goal

pub loop-place-preserved : goal.loop-place-preserved
loop-place-preserved c =
    let words = c.loop-place.words in
    let place = c.loop-place.place in
    let bit = c.args.bit in
    let long = c.loop-place.invariant.grows.long in
    let within : place < length words = omega arith in
    let more = mark_grows words place bit within in
    record {
      grows = then_grows c.loop-place.invariant.grows more;
      sets = λ k low high. elim (cases_lt k place) [
        | inl before ↦ more.keeps k bit (c.loop-place.invariant.sets k low before)
        | inr not_before ↦
            (let same : place ≡ k = omega arith in
            subst (λ (n : ℕ). Has (marked words place bit) n bit) same (mark_has words place bit c.requires.bit within))
      ];
    }
