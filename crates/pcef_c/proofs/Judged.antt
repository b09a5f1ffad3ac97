-- Verdicts that are written one after the other.
use Rattle.std.proofs.Common.{◌≡◌, ◌∙◌, ◌<◌, ◌≤◌, ◌+◌, ℕ, List, arith, below_more, get_or, length, set, subst, sym}
use Rattle.std.proofs.lemmas.List.{length-set, get_or-set_same, get_or-set_other, get_or_default}
use Rattle.pcef_handle.specs.declared.held.Handle.{Handle}
use Rattle.pcef_c.specs.Judging.{AreAsked, IsVerdictOn}
use Rattle.pcef_c.specs.declared.judging.CPacket.{CPacket}
use Rattle.pcef_c.specs.declared.judging.CVerdict.{CVerdict}

-- the packets below a place have their verdicts, and no verdict behind those of all packets was written
abbrev pub AreJudgedBelow : Handle → List CPacket → List CVerdict → List CVerdict → ℕ → ℕ → Type 0
AreJudgedBelow h packets before now place count =
    (length now ≡ length before)
    × ((n : ℕ) (packet : CPacket) (v : CVerdict) → n < place → IsVerdictOn h (get_or packets n packet) (get_or now n v))
    × ((n : ℕ) (v : CVerdict) → count ≤ n → get_or now n v ≡ get_or before n v)

-- one more was written
pub asked_more : (before now : List CVerdict) (from end place : ℕ) (v : CVerdict) → from ≤ place → place < end → AreAsked before now from end → AreAsked before (set now place v) from end
asked_more before now from end place v since within asked = record {
  length_is = length-set now place v ∙ asked.length_is;
  below = λ n w less. get_or-set_other now place n v w (λ e. omega (arith, since, less, e)) ∙ asked.below n w less;
  behind = λ n w past. get_or-set_other now place n v w (λ e. omega (arith, within, past, e)) ∙ asked.behind n w past;
}

-- so have those up to it, where the packets from there on were asked for and the one there gets its verdict; the handle
-- stayed until then
pub judged_more : (h held : Handle) (packets : List CPacket) (before now asked : List CVerdict) (place count : ℕ) (d : CPacket) (v : CVerdict) → place < length packets → place < length asked → place < count
    → AreAsked now asked place count → held ≡ h → IsVerdictOn held (get_or packets place d) v → AreJudgedBelow h packets before now place count → AreJudgedBelow h packets before (set asked place v) (place + 1) count
judged_more h held packets before now asked place count d v within inside less_count ahead stayed here (long, each, others) = (
  length-set asked place v ∙ ahead.length_is ∙ long,
  λ n packet w less.
      below_more (λ k. IsVerdictOn h (get_or packets k packet) (get_or (set asked place v) k w)) place
      (λ k below. subst (λ x. IsVerdictOn h (get_or packets k packet) x) (sym (get_or-set_other asked place k v w (λ e. omega (arith, below, e)) ∙ ahead.below k w below)) (each k packet w below))
      (subst (λ x. IsVerdictOn h (get_or packets place packet) x) (sym (get_or-set_same asked place v w inside))
      (subst (λ p. IsVerdictOn h p v) (get_or_default packets place d packet within) (subst (λ x. IsVerdictOn x (get_or packets place d) v) stayed here))) n less,
  λ n w past. get_or-set_other asked place n v w (λ e. omega (arith, less_count, past, e)) ∙ ahead.behind n w past ∙ others n w past,
)

-- what was written up to a place was written up to a later one
pub asked_within : (before after : List CVerdict) (from end last : ℕ) → end ≤ last → AreAsked before after from end → AreAsked before after from last
asked_within before after from end last within asked = record {
  length_is = asked.length_is;
  below = asked.below;
  behind = λ n v past. asked.behind n v (omega (arith, within, past));
}
