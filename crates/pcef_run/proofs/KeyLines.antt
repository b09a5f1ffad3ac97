-- Lines of keys, one after the other.
use Rattle.std.proofs.Common.{◌≡◌, ◌∙◌, ◌+◌, ◌<◌, ℕ, suc, List, [], ◌∷◌, add-one, drop, length, ap, refl, sym}
use Rattle.std.proofs.Math.Seq.{drop-cons}
use Rattle.std.specs.Prelude.{slice_index_or}
use Rattle.pcef_lock.specs.declared.key_totals.KeyTotal.{KeyTotal}
use Rattle.pcef_run.specs.Summaries.{with_key, with_keys}

one_key : (text : List ℕ) (total : KeyTotal) (totals : List KeyTotal) → with_keys text (total ∷ totals) ≡ with_keys (with_key text total) totals
unfolding with_keys
one_key text total totals = refl

pub next_key : (text : List ℕ) (totals : List KeyTotal) (i : ℕ) → i < length totals → (total : KeyTotal) → total ≡ slice_index_or totals i total
    → with_keys text (drop i totals) ≡ with_keys (with_key text total) (drop (i + 1) totals)
next_key text totals i below total is =
    ap (with_keys text) (drop-cons totals i total below ∙ ap (λ t. t ∷ drop (suc i) totals) (sym is)) ∙ one_key text total (drop (suc i) totals)
    ∙ ap (λ n. with_keys (with_key text total) (drop n totals)) (sym (add-one i))

pub no_keys : (text : List ℕ) → with_keys text [] ≡ text
unfolding with_keys
no_keys text = refl
