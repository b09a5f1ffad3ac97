use Rattle.std.proofs.Common.{◌≡◌, [], List, arith, length, refl, ℕ}
use Rattle.std.proofs.lemmas.List.Elements.{All-get_or}
use Rattle.pcef_shards.proofs.Sortings.{at_first}
use Rattle.pcef_shards.proofs.sorting.Sorting.new.Goals as goal

pub returns : goal.returns
returns c =
    let parts = c.in_ok-parts.parts.items in
    let many : length parts ≡ c.args.threads = c.in_ok-parts.ensures.many in
    at_first c.args.keys c.args.threads _ c.new.ensures.keys c.new.ensures.threads many c.new-2.ensures.items refl
    (λ t lt. All-get_or (λ (part : List ℕ). part ≡ []) parts t [] (omega (arith, lt, many)) c.in_ok-parts.ensures.none)
