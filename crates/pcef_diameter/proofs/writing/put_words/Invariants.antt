use Rattle.std.proofs.Common.{◌≡◌, ◌≤◌, ◌+◌, ◌*◌, ◌++◌, length, take, vec_capacity}
use Rattle.std.specs.List.{flat_map}
use Rattle.pcef_diameter.specs.Numbers.{octets_of}
use Rattle.pcef_diameter.proofs.writing.put_words.Given as goal

abbrev pub invariant-loop-word : goal.invariant-loop-word
invariant-loop-word l =
    (l.out.items ≡ l.fn.out.items ++ flat_map octets_of (take l.word-index l.words))
    × (length l.out.items ≡ length l.fn.out.items + 4 * l.word-index) × (vec_capacity l.fn.out ≤ vec_capacity l.out)
