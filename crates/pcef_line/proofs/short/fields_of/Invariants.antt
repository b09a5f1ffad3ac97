use Rattle.std.proofs.Common.{◌≡◌, ◌≤◌, length, ℕ}
use Rattle.pcef_line.specs.ShortLines.{read_tokens, found_in}
use Rattle.pcef_line.proofs.ShortSteps.{rest_of}
use Rattle.pcef_line.proofs.short.fields_of.Given as goal

abbrev pub invariant-members : goal.invariant-members
invariant-members l = (n : ℕ) × (length l.reader ≤ n) × (read_tokens l.fn.reader ≡ rest_of n (found_in l.fields) l.reader)

abbrev pub decreases-members : goal.decreases-members
decreases-members l = length l.reader
