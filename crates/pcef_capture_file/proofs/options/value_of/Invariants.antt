use Rattle.std.proofs.Common.{◌≡◌, length}
use Rattle.pcef_capture_file.specs.Options.{value_of}
use Rattle.pcef_capture_file.proofs.options.value_of.Given as goal

abbrev pub invariant-loop-found : goal.invariant-loop-found
invariant-loop-found l = value_of l.endianness l.code l.rest ≡ value_of l.endianness l.code l.octets

abbrev pub decreases-loop-found : goal.decreases-loop-found
decreases-loop-found l = length l.rest
