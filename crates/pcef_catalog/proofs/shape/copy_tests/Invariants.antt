use Rattle.std.proofs.Common.{◌≡◌, take}
use Rattle.pcef_catalog.proofs.shape.copy_tests.Given as goal

-- the tests so far
abbrev pub invariant-loop-test : goal.invariant-loop-test
invariant-loop-test l = l.copy.items ≡ take l.test-index l.tests
