use Rattle.std.proofs.Common.{take}
use Rattle.pcef_catalog.specs.Catalogs.{offers_of}
use Rattle.pcef_run.specs.PoolEnds.{TextsAskFor}
use Rattle.pcef_run.proofs.pool_call.read_profiles.Given as goal

-- the profiles so far were read
abbrev pub invariant-loop-profile : goal.invariant-loop-profile
invariant-loop-profile g l = TextsAskFor (offers_of l.catalog) (take l.profile-index l.profiles) l.asked.items
