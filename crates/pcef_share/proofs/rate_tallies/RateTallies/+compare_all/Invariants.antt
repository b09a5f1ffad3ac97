use Rattle.std.proofs.Common.{length}
use Rattle.pcef_share.proofs.rate_tallies.RateTallies.+compare_all.Given as goal

abbrev pub decreases-compare_all : goal.decreases-compare_all
decreases-compare_all g l = length l.shares.now
