use Rattle.std.proofs.Common.{◌≡◌, map, take}
use Rattle.pcef_world.specs.private.Followed.{rule_brief}
use Rattle.pcef_world.proofs.newest.rule_briefs.Given as goal

-- the entries so far have their rules' decisions
abbrev pub invariant-loop-entry : goal.invariant-loop-entry
invariant-loop-entry g l = l.rules.items ≡ map (rule_brief (g.C.Offers.offers l.fn.catalog) l.fn.table.session) (take l.entry-index l.fn.table.entries)
