use Rattle.std.proofs.Common.{rules, ◌≡◌, ◌<◌, ◌+◌, ◌++◌, ◌∷◌, [], length, subst, sym, take}
use Rattle.pcef_catalog.specs.Catalogs.{offers_of}
use Rattle.pcef_run.specs.PoolEnds.{TextsAskFor}
use Rattle.pcef_run.specs.declared.end.End.TheVariants as ending
use Rattle.pcef_run.proofs.PoolProfiles.{asked_next, first_unread, no_room}
use Rattle.pcef_run.proofs.pool_call.read_profiles.Goals as goal

pub returns-in-Err-clause-unread : goal.returns-in-Err-clause-unread
returns-in-Err-clause-unread g c =
    let at = c.loop-profile in
    let within : at.profile-index < length c.args.profiles.now = search rules in
    first_unread _ c.args.profiles.now at.profile-index c.profile-item.result at.asked.items c.in-Err.end within c.profile-item.is at.invariant c.in-Err.ensures.unread

pub returns-in-Err-push-clause-unread : goal.returns-in-Err-push-clause-unread
returns-in-Err-push-clause-unread g c =
    let at = c.loop-profile in
    let within : at.profile-index < length c.args.profiles.now = search rules in
    first_unread _ c.args.profiles.now at.profile-index c.profile-item.result at.asked.items ending.NoMemory within c.profile-item.is at.invariant
    (no_room _ c.profile-item.result c.in-Ok.one c.in-Ok.ensures.asked)

pub loop-profile-preserved : goal.loop-profile-preserved
loop-profile-preserved g c =
    let at = c.loop-profile in
    let within : at.profile-index < length c.args.profiles.now = search rules in
    let pushed : c.push.new.self.items ≡ at.asked.items ++ c.in-Ok.one ∷ [] = search rules in
    subst (TextsAskFor (offers_of c.args.catalog.now) (take (at.profile-index + 1) c.args.profiles.now)) (sym pushed)
    (asked_next _ c.args.profiles.now at.profile-index c.profile-item.result at.asked.items c.in-Ok.one within c.profile-item.is at.invariant c.in-Ok.ensures.asked)
