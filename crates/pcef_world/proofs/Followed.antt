-- Flows that are remembered while a session's journal and what is fixed for it stay.
use Rattle.std.proofs.Common.{◌≡◌, Box, Global, List, Ok, Err, Result, Some, None, subst, sym, true}
use Rattle.std.specs.Prelude.{IfOk, IfSome, Option}
use Rattle.std.specs.Arc.{arc_value}
use Rattle.std.specs.Result.{is_ok}
use Rattle.std.specs.declared.alloc.AllocError.{AllocError}
use Rattle.pcef_packet.specs.declared.header.Addr.{Addr}
use Rattle.pcef_catalog.specs.declared.listing.Offer.{Offer}
use Rattle.pcef_table.specs.Tables.{TableValue}
use Rattle.pcef_model.specs.Entries.{Journal}
use Rattle.pcef_model.specs.Journals.{gen}
use Rattle.pcef_model.specs.Setting.{Setting}
use Rattle.pcef_session.specs.Answers.{ShowsNewest}
use Rattle.pcef_session.specs.SessionModel.{SessionModel}
use Rattle.pcef_session.specs.Shown.{Shows}
use Rattle.pcef_world.specs.declared.newest.JudgedFlows.{JudgedFlows}
use Rattle.pcef_world.specs.private.Followed.{Follows, FollowsNewest}

follows_by : (p q : Setting) (j k : Journal) (f : JudgedFlows) → q ≡ p → k ≡ j
    → Shows p j (gen j) (arc_value f.held) × Follows p.catalog p.ue (arc_value f.held) f → Shows q k (gen k) (arc_value f.held) × Follows q.catalog q.ue (arc_value f.held) f
follows_by p q j k f same still follows =
    subst (λ (r : Setting). Shows r k (gen k) (arc_value f.held) × Follows r.catalog r.ue (arc_value f.held) f) (sym same)
    (subst (λ (i : Journal). Shows p i (gen i) (arc_value f.held) × Follows p.catalog p.ue (arc_value f.held) f) (sym still) follows)

-- what is followed in one session is in the other
pub follows_alike : (s t : SessionModel) (o : Option (Box JudgedFlows Global)) → t.setting ≡ s.setting → t.journal ≡ s.journal → IfSome o (λ f. FollowsNewest s f.value) → IfSome o (λ f. FollowsNewest t f.value)
follows_alike s t None same still follows = tt
follows_alike s t (Some f) same still follows = follows_by s.setting t.setting s.journal t.journal f.value same still follows

-- a table of the newest generation that was followed is followed
pub followed_now : (s : SessionModel) (t : TableValue) (offers : List Offer) (f : JudgedFlows) (r : Result (Unit {0}) AllocError) → ShowsNewest s t → offers ≡ s.setting.catalog
    → IfOk r (λ _. (ue : Addr) → Follows offers ue t f) → is_ok r ≡ true → FollowsNewest s f
followed_now s t offers f (Ok done) shows offered follows is =
    let told = subst (λ (o : List Offer). Follows o s.setting.ue t f) offered (follows s.setting.ue) in
    let held = told.held in
    (subst (λ (u : TableValue). ShowsNewest s u) (sym held) shows, subst (λ (u : TableValue). Follows s.setting.catalog s.setting.ue u f) (sym held) told)
followed_now s t offers f (Err lack) shows offered follows is = absurd cc
