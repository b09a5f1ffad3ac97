-- Threads that are started, and joined, one after the other.
use Rattle.std.proofs.Common.{◌≡◌, ◌∙◌, ℕ, suc, ◌+◌, List, [], ◌∷◌, ◌++◌, length, Option, refl, subst, arith}
use Rattle.std.specs.declared.thread.PromisedHandle.{PromisedHandle}
use Rattle.pcef_built_in.specs.BuiltIn.{built_in_offers}
use Rattle.pcef_model.specs.ProfileModel.{ProfileModel, setting_of}
use Rattle.pcef_shards.specs.declared.shard.Ended.{Ended}
use Rattle.pcef_shards.specs.declared.shard.Serving.{Serving}
use Rattle.pcef_shards.specs.Served.{EachServes, ServesPart}
use Rattle.pcef_shards.specs.private.Started.{AreFor, HaveKept}

pub length_more : {X : Type 0} (xs : List X) (x : X) → length (xs ++ x ∷ []) ≡ length xs + 1
length_more [] x = refl
length_more (y ∷ xs) x = omega (arith, length_more xs x)

module _ {N W : Type 0} where
  pub started_more : (profile : ProfileModel) (k n : ℕ) (writers : List W) (handles : List (PromisedHandle (Ended W) (Serving N W))) (writer : W) (handle : PromisedHandle (Ended W) (Serving N W)) → AreFor profile k writers handles → handle.promise.thread ≡ n → n ≡ k + length writers
      → handle.promise.profile.value ≡ profile → handle.promise.writer.value ≡ writer → AreFor profile k (writers ++ writer ∷ []) (handles ++ handle ∷ [])
  started_more profile k n [] [] writer handle h own is same w = (own ∙ omega (arith, is), same, w, tt)
  started_more profile k n (x ∷ writers) (y ∷ handles) writer handle h own is same w =
      (h.0, h.1, h.2, started_more profile (suc k) n writers handles writer handle h.3 own (omega (arith, is)) same w)
  started_more profile k n [] (y ∷ handles) writer handle h own is same w = absurd h
  started_more profile k n (x ∷ writers) [] writer handle h own is same w = absurd h

  pub kept_more : (contents : W → Option (List ℕ)) (part : ℕ → Option (List ℕ)) (handles : List (PromisedHandle (Ended W) (Serving N W))) (all : List (Ended W)) (handle : PromisedHandle (Ended W) (Serving N W)) (ended : Ended W) → HaveKept contents part handles all
      → ServesPart (setting_of handle.promise.profile.value built_in_offers) ended.end (part handle.promise.thread) (contents handle.promise.writer.value) (contents ended.writer)
      → HaveKept contents part (handles ++ handle ∷ []) (all ++ ended ∷ [])
  kept_more contents part [] [] handle ended h one = (one, tt)
  kept_more contents part (x ∷ handles) (y ∷ all) handle ended h one = (h.0, kept_more contents part handles all handle ended h.1 one)
  kept_more contents part [] (y ∷ all) handle ended h one = absurd h
  kept_more contents part (x ∷ handles) [] handle ended h one = absurd h

  pub all_serve : (contents : W → Option (List ℕ)) (part : ℕ → Option (List ℕ)) (profile : ProfileModel) (k : ℕ) (writers : List W) (handles : List (PromisedHandle (Ended W) (Serving N W))) (all : List (Ended W)) → AreFor profile k writers handles
      → HaveKept contents part handles all → EachServes (setting_of profile built_in_offers) contents part k writers all
  all_serve contents part profile k [] [] [] a h = tt
  all_serve contents part profile k (w ∷ writers) (x ∷ handles) (y ∷ all) a h =
      let named = subst (λ n. ServesPart (setting_of x.promise.profile.value built_in_offers) y.end (part n) (contents x.promise.writer.value) (contents y.writer)) a.0 h.0 in
      let fixed = subst (λ p. ServesPart (setting_of p built_in_offers) y.end (part k) (contents x.promise.writer.value) (contents y.writer)) a.1 named in
      let own = subst (λ v. ServesPart (setting_of profile built_in_offers) y.end (part k) (contents v) (contents y.writer)) a.2 fixed in
      (own, all_serve contents part profile (suc k) writers handles all a.3 h.1)
  all_serve contents part profile k [] (x ∷ handles) all a h = absurd a
  all_serve contents part profile k (w ∷ writers) [] all a h = absurd a
  all_serve contents part profile k [] [] (y ∷ all) a h = absurd h
  all_serve contents part profile k (w ∷ writers) (x ∷ handles) [] a h = absurd h
