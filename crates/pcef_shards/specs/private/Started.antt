-- Threads that are started, and joined.
use Rattle.std.specs.Prelude.{ℕ, ◌≡◌, suc, List, [], ◌∷◌, Option}
use Rattle.std.specs.declared.thread.PromisedHandle.{PromisedHandle}
use Rattle.pcef_model.specs.ProfileModel.{ProfileModel, setting_of}
use Rattle.pcef_built_in.specs.BuiltIn.{built_in_offers}
use Rattle.pcef_shards.specs.declared.shard.Ended.{Ended}
use Rattle.pcef_shards.specs.declared.shard.Serving.{Serving}
use Rattle.pcef_shards.specs.Served.{ServesPart}

-- the threads of these writers, from this number on
abbrev pub AreFor : {N W : Type 0} → ProfileModel → ℕ → List W → List (PromisedHandle (Ended W) (Serving N W)) → Type 0
AreFor profile t [] [] = Unit {0}
AreFor profile t (writer ∷ writers) (handle ∷ handles) =
    (handle.promise.thread ≡ t) × (handle.promise.profile.value ≡ profile) × (handle.promise.writer.value ≡ writer) × AreFor profile (suc t) writers handles
AreFor profile t [] (handle ∷ handles) = ⊥
AreFor profile t (writer ∷ writers) [] = ⊥

-- what they promised was kept
abbrev pub HaveKept : {N W : Type 0} → (W → Option (List ℕ)) → (ℕ → Option (List ℕ)) → List (PromisedHandle (Ended W) (Serving N W)) → List (Ended W) → Type 0
HaveKept contents part [] [] = Unit {0}
HaveKept contents part (handle ∷ handles) (ended ∷ more) =
    ServesPart (setting_of handle.promise.profile.value built_in_offers) ended.end (part handle.promise.thread) (contents handle.promise.writer.value) (contents ended.writer)
    × HaveKept contents part handles more
HaveKept contents part [] (ended ∷ more) = ⊥
HaveKept contents part (handle ∷ handles) [] = ⊥
