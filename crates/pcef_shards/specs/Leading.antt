-- What is led to threads by rings (own choice).
use Rattle.std.specs.Prelude.{ℕ, ◌≡◌, List, [], ◌∷◌, ◌++◌, drop, length, Option, Some, None, Vec, option_map}
use Rattle.std.specs.declared.alloc.Global.{Global}
use Rattle.std.specs.declared.hash.RandomState.{RandomState}
use Rattle.pcef_shards.specs.declared.parcel.Parcel.{Parcel}
use Rattle.pcef_shards.specs.Parts.{part_of}
use Rattle.pcef_shards.specs.Picks.{thread_of}

abbrev pub octets_if_there : Option (Vec ℕ Global) → List ℕ
octets_if_there None = []
octets_if_there (Some octets) = octets.items

-- the octets of parcels, in order
abbrev pub octets_in : List Parcel → List ℕ
octets_in [] = []
octets_in (parcel ∷ more) = octets_if_there parcel.octets ++ octets_in more

-- what may follow these octets on the way to a whole: the next of them, or the end, where the whole was led
abbrev pub FollowsIn : List ℕ → List ℕ → Option (Vec ℕ Global) → Type 0
FollowsIn whole front None = whole ≡ front
FollowsIn whole front (Some octets) = (rest : List ℕ) × (whole ≡ (front ++ octets.items) ++ rest)

abbrev pub IfKnown : Option (List ℕ) → (List ℕ → Type 0) → Type 0
IfKnown None P = Unit {0}
IfKnown (Some whole) P = P whole

-- a parcel for a thread goes on with the part of that thread, where it is known
abbrev pub Follows : (ℕ → Option (List ℕ)) → List Parcel → Parcel → Type 0
Follows part before parcel = IfKnown (part parcel.thread) (λ whole. FollowsIn whole (octets_in before) parcel.octets)

-- what is still to come of a part, where it is known: what is at hand, and what comes after all that was received
abbrev pub to_come : Option (List ℕ) → List ℕ → List ℕ → Option (List ℕ)
to_come part received at_hand = option_map (λ whole. at_hand ++ drop (length received) whole) part

-- the part of a thread, where the input is known
abbrev pub part_known : RandomState → ℕ → Option (List ℕ) → ℕ → Option (List ℕ)
part_known keys threads input t = option_map (part_of (thread_of keys threads) t) input
