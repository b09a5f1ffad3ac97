-- What the first octets of a packet determine, where the rest isn't at hand but its length is known.
use Rattle.std.specs.Prelude.{ℕ, ◌+◌, ◌<◌, ◌≡◌, ◌≢◌, List, ◌++◌, length, Result, Ok, Err}
use Rattle.std.specs.List.{All}
use Rattle.pcef_packet.specs.declared.header.PacketFault.{PacketFault}
use Rattle.pcef_front.specs.declared.fault.FrontFault.{FrontFault}
use Rattle.pcef_front.specs.declared.fault.FrontFault.TheVariants.{TooFew, Packet}

-- octets that may follow a front, in a packet of `whole` octets
pub record MayFollow (front : List ℕ) (whole : ℕ) (rest : List ℕ) : Type 0 where
  pub octets : All (λ o. o < 256) rest
  pub long : length front + length rest ≡ whole

-- whatever follows, this is read
abbrev pub IsSure : {A : Type 0} → (List ℕ → A) → List ℕ → ℕ → A → Type 0
IsSure read front whole a = (rest : List ℕ) → MayFollow front whole rest → read (front ++ rest) ≡ a

-- what is read depends on what follows
abbrev pub IsOpen : {A : Type 0} → (List ℕ → A) → List ℕ → ℕ → Type 0
IsOpen read front whole =
    (one : List ℕ) × (other : List ℕ) × MayFollow front whole one × MayFollow front whole other × (read (front ++ one) ≢ read (front ++ other))

-- the answer of a reader of whole packets for all packets of a length that begin with these octets: what it reads
-- of each of them, or that it reads two of them differently
abbrev pub IsSettledBy : {A : Type 0} → (List ℕ → Result A PacketFault) → List ℕ → ℕ → Result A FrontFault → Type 0
IsSettledBy read front whole (Ok a) = IsSure read front whole (Ok a)
IsSettledBy read front whole (Err (Packet fault)) = IsSure read front whole (Err fault)
IsSettledBy read front whole (Err TooFew) = IsOpen read front whole

-- what is read of a whole packet, as an answer about a front
abbrev pub as_front : {A : Type 0} → Result A PacketFault → Result A FrontFault
as_front (Ok a) = Ok a
as_front (Err fault) = Err (Packet fault)
