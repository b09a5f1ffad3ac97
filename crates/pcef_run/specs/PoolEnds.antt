-- What the program does where sessions on a pool are asked for (own choice).
use Rattle.std.specs.Prelude.{ℕ, ◌≡◌, ◌⊎◌, List, [], ◌∷◌, ◌++◌, length, String, Vec, string_bytes, Option, Result, Ok, Err}
use Rattle.std.specs.declared.alloc.Global.{Global}
use Rattle.std.specs.declared.io.Error.{Error}
use Rattle.std.specs.Io.KnownBytes.{Keeps}
use Rattle.std.specs.IoError.{error_kind}
use Rattle.pcef_catalog.specs.declared.listing.Offer.{Offer}
use Rattle.pcef_rule.specs.declared.quantity.Sums.{Sums}
use Rattle.pcef_profile.specs.ProfileOf.{GivesProfile, ProfileOf}
use Rattle.pcef_profile.specs.declared.fault.ReadProfileFault.{ReadProfileFault}
use Rattle.pcef_run.specs.Opening.{Asked}
use Rattle.pcef_run.specs.declared.fault.PlanFault.{PlanFault}
use Rattle.pcef_run.specs.Orders.{ReadsOrders}
use Rattle.pcef_run.specs.PoolRuns.{RunsPool}
use Rattle.pcef_run.specs.declared.pool_end.PoolEnd.{PoolEnd}
use Rattle.pcef_run.specs.declared.order.Order.{Order}
use Rattle.pcef_run.specs.declared.end.End.{End}
use Rattle.pcef_run.specs.declared.end.End.TheVariants as ending
use Rattle.pcef_run.specs.Ends.{IsPlanEnd, pool_end, profile_end, unread_end}

-- ---- the profiles
-- a profile's text, or why its file can't be read
abbrev pub Text : Type 0
Text = Result (String Global) Error

-- what a session is asked for by this text
abbrev pub AsksFor : List Offer → Text → Asked → Type 0
AsksFor offers (Ok text) asked = GivesProfile (Ok asked.0) (ProfileOf (string_bytes text)) × (asked.1 ≡ offers)
AsksFor offers (Err error) asked = ⊥

abbrev pub TextsAskFor : List Offer → List Text → List Asked → Type 0
TextsAskFor offers [] asked = asked ≡ []
TextsAskFor offers (text ∷ texts) asked =
    (first : Asked) × (others : List Asked) × (asked ≡ first ∷ others) × AsksFor offers text first × TextsAskFor offers texts others

-- a profile that can't be read; there may be no memory for its session
abbrev pub IsProfileUnread : Text → End → Type 0
IsProfileUnread (Ok text) end =
    (end ≡ ending.NoMemory) ⊎ ((fault : ReadProfileFault) × GivesProfile (Err fault) (ProfileOf (string_bytes text)) × (end ≡ profile_end fault))
IsProfileUnread (Err error) end = end ≡ unread_end (error_kind error)

-- the first of them
abbrev pub FirstUnread : List Offer → List Text → End → Type 0
FirstUnread offers texts end =
    (front : List Text) × (text : Text) × (rest : List Text) × (asked : List Asked)
    × (texts ≡ front ++ text ∷ rest) × TextsAskFor offers front asked × IsProfileUnread text end

-- ---- the run
-- The orders were given to sessions that were opened on a pool, and what was written for that stayed so. How that went is the
-- program's end, unless the answers couldn't be flushed.
abbrev pub RanOrders : Sums → List Asked → List Order → End → Option (List ℕ) → Option (List ℕ) → Type 0
RanOrders capacity asked orders end old new =
    (result : Result (Unit {0}) PoolEnd) × (written : Option (List ℕ)) × RunsPool capacity asked orders result old written
    × Keeps written new × ((end ≡ pool_end result) ⊎ (end ≡ ending.Write))

-- the whole input was read first; where it isn't orders, nothing is written
abbrev pub RanPool : Sums → List Asked → End → Option (List ℕ) → Option (List ℕ) → Option (List ℕ) → Option (List ℕ) → Type 0
RanPool capacity asked end before left old new =
    ((orders : Vec Order Global) × ReadsOrders (length asked) (Ok orders) before left × RanOrders capacity asked orders.items end old new)
    ⊎ ((fault : PlanFault) × ReadsOrders (length asked) (Err fault) before left × IsPlanEnd fault end × Keeps old new)

-- the profiles are read before that, in their order
abbrev pub EndsPool : List Offer → Sums → List Text → End → Option (List ℕ) → Option (List ℕ) → Option (List ℕ) → Option (List ℕ) → Type 0
EndsPool offers capacity texts end before left old new =
    ((asked : List Asked) × TextsAskFor offers texts asked × RanPool capacity asked end before left old new)
    ⊎ (FirstUnread offers texts end × Keeps before left × Keeps old new)

-- ---- status 0
-- the whole input was read, and it is orders; the sessions answered all of them, and the answers and the last line are written
abbrev pub IsWholePool : List Offer → Sums → List Text → Option (List ℕ) → Option (List ℕ) → Option (List ℕ) → Option (List ℕ) → Type 0
IsWholePool offers capacity texts before left old new =
    (asked : List Asked) × TextsAskFor offers texts asked × (orders : Vec Order Global) × ReadsOrders (length asked) (Ok orders) before left
    × RunsPool capacity asked orders.items (Ok tt) old new
