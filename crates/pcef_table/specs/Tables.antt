-- A generation, and what its operations make of its entries.
use Rattle.std.specs.Prelude.{ℕ, ◌==◌, ◌≢◌, Bool, false, not, List, ◌∷◌, ◌++◌, Option, Some, None, All, AllPairs, filter, if◌then◌else◌, IsTrue}
use Rattle.pcef_rule.specs.declared.quantity.Slot.{Slot}
use Rattle.pcef_rule.specs.Precedence.{goes_before}
use Rattle.pcef_catalog.specs.declared.listing.Offer.{Offer}
use Rattle.pcef_table.specs.declared.entry.TableEntry.{TableEntry}
use Rattle.pcef_table.specs.Sources.{IsKnown, source_is_named, name_of, source_rank}
use Rattle.pcef_model.specs.declared.command.Command.{Command}
use Rattle.pcef_model.specs.Commands.{takes_away}

-- the number of a generation, its entries in precedence order, and for each slot whether it is that of a key of session
-- level that is on
pub record TableValue : Type 0 where
  pub number : ℕ
  pub entries : List TableEntry
  pub session : List Bool

-- own choice
abbrev pub most_entries : ℕ
most_entries = 64

-- one entry's rule goes before another's
abbrev pub GoesBefore : List Offer → TableEntry → TableEntry → Type 0
GoesBefore offers a b = IsTrue (goes_before (source_rank offers a.source) (source_rank offers b.source))

-- two entries' rules have different names
abbrev pub AreNamedApart : List Offer → TableEntry → TableEntry → Type 0
AreNamedApart offers a b = name_of offers a.source ≢ name_of offers b.source

-- the entries of a table over these offers: each rule is known, and goes before all after it, and no two
-- have one name
pub record IsTable (offers : List Offer) (entries : List TableEntry) : Type 0 where
  pub known : All (λ e. IsKnown offers e.source) entries
  pub ordered : AllPairs (GoesBefore offers) entries
  pub names : AllPairs (AreNamedApart offers) entries

-- what is a table over some offers stays one
abbrev pub StaysTable : List TableEntry → List TableEntry → Type 0
StaysTable before after = (offers : List Offer) → IsTable offers before → IsTable offers after

abbrev pub has_other_name : List Offer → List ℕ → TableEntry → Bool
has_other_name offers name e = not (source_is_named offers name e.source)

-- the entries without the one of this name
abbrev pub without_entry : List Offer → List ℕ → List TableEntry → List TableEntry
without_entry offers name entries = filter (has_other_name offers name) entries

-- the entries without those whose rules a command takes away
abbrev pub is_taken : List Offer → Command → TableEntry → Bool
is_taken offers c e = takes_away c (name_of offers e.source) e.bearer.0

abbrev pub without_taken : List Offer → Command → List TableEntry → List TableEntry
without_taken offers c entries = filter (λ e. not (is_taken offers c e)) entries

-- the entries without those on a bearer
abbrev pub without_bearer : ℕ → List TableEntry → List TableEntry
without_bearer id entries = filter (λ e. not (e.bearer.0 == id)) entries

abbrev pub goes_ahead : List Offer → TableEntry → TableEntry → Bool
goes_ahead offers x e = goes_before (source_rank offers e.source) (source_rank offers x.source)

abbrev pub is_behind : List Offer → TableEntry → TableEntry → Bool
is_behind offers x e = goes_before (source_rank offers x.source) (source_rank offers e.source)

-- an entry in its place among those of other names
abbrev pub placed : List Offer → TableEntry → List TableEntry → List TableEntry
placed offers x entries =
    let others = without_entry offers (name_of offers x.source) entries in
    filter (goes_ahead offers x) others ++ x ∷ filter (is_behind offers x) others

abbrev pub is_slot : Slot → Option Slot → Bool
is_slot slot None = false
is_slot slot (Some s) = s.0 == slot.0

-- an entry whose slot is counted or not
abbrev pub with_counting : Slot → Bool → TableEntry → TableEntry
with_counting slot on e = if is_slot slot e.slot then record e { counted = on } else e
