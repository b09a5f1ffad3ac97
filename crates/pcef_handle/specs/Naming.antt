-- The names of rules, by their places (own choice).
use Rattle.std.specs.Prelude.{ℕ, ◌≡◌, List, Option, Some, None, Result, Ok, Err, slice_get}
use Rattle.pcef_catalog.specs.declared.listing.Offer.{Offer}
use Rattle.pcef_table.specs.declared.entry.TableEntry.{TableEntry}
use Rattle.pcef_table.specs.Sources.{name_of}
use Rattle.pcef_table.specs.Tables.{TableValue}
use Rattle.pcef_session.specs.Answers.{ShowsNewest}
use Rattle.pcef_world.specs.Apart.{held_apart}
use Rattle.pcef_handle.specs.Answering.{CopiesFront}
use Rattle.pcef_handle.specs.Attached.{Attached}
use Rattle.pcef_handle.specs.declared.held.OpenSession.{OpenSession}
use Rattle.pcef_handle.specs.declared.naming.NameRefusal.{NameRefusal}
use Rattle.pcef_handle.specs.declared.naming.NameRefusal.TheVariants.{NoOwner, NoRule}

-- the name of the rule at a place of a table is written as far as it fits, and its length is returned
abbrev pub NamesAt : List Offer → List TableEntry → ℕ → List ℕ → Result ℕ NameRefusal → List ℕ → Type 0
NamesAt offers entries place before (Ok octets) after =
    (e : TableEntry) × (slice_get entries place ≡ Some e) × CopiesFront (name_of offers e.source) before after octets
NamesAt offers entries place before (Err NoRule) after = (slice_get entries place ≡ None) × (after ≡ before)
NamesAt offers entries place before (Err other) after = ⊥

-- in the newest generation of a session
abbrev pub NamesNewest : OpenSession → ℕ → List ℕ → Result ℕ NameRefusal → List ℕ → Type 0
NamesNewest s place before r after =
    (t : TableValue) × ShowsNewest s.world.session t × NamesAt s.catalog t.entries place before r after

abbrev pub NamesIn : Option OpenSession → ℕ → List ℕ → Result ℕ NameRefusal → List ℕ → Type 0
NamesIn (Some s) place before r after = NamesNewest s place before r after
NamesIn None place before r after = (r ≡ Err NoOwner) × (after ≡ before)

-- in the generation that a worker holds
abbrev pub NamesHeld : Option Attached → ℕ → List ℕ → Result ℕ NameRefusal → List ℕ → Type 0
NamesHeld (Some w) place before r after = NamesAt w.catalog (held_apart w.apart).entries place before r after
NamesHeld None place before r after = (r ≡ Err NoOwner) × (after ≡ before)
