-- How a dialogue begins (own choice).
use Rattle.std.specs.Prelude.{ℕ, ◌≡◌, ◌≤◌, ◌<◌, ◌⊎◌, Bool, true, false, List, [], length, Option, Some, None, Result, Ok, Err}
use Rattle.pcef_diameter.specs.Avps.{Reads, Shown}
use Rattle.pcef_diameter.specs.declared.fault.AvpFault.{AvpFault}
use Rattle.pcef_gx_dialogue.specs.Ccrs.{at_first}
use Rattle.pcef_gx_messages.specs.Identities.{Speaker}
use Rattle.pcef_handle.specs.Opening.{ReadsProfile}
use Rattle.pcef_handle.specs.declared.opening.OpenRefusal.{OpenRefusal}
use Rattle.pcef_handle.specs.declared.opening.OpenRefusal.TheVariants as why
use Rattle.pcef_model.specs.ProfileModel.{ProfileModel, setting_of}
use Rattle.pcef_model.specs.Refusals.{first_of, open_faults}
use Rattle.pcef_model.specs.declared.answer.OpenFault.{OpenFault}
use Rattle.pcef_gx_handle.specs.Dialogues.{Dialoguing}
use Rattle.pcef_gx_handle.specs.Proposals.{proposal}
use Rattle.pcef_gx_handle.specs.declared.held.Stage.TheVariants.{Opening}
use Rattle.pcef_gx_handle.specs.declared.opening.BeginRefusal.{BeginRefusal}
use Rattle.pcef_gx_handle.specs.declared.opening.BeginRefusal.TheVariants as refusal

-- ---- the AVPs of the host
abbrev pub most_others : ℕ
most_others = 65536

abbrev pub AreAvps : List ℕ → Type 0
AreAvps octets = (avps : List Shown) × (rest : List ℕ) × Reads octets avps rest None

abbrev pub HaveFault : List ℕ → Type 0
HaveFault octets = (avps : List Shown) × (rest : List ℕ) × (fault : AvpFault) × Reads octets avps rest (Some fault)

-- whether they are whole, and not too many
abbrev pub TellsAvps : Bool → List ℕ → Type 0
TellsAvps true octets = (length octets ≤ most_others) × AreAvps octets
TellsAvps false octets = (most_others < length octets) ⊎ HaveFault octets

-- ---- a dialogue that begins: nothing was answered, no CCR was sent, and the proposal is due
abbrev pub begun : Speaker → ProfileModel → List ℕ → Dialoguing
begun s p others = record {
  answering = record { speaker = s; last = None };
  ccrs = at_first;
  profile = p;
  session = None;
  stage = Opening;
  due = proposal p others;
  due_out = 0;
  watches_loss = false;
}

-- why no session can have a profile, its memory aside
abbrev pub fault_of : ProfileModel → Option OpenFault
fault_of p = first_of (open_faults (setting_of p []))

abbrev pub IsFault : ProfileModel → OpenRefusal → Type 0
IsFault p (why.Session fault) = fault_of p ≡ Some fault
IsFault p other = ⊥

abbrev pub BeginsBy : ProfileModel → Speaker → List ℕ → Result Dialoguing BeginRefusal → Type 0
BeginsBy p s others (Ok d) = (fault_of p ≡ None) × (d ≡ begun s p others)
BeginsBy p s others (Err (refusal.Profile why)) = IsFault p why
BeginsBy p s others (Err refusal.NoMemory) = Unit {0}
BeginsBy p s others (Err other) = ⊥

-- with the profile of a text
abbrev pub BeginsText : List ℕ → Speaker → List ℕ → Result Dialoguing BeginRefusal → Type 0
BeginsText text s others (Ok d) = (p : ProfileModel) × ReadsProfile text (Ok p) × BeginsBy p s others (Ok d)
BeginsText text s others (Err (refusal.Profile why)) =
    ReadsProfile text (Err why) ⊎ ((p : ProfileModel) × ReadsProfile text (Ok p) × IsFault p why)
BeginsText text s others (Err refusal.NoMemory) = Unit {0}
BeginsText text s others (Err other) = ⊥

abbrev pub Begins : List ℕ → Speaker → List ℕ → Result Dialoguing BeginRefusal → Type 0
Begins text s others (Ok d) = TellsAvps true others × BeginsText text s others (Ok d)
Begins text s others (Err refusal.NotAvps) = TellsAvps false others
Begins text s others (Err other) = BeginsText text s others (Err other)

-- a handle that has a dialogue keeps it; any refusal leaves it as it was
abbrev pub OpensGx : List ℕ → Speaker → List ℕ → Option Dialoguing → Result (Unit {0}) BeginRefusal → Option Dialoguing → Type 0
OpensGx text s others None (Ok done) (Some d) = Begins text s others (Ok d)
OpensGx text s others None (Err why) None = Begins text s others (Err why)
OpensGx text s others (Some d) (Err refusal.AlreadyBegun) (Some e) = e ≡ d
OpensGx text s others old result new = ⊥
