-- The outcome of opening a session by the text of a profile (own choice).
use Rattle.std.specs.Prelude.{ℕ, ◌≡◌, ◌+◌, ◌%◌, ◌^◌, true, List, Option, Some, None, Result, Ok, Err, is_some}
use Rattle.std.specs.Str.{IsUtf8}
use Rattle.pcef_model.specs.Setting.{Setting}
use Rattle.pcef_model.specs.Outcomes.{Opens}
use Rattle.pcef_model.specs.ProfileModel.{ProfileModel, setting_of}
use Rattle.pcef_profile.specs.ProfileOf.{GivesProfile, ProfileOf}
use Rattle.pcef_world.specs.Worlds.{IsOpenedWorld, World}
use Rattle.pcef_built_in.specs.BuiltIn.{built_in_offers}
use Rattle.pcef_handle.specs.declared.held.Handle.{Handle}
use Rattle.pcef_handle.specs.declared.held.OpenSession.{OpenSession}
use Rattle.pcef_handle.specs.declared.opening.OpenRefusal.{OpenRefusal}
use Rattle.pcef_handle.specs.declared.opening.OpenRefusal.TheVariants as refusal

-- the profile of a text, or its first fault
abbrev pub ReadsProfile : List ℕ → Result ProfileModel OpenRefusal → Type 0
ReadsProfile text (Ok p) = IsUtf8 text × GivesProfile (Ok p) (ProfileOf text)
ReadsProfile text (Err refusal.NotUtf8) = ¬ (IsUtf8 text)
ReadsProfile text (Err (refusal.Profile fault)) = IsUtf8 text × GivesProfile (Err fault) (ProfileOf text)
ReadsProfile text (Err other) = ⊥

-- a session with nothing in its journal and no workers, for which this is fixed; or why there is none
abbrev pub Starts : Setting → Result World OpenRefusal → Type 0
Starts p (Ok w) = IsOpenedWorld p w
Starts p (Err (refusal.Session fault)) = Opens p (Some fault)
Starts p (Err refusal.NoMemory) = Unit {0}
Starts p (Err other) = ⊥

abbrev pub StartsSession : Setting → Result OpenSession OpenRefusal → Type 0
StartsSession p (Ok s) = IsOpenedWorld p s.world
StartsSession p (Err why) = Starts p (Err why)

-- what is fixed for the session is what the text says, over the built-in rules
abbrev pub OpensText : List ℕ → Result OpenSession OpenRefusal → Type 0
OpensText text (Ok s) = (p : ProfileModel) × ReadsProfile text (Ok p) × IsOpenedWorld (setting_of p built_in_offers) s.world
OpensText text (Err (refusal.Session fault)) = (p : ProfileModel) × ReadsProfile text (Ok p) × Opens (setting_of p built_in_offers) (Some fault)
OpensText text (Err refusal.NoMemory) = Unit {0}
OpensText text (Err other) = ReadsProfile text (Err other)

-- there is a session, of which this holds
abbrev pub IfThere : Option OpenSession → (OpenSession → Type 0) → Type 0
IfThere (Some s) P = P s
IfThere None P = ⊥

-- the sessions of a handle are numbered one after the other
abbrev pub number_after : ℕ → ℕ
number_after number = (number + 1) % 2 ^ 64

-- a handle that has a session keeps it; any refusal leaves the handle as it was
abbrev pub OpensHandle : List ℕ → Handle → Result (Unit {0}) OpenRefusal → Handle → Type 0
OpensHandle text old (Ok done) new =
    (old.session ≡ None) × IfThere new.session (λ s. OpensText text (Ok s) × (s.number ≡ old.next_number)) × (new.next_number ≡ number_after old.next_number)
OpensHandle text old (Err refusal.AlreadyOpen) new = (is_some old.session ≡ true) × (new ≡ old)
OpensHandle text old (Err other) new = (old.session ≡ None) × OpensText text (Err other) × (new ≡ old)
