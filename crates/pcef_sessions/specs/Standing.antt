-- How sessions stand under their names (own choice).
use Rattle.std.specs.Prelude.{ℕ, ◌≡◌, ◌≢◌, List, Option, Some, None, option_map}
use Rattle.std.specs.Str.{bytes_eq}
use Rattle.std.specs.HashMap.{get_by}
use Rattle.std.specs.Arc.{arc_value}
use Rattle.pcef_packet.specs.declared.header.Addr.{Addr}
use Rattle.pcef_model.specs.Setting.{Setting}
use Rattle.pcef_model.specs.ProfileModel.{setting_of}
use Rattle.pcef_sessions.specs.Under.{Session}
use Rattle.pcef_sessions.specs.declared.sessions.Sessions.{Sessions}

-- what is fixed for each session but for its address
abbrev pub fixed : Sessions → Setting
fixed s = setting_of s.profile (arc_value s.catalog)

-- the session of a name, if it is open
abbrev pub held : Sessions → List ℕ → Option Session
held s name = option_map (λ b. b.value.session) (get_by (bytes_eq name) s.table)

-- this stands under a name then, and nothing else changes
pub record Becomes (old new : Sessions) (name : List ℕ) (there : Option Session) : Type 0 where
  pub here : held new name ≡ there
  pub others : (other : List ℕ) → other ≢ name → held new other ≡ held old other
