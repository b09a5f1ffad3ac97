-- Who speaks, and of which session.
use Rattle.std.specs.Prelude.{ℕ, ◌≤◌, nat_lt, List, length, if◌then◌else◌}

-- Session-Id, Origin-Host, Origin-Realm (RFC 6733, clauses 8.8, 6.3 and 6.4), and the realm of the PCRF, Destination-Realm
-- (clause 6.6)
pub record Speaker : Type 0 where
  pub session_id : List ℕ
  pub origin_host : List ℕ
  pub origin_realm : List ℕ
  pub destination_realm : List ℕ

-- own choice
abbrev pub most_octets : ℕ
most_octets = 1024

abbrev pub IsShort : Speaker → Type 0
IsShort s =
    (length s.session_id ≤ most_octets) × (length s.origin_host ≤ most_octets) × (length s.origin_realm ≤ most_octets)
    × (length s.destination_realm ≤ most_octets)

-- the same speaker, of the session with this Session-Id; a Session-Id of more octets is nobody's
abbrev pub speaking_of : List ℕ → Speaker → Speaker
speaking_of session s = if nat_lt most_octets (length session) then s else record s { session_id = session }
