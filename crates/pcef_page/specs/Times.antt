-- When the packets of a script were recorded, by lines of times (own choice): seconds since the start of 1970 with nine
-- digits behind the point, a space, and the number of the frame in its capture.
use Rattle.std.specs.Prelude.{ℕ, Bool, false, ◌≡◌, ◌≢◌, ◌+◌, ◌-◌, ◌*◌, ◌==◌, ◌&&◌, List, ◌∷◌, ◌++◌, filter, length, map, take, drop, nat_le, nat_lt, Option, Some, None, codes, slice_index_or, if◌then◌else◌}
use Rattle.std.specs.List.{All, position_or_len, zip}
use Rattle.std.specs.Str.{all_ascii_digits}
use Rattle.std.specs.Str.Parse.{digits_value}
use Rattle.serde_json.specs.Data.{Data}
use Rattle.pcef_page.specs.declared.figures.Stamp.{Stamp}
use Rattle.pcef_page.specs.declared.times.TimesFault.{TimesFault}
use Rattle.pcef_page.specs.declared.times.TimesFault.TheVariants as fault
use Rattle.pcef_page.specs.Grants.{asks}
use Rattle.pcef_page.specs.Pairing.{json_of, filled}

-- ---- a line of times
unfoldable pub decimal_in : ℕ → List ℕ → Option ℕ
decimal_in most_digits digits =
    if nat_lt 0 (length digits) && nat_le (length digits) most_digits && all_ascii_digits digits
    then Some (digits_value 10 digits)
    else None

-- seconds and nanoseconds
abbrev pub nanoseconds_by : Option ℕ → Option ℕ → Option ℕ
nanoseconds_by None rest = None
nanoseconds_by (Some seconds) None = None
nanoseconds_by (Some seconds) (Some rest) = Some (seconds * 1000000000 + rest)

-- nine digits stand behind the point, and one to ten before it
abbrev pub time_in : List ℕ → Option ℕ
time_in text =
    if nat_le 11 (length text) && (slice_index_or text (length text - 10) 0 == 46)
    then nanoseconds_by (decimal_in 10 (take (length text - 10) text)) (decimal_in 9 (drop (length text - 9) text))
    else None

-- the place of the first space
abbrev pub space_in : List ℕ → ℕ
space_in line = position_or_len (λ b. b == 32) line

abbrev pub stamp_by : ℕ → Option ℕ → Option ℕ → Option Stamp
stamp_by line None frame = None
stamp_by line (Some time) None = None
stamp_by line (Some time) (Some frame) = Some (record { line = line; nanoseconds = time; frame = frame })

-- that of the packet of a line, by a line of times
abbrev pub stamp_in : ℕ → List ℕ → Option Stamp
stamp_in line time =
    stamp_by line (time_in (take (space_in time) time)) (decimal_in 19 (drop (space_in time + 1) time))

-- ---- lines of packets with their times
abbrev pub is_take : Option Data → Bool
is_take None = false
is_take (Some line) = asks (codes "take") line

abbrev pub has_packet : ℕ × List ℕ → Bool
has_packet line = is_take (json_of line.1)

-- the lines of a script that take packets
abbrev pub takes : List ℕ → List (ℕ × List ℕ)
takes script = filter has_packet (filled script)

abbrev pub pairs : List ℕ → List ℕ → List ((ℕ × List ℕ) × (ℕ × List ℕ))
pairs script times = zip (takes script) (filled times)

abbrev pub stamp_of_pair : (ℕ × List ℕ) × (ℕ × List ℕ) → Option Stamp
stamp_of_pair p = stamp_in p.0.0 p.1.1

-- the nth line that takes a packet has the nth time
pub record AreStampsOf (script times : List ℕ) (stamps : List Stamp) : Type 0 where
  pub each : map Some stamps ≡ map stamp_of_pair (pairs script times)
  pub all : length (takes script) ≡ length (filled times)

-- ---- faults
-- these have their times
abbrev pub HaveTimes : List ((ℕ × List ℕ) × (ℕ × List ℕ)) → Type 0
HaveTimes ps = All (λ p. stamp_of_pair p ≢ None) ps

-- why a script and times don't belong together
abbrev pub FailsTimes : TimesFault → List ℕ → List ℕ → Type 0
FailsTimes (fault.BadTime n) script times =
    (front : List ((ℕ × List ℕ) × (ℕ × List ℕ))) × (p : (ℕ × List ℕ) × (ℕ × List ℕ)) × (back : List ((ℕ × List ℕ) × (ℕ × List ℕ)))
    × (pairs script times ≡ front ++ p ∷ back) × HaveTimes front × (stamp_of_pair p ≡ None) × (n ≡ p.1.0)
FailsTimes (fault.NoTime n) script times =
    HaveTimes (pairs script times) × (front : List (ℕ × List ℕ)) × (line : List ℕ) × (back : List (ℕ × List ℕ))
    × (takes script ≡ front ++ (n, line) ∷ back) × (length front ≡ length (filled times))
FailsTimes (fault.MoreTimes n) script times =
    HaveTimes (pairs script times) × (front : List (ℕ × List ℕ)) × (time : List ℕ) × (back : List (ℕ × List ℕ))
    × (filled times ≡ front ++ (n, time) ∷ back) × (length front ≡ length (takes script))
FailsTimes fault.NoMemory script times = Unit {0}
