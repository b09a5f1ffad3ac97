-- When a frame was recorded: seconds since 1970-01-01 00:00:00 UTC, and the nanoseconds beside them.
use Rattle.std.specs.Prelude.{ℕ, ◌+◌, ◌-◌, ◌*◌, ◌/◌, ◌%◌, ◌^◌, nat_le, nat_lt, List, [], ◌∷◌, Option, Some, None, option_map, length, ◌==◌, if◌then◌else◌}
use Rattle.pcef_capture_file.specs.Numbers.{number_by}
use Rattle.pcef_capture_file.specs.Options.{value_of}
use Rattle.pcef_capture_file.specs.declared.classic.TimeScale.{TimeScale}
use Rattle.pcef_capture_file.specs.declared.classic.TimeScale.TheVariants.{Microseconds, Nanoseconds}
use Rattle.pcef_capture_file.specs.declared.endianness.Endianness.{Endianness}
use Rattle.pcef_capture_file.specs.declared.time.Clock.{Clock}
use Rattle.pcef_capture_file.specs.declared.time.Time.{Time}
use Rattle.pcef_capture_file.specs.declared.time.TimeOffset.{TimeOffset}
use Rattle.pcef_capture_file.specs.declared.time.TimeOffset.TheVariants.{Later, Earlier}
use Rattle.pcef_capture_file.specs.declared.time.TimeUnit.{TimeUnit}
use Rattle.pcef_capture_file.specs.declared.time.TimeUnit.TheVariants.{Decimal, Binary}

-- ---- classic files (draft-ietf-opsawg-pcap, clause 5)
-- seconds, and a number of microseconds or nanoseconds; of this number a second or more counts as seconds (own choice)
abbrev pub classic_time : TimeScale → ℕ → ℕ → Time
classic_time Microseconds seconds fraction =
    record { seconds = seconds + fraction / 10 ^ 6; nanoseconds = fraction % 10 ^ 6 * 1000 }
classic_time Nanoseconds seconds fraction =
    record { seconds = seconds + fraction / 10 ^ 9; nanoseconds = fraction % 10 ^ 9 * 1 }

-- ---- pcapng files (draft-ietf-opsawg-pcapng, clauses 4.2 and 4.3)
-- if_tsresol: the highest bit says whether the other bits are a negative power of 2 or of 10
abbrev pub unit_of_octet : ℕ → TimeUnit
unit_of_octet octet = if nat_lt octet 128 then Decimal octet else Binary (octet - 128)

-- a number of 64 bits
abbrev pub fitting : ℕ → Option ℕ
fitting n = if nat_lt n (2 ^ 64) then Some n else None

-- a unit of which a second has 2 ^ 64 or more isn't read (own choice)
abbrev pub per_second : TimeUnit → Option ℕ
per_second (Decimal exponent) = fitting (10 ^ exponent)
per_second (Binary exponent) = fitting (2 ^ exponent)

-- if_tsoffset: a signed number of 64 bits
abbrev pub offset_of_bits : ℕ → TimeOffset
offset_of_bits bits = if nat_lt bits (2 ^ 63) then Later bits else Earlier (2 ^ 64 - bits)

-- times before 1970 aren't read (own choice)
abbrev pub shifted : TimeOffset → ℕ → Option ℕ
shifted (Later offset) seconds = fitting (seconds + offset)
shifted (Earlier offset) seconds = if nat_le offset seconds then Some (seconds - offset) else None

-- the time after so many units; of parts of a nanosecond none counts
unfoldable pub time_by : TimeOffset → ℕ → ℕ → Option Time
time_by offset units per =
    option_map (λ s. record { seconds = s; nanoseconds = units % per * 10 ^ 9 / per }) (shifted offset (units / per))

abbrev pub time_after : TimeOffset → ℕ → Option ℕ → Option Time
time_after offset units None = None
time_after offset units (Some per) = time_by offset units per

unfoldable pub time_of : Clock → ℕ → Option Time
time_of clock units = time_after clock.offset units (per_second clock.unit)

-- ---- the clock of an interface, by its options
-- if_tsresol has the code 9 and one octet; without it the unit is a microsecond
abbrev pub unit_of : Option (List ℕ) → TimeUnit
unit_of (Some (octet ∷ [])) = unit_of_octet octet
unit_of other = Decimal 6

-- if_tsoffset has the code 14 and eight octets; without it nothing is added
abbrev pub offset_of : Endianness → Option (List ℕ) → TimeOffset
offset_of e (Some octets) = if length octets == 8 then offset_of_bits (number_by e octets 0 8) else Later 0
offset_of e None = Later 0

abbrev pub clock_of : Endianness → List ℕ → Clock
clock_of e options = record { unit = unit_of (value_of e 9 options); offset = offset_of e (value_of e 14 options) }
