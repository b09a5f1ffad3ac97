-- What is read of AVPs, or the first fault: what is wrong, and the AVP that the Failed-AVP shows.
use Rattle.std.specs.Prelude.{◌≡◌, ◌==◌, ◌&&◌, ◌||◌, not, ℕ, nat_lt, zero, suc, Bool, true, false, List, [], ◌∷◌, length, replicate, Option, Some, None, Result, Ok, Err, if◌then◌else◌}
use Rattle.std.specs.List.{find, list_any}
use Rattle.pcef_base.specs.Readings.{◌>>=◌, is_from_to, or_fault, passing}
use Rattle.pcef_diameter.specs.Avps.{Shown, avp_at, avp_fault, behind_avp, flags_at, has_vendor, shown}
use Rattle.pcef_diameter.specs.Numbers.{unsigned32_of, unsigned64_of, word_at}
use Rattle.pcef_diameter.specs.declared.fault.AvpFault.{AvpFault}
use Rattle.pcef_diameter.specs.declared.fault.AvpFault.TheVariants as avp_fault
use Rattle.pcef_gx.specs.Codes.{cc_total_octets, code_of, has_code, ietf}
use Rattle.pcef_gx.specs.Known.{is_known, is_one_of}
use Rattle.pcef_gx.specs.declared.code.Code.{Code}
use Rattle.pcef_gx.specs.declared.fault.Problem.{Problem}
use Rattle.pcef_gx.specs.declared.fault.Problem.TheVariants as problem
use Rattle.pcef_gx.specs.declared.fault.Stop.{Stop}
use Rattle.pcef_gx.specs.declared.fault.Stop.TheVariants as stop

abbrev pub Fault : Type 0
Fault = Problem × Shown

-- What is returned, seen by `view`, is what is due. When out of memory, it says nothing.
abbrev pub Fails : {Y : Type 0} → Stop → Result Y Fault → Type 0
Fails (stop.Fault f) due = due ≡ Err (f.problem, shown f.failed)
Fails stop.NoMemory due = Unit {0}

abbrev pub Gives : {X Y : Type 0} → (X → Y) → Result X Stop → Result Y Fault → Type 0
Gives view (Ok x) due = due ≡ Ok (view x)
Gives view (Err e) due = Fails e due

-- ---- examples of AVPs
-- numbers of four octets among the AVPs that are read
abbrev pub has_word : Code → Bool
has_word code =
    if code.vendor == 0 then is_one_of (258 ∷ 266 ∷ 268 ∷ 278 ∷ 285 ∷ 298 ∷ 415 ∷ 416 ∷ []) code.number
    else (code.vendor == 10415)
    && is_one_of (511 ∷ 1006 ∷ 1009 ∷ 1010 ∷ 1025 ∷ 1026 ∷ 1028 ∷ 1045 ∷ 1046 ∷ 1047 ∷ 1048 ∷ 1068 ∷ 1069 ∷ 1070 ∷ 1080 ∷ []) code.number

-- zeros, as many as the data of the AVP have at least
abbrev pub least_data : Code → List ℕ
least_data code =
    if (code.vendor == 0) && (code.number == 421) then replicate 8 0
    else if has_word code then replicate 4 0
    else []

-- Of an AVP that is missing, or whose length is wrong, an example with zeros is shown (RFC 6733, clause 7.5).
abbrev pub blank_of : Code → Shown
blank_of code = record {
  code = code.number;
  vendor = if code.vendor == 0 then None else Some code.vendor;
  mandatory = true;
  protected = false;
  octets = least_data code;
}

-- ---- the AVPs of a message or of a group
-- the code of what stands where no AVP does, as far as its octets go
abbrev pub code_in : List ℕ → Code
code_in octets =
    if nat_lt (length octets) 4 then ietf 0
    else if nat_lt (length octets) 12 || not (has_vendor (flags_at octets)) then ietf (word_at octets 0)
    else record { vendor = word_at octets 8; number = word_at octets 0 }

-- RFC 6733, clause 7.1.5
abbrev pub problem_of : AvpFault → Problem
problem_of avp_fault.Bits = problem.InvalidAvpBits
problem_of avp_fault.Cut = problem.InvalidAvpLength
problem_of avp_fault.Length = problem.InvalidAvpLength

abbrev pub before : Option AvpFault → List ℕ → Result (List Shown) Fault → Result (List Shown) Fault
before (Some fault) octets others = Err (problem_of fault, blank_of (code_in octets))
before None octets others = do
  avps ← others
  Ok (avp_at octets ∷ avps)

-- The AVPs that octets are, one after another, or the first fault. There are fewer of them than octets.
abbrev pub avps_within : ℕ → List ℕ → Result (List Shown) Fault
avps_within most [] = Ok []
avps_within zero (octet ∷ octets) = Ok []
avps_within (suc most) (octet ∷ octets) =
    before (avp_fault (octet ∷ octets)) (octet ∷ octets) (avps_within most (behind_avp (octet ∷ octets)))

abbrev pub is_unknown_avp : Shown → Bool
is_unknown_avp a = a.mandatory && not (is_known (code_of a))

abbrev pub unless_unknown : Option Shown → List Shown → Result (List Shown) Fault
unless_unknown (Some a) avps = Err (problem.AvpUnsupported, a)
unless_unknown None avps = Ok avps

-- The AVPs of a message or of a group. Each that is mandatory has to be known, also in a group that isn't: what it says
-- may be an instruction (own choice; RFC 6733, clause 4.1).
unfoldable pub group_of : List ℕ → Result (List Shown) Fault
group_of octets = do
  avps ← avps_within (length octets) octets
  unless_unknown (find is_unknown_avp avps) avps

-- ---- one AVP
-- the number in its data
unfoldable pub number_of : Shown → Result ℕ Fault
number_of a = or_fault (problem.InvalidAvpLength, blank_of (code_of a)) (unsigned32_of a.octets)

unfoldable pub long_number_of : Shown → Result ℕ Fault
long_number_of a = or_fault (problem.InvalidAvpLength, blank_of (code_of a)) (unsigned64_of a.octets)

unfoldable pub number_from_to : ℕ → ℕ → Shown → Result ℕ Fault
number_from_to least most a = do
  number ← number_of a
  passing (is_from_to least most) (problem.InvalidAvpValue, a) number

-- the one AVP of a code, where one was found before or not: a second is a fault
abbrev pub only_after : Code → Option Shown → List Shown → Result (Option Shown) Fault
only_after code found [] = Ok found
only_after code None (a ∷ avps) = only_after code (if has_code code a then Some a else None) avps
only_after code (Some b) (a ∷ avps) =
    if has_code code a then Err (problem.AvpOccursTooManyTimes, a) else only_after code (Some b) avps

unfoldable pub only_of : Code → List Shown → Result (Option Shown) Fault
only_of code avps = only_after code None avps

-- the one AVP of a code that has to be there
unfoldable pub required_of : Code → List Shown → Result Shown Fault
required_of code avps = do
  found ← only_of code avps
  or_fault (problem.MissingAvp, blank_of code) found

-- what is read of an AVP, where it is there
abbrev pub where_there : {X : Type 0} → (Shown → Result X Fault) → Option Shown → Result (Option X) Fault
where_there reading None = Ok None
where_there reading (Some a) = do
  x ← reading a
  Ok (Some x)

-- the number of the one AVP of a code; of an Enumerated one it is at most `most`
unfoldable pub only_number_of : Code → List Shown → Result (Option ℕ) Fault
only_number_of code avps = do
  found ← only_of code avps
  where_there number_of found

unfoldable pub only_word_of : Code → ℕ → List Shown → Result (Option ℕ) Fault
only_word_of code most avps = do
  found ← only_of code avps
  where_there (number_from_to 0 most) found

-- whether an AVP of a code stands there
abbrev pub stands : Code → List Shown → Bool
stands code avps = list_any (has_code code) avps
