-- The AVPs of a group are those that octets are read as.
use Rattle.std.proofs.Common.{◌≡◌, ◌≤◌, ◌<◌, ◌∙◌, ℕ, zero, suc, List, [], ◌∷◌, length, Option, Some, None, Result, Ok, Err, refl, sym, ap, arith}
use Rattle.pcef_diameter.specs.Avps.{Reads, Shown, avp_at, avp_fault, behind_avp}
use Rattle.pcef_diameter.specs.declared.fault.AvpFault.{AvpFault}
use Rattle.pcef_diameter.specs.declared.fault.AvpFault.TheVariants.{Cut}
use Rattle.pcef_diameter.proofs.Readings.{empty_fault}
use Rattle.pcef_diameter.proofs.Spelled.{behind_shorter}
use Rattle.pcef_base.specs.Readings.{◌>>=◌}
use Rattle.pcef_gx.specs.Readings.{Fault, avps_within, before, code_in, blank_of, problem_of}

-- what comes of AVPs and of the fault behind them
abbrev pub read_as : List Shown → List ℕ → Option AvpFault → Result (List Shown) Fault
read_as avps rest None = Ok avps
read_as avps rest (Some fault) = Err (problem_of fault, blank_of (code_in rest))

-- one AVP more in front
in_front : (a : Shown) (avps : List Shown) (rest : List ℕ) (fault : Option AvpFault) → (read_as avps rest fault >>= λ others. Ok (a ∷ others)) ≡ read_as (a ∷ avps) rest fault
in_front a avps rest None = refl
in_front a avps rest (Some fault) = refl

none_is_cut : (octets : List ℕ) → octets ≡ [] → avp_fault octets ≡ None → ⊥
none_is_cut octets e none = let bad : Some Cut ≡ None = sym (empty_fault octets e) ∙ none in absurd (cc bad)

pub within : (most : ℕ) (octets : List ℕ) (avps : List Shown) (rest : List ℕ) (fault : Option AvpFault) → length octets ≤ most → Reads octets avps rest fault → avps_within most octets ≡ read_as avps rest fault
within most [] [] rest None few r = refl
within most (o ∷ octets) [] rest None few r = absurd (cc r.0)
within most [] [] rest (Some fault) few r = absurd (omega (arith, r.0))
within zero (o ∷ octets) avps rest fault few r = absurd (omega (arith, few))
within (suc most) (o ∷ octets) [] rest (Some fault) few r =
    rw (r.1, r.2) refl
within most [] (a ∷ avps) rest fault few r = absurd (none_is_cut [] refl r.0)
within (suc most) (o ∷ octets) (a ∷ avps) rest fault few r =
    let shorter = behind_shorter (o ∷ octets) r.0 in
    let others = within most (behind_avp (o ∷ octets)) avps rest fault (omega (arith, few, shorter)) r.2 in
    rw (r.0, others, r.1) (in_front a avps rest fault)
