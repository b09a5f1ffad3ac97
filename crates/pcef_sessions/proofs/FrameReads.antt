-- What a frame's parts mean.
use Rattle.std.proofs.Common.{◌≡◌, ◌∙◌, ℕ, ◌-◌, ◌≤◌, Bool, true, false, List, [], ◌∷◌, length, take, drop, get_or, Option, Some, None, Ok, Err, refl, sym, ap, arith}
use Rattle.std.specs.Prelude.{if◌then◌else◌}
use Rattle.std.proofs.lemmas.List.{take_all}
use Rattle.pcef_sessions.specs.declared.frame_fault.FrameFault.{FrameFault}
use Rattle.pcef_sessions.specs.declared.frame_fault.FrameFault.TheVariants.{BadName}
use Rattle.pcef_sessions.specs.Addressed.{is_session_name}
use Rattle.pcef_sessions.specs.Frames.{Meaning, behind_name, line_of_kind, meaning, named, named_line, take_fields, taken}

-- the fields of a packet
pub takes : (xs : List ℕ) → 2 ≤ length xs → take_fields xs ≡ taken (get_or xs 0 0) (get_or xs 1 0) (take (length xs - 2) (drop 2 xs))
takes [] le = absurd (omega arith)
takes (x ∷ []) le = absurd (omega arith)
takes (x ∷ (y ∷ xs)) le = ap (taken x y) (sym (take_all (length (x ∷ (y ∷ xs)) - 2) xs (omega arith)))

-- the session's name
some_is : (test : Bool) (octets name : List ℕ) → Some name ≡ (if test then Some octets else None) → (test ≡ true) × (octets ≡ name)
some_is true octets name is = (refl, cc)
some_is false octets name is = absurd (cc)

none_is : (test : Bool) (octets : List ℕ) → None ≡ (if test then Some octets else None) → test ≡ false
none_is true octets is = absurd (cc)
none_is false octets is = refl

pub is_named : (octets name : List ℕ) → Some name ≡ (if is_session_name octets then Some octets else None) → (is_session_name name ≡ true) × (octets ≡ name)
is_named octets name is =
    let p = some_is (is_session_name octets) octets name is in
    (ap is_session_name (sym p.1) ∙ p.0, p.1)

by_name : (octets : List ℕ) (kind : ℕ) (fields : List ℕ) → is_session_name octets ≡ true → named octets (kind ∷ fields) ≡ behind_name octets (line_of_kind kind fields)
by_name octets kind fields is = rw is refl

pub bad_name : (frame octets : List ℕ) (kind : ℕ) (fields : List ℕ) → meaning frame ≡ named octets (kind ∷ fields) → None ≡ (if is_session_name octets then Some octets else None) → meaning frame ≡ Err BadName
bad_name frame octets kind fields whole is =
    let isnt = none_is (is_session_name octets) octets is in
    whole ∙ rw isnt refl

pub right : (frame octets name : List ℕ) (kind : ℕ) (fields line : List ℕ) → meaning frame ≡ named octets (kind ∷ fields) → Some name ≡ (if is_session_name octets then Some octets else None) → line_of_kind kind fields ≡ Ok line
    → meaning frame ≡ Ok (named_line name line)
right frame octets name kind fields line whole is said =
    let p = some_is (is_session_name octets) octets name is in
    whole ∙ by_name octets kind fields p.0 ∙ ap (behind_name octets) said ∙ ap (λ n. Ok (named_line n line)) p.1

pub wrong : (frame octets name : List ℕ) (kind : ℕ) (fields : List ℕ) (why : FrameFault) → meaning frame ≡ named octets (kind ∷ fields) → Some name ≡ (if is_session_name octets then Some octets else None)
    → line_of_kind kind fields ≡ Err why → meaning frame ≡ Err why
wrong frame octets name kind fields why whole is said =
    let p = some_is (is_session_name octets) octets name is in
    whole ∙ by_name octets kind fields p.0 ∙ ap (behind_name octets) said
