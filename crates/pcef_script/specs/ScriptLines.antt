-- The lines of a script while their bytes come, and answers that are written (own choice).
use Rattle.std.specs.Prelude.{◌≡◌, ◌≢◌, ◌+◌, ◌==◌, ◌||◌, ◌&&◌, ℕ, nat_lt, Bool, true, false, not, List, [], ◌∷◌, ◌++◌, length, take, Option, Some, None, Result, Ok, Err, OnOk, if◌then◌else◌}
use Rattle.std.specs.List.{list_all, list_any}
pub use Rattle.pcef_base.specs.Writing.{AppendsFront}
use Rattle.pcef_script.specs.declared.fault.ScriptFault.{ScriptFault}
use Rattle.pcef_script.specs.declared.fault.ScriptFault.TheVariants as fault

-- the most bytes of a line, without its line feed, and of a script
abbrev pub line_most : ℕ
line_most = 262144

abbrev pub script_most : ℕ
script_most = 1073741824

abbrev pub is_too_long : List ℕ → Bool
is_too_long line = nat_lt line_most (length line)

-- the bytes of a line that is within the limit
abbrev pub within_limit : List ℕ → Option (List ℕ)
within_limit line = if is_too_long line then None else Some line

-- a line that gets no answer: within the limit, and of spaces, tabs and CR alone
abbrev pub is_space : ℕ → Bool
is_space b = ((b == 32) || (b == 9)) || (b == 13)

abbrev pub is_blank_line : List ℕ → Bool
is_blank_line line = not (is_too_long line) && list_all is_space line

-- what is kept of a line, and how many bytes of the script were read
pub record KeptLine : Type 0 where
  pub bytes : List ℕ
  pub is_too_long : Bool
  pub read : ℕ

-- of a line that is too long only the front
abbrev pub kept_of : List ℕ → ℕ → KeptLine
kept_of line read = record { bytes = take line_most line; is_too_long = is_too_long line; read = read }

-- What is answered to a byte, and what is kept then: a line feed ends the line, and any other byte is one
-- more of it. Where the script is too long or memory runs out, the line stays as it was.
abbrev pub TakesByte : ℕ → List ℕ → KeptLine → Result Bool ScriptFault → KeptLine → Type 0
TakesByte byte line old (Ok true) new = (byte ≡ 10) × (new ≡ kept_of line (old.read + 1))
TakesByte byte line old (Ok false) new = (byte ≢ 10) × (new ≡ kept_of (line ++ byte ∷ []) (old.read + 1))
TakesByte byte line old (Err fault.TooMuch) new = new ≡ old
TakesByte byte line old (Err fault.NoMemory) new = new ≡ old
TakesByte byte line old (Err other) new = ⊥

-- the writer failed, and some of the bytes, from the first on, stand after what was written before
abbrev pub WritesFront : Option (List ℕ) → Option (List ℕ) → List ℕ → ScriptFault → Type 0
WritesFront old new bytes e = (e ≡ fault.Write) × AppendsFront old new bytes

-- ---- for private clauses
-- a line feed is among the bytes
abbrev pub has_feed : List ℕ → Bool
has_feed bytes = list_any (λ b. b == 10) bytes

abbrev pub IsKept : List ℕ → Bool → List ℕ → Type 0
IsKept bytes flag line = (bytes ≡ take line_most line) × (flag ≡ is_too_long line)

-- one byte more is kept of whatever line these bytes are kept of
abbrev pub KeepsByte : {A E : Type 0} → ℕ → List ℕ → Bool → Result A E → List ℕ → Bool → Type 0
KeepsByte byte old old_flag result new new_flag =
    (line : List ℕ) → IsKept old old_flag line → OnOk result (IsKept new new_flag (line ++ byte ∷ []))

-- it is so of whatever line this is kept of
abbrev pub ForLine : KeptLine → (List ℕ → Type 0) → Type 0
ForLine kept P = (line : List ℕ) → kept ≡ kept_of line kept.read → P line
