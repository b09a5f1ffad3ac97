-- Grants of monitoring keys, the states of keys, and the generation, by lines and answers (own choice).
use Rattle.std.specs.Prelude.{ℕ, Bool, false, List, [], ◌∷◌, Option, Some, None, codes, max, option_and_then, string_bytes, if◌then◌else◌}
use Rattle.std.specs.Str.{bytes_eq}
use Rattle.serde_json.specs.Data.{Data, Items, item, no_items}
use Rattle.serde_json.specs.Find.{as_bool, get}
use Rattle.pcef_page.specs.declared.figures.Grant.{Grant}
use Rattle.pcef_page.specs.declared.figures.KeyState.{KeyState}
use Rattle.pcef_page.specs.Usages.{RefusalFigure, items_in, member_number, or_empty, refusal_shown, text_in}

-- ---- members of objects
abbrev pub or_zero : Option ℕ → ℕ
or_zero None = 0
or_zero (Some n) = n

abbrev pub or_false : Option Bool → Bool
or_false None = false
or_false (Some flag) = flag

abbrev pub flag_in : List ℕ → Data → Bool
flag_in key d = or_false (option_and_then as_bool (get key d))

abbrev pub is_this_text : List ℕ → Option (List ℕ) → Bool
is_this_text word None = false
is_this_text word (Some text) = bytes_eq text word

-- the line asks for this
abbrev pub asks : List ℕ → Data → Bool
asks word line = is_this_text word (text_in (codes "do") line)

-- ---- grants
-- the line of this number gave a key a grant
pub record GrantFigure : Type 0 where
  pub line : ℕ
  pub key : List ℕ
  pub octets : ℕ

abbrev pub grant_by : ℕ → Option (List ℕ) → Option ℕ → List GrantFigure
grant_by number None octets = []
grant_by number (Some key) None = []
grant_by number (Some key) (Some octets) = record { line = number; key = key; octets = octets } ∷ []

-- by a `monitor` line
abbrev pub grant_asked : ℕ → Data → List GrantFigure
grant_asked number line =
    if asks (codes "monitor") line then grant_by number (text_in (codes "key") line) (member_number (codes "grant") line) else []

-- that was done
abbrev pub grants_done : ℕ → Option RefusalFigure → Option Data → List GrantFigure
grants_done number (Some refused) line = []
grants_done number None None = []
grants_done number None (Some line) = grant_asked number line

abbrev pub grants_in : ℕ → Option Data → Data → List GrantFigure
grants_in number line answer = grants_done number (refusal_shown number answer) line

abbrev pub grant_of : Grant → GrantFigure
grant_of g = record { line = g.line; key = string_bytes g.key; octets = g.octets }

-- ---- keys
-- the state of a key
pub record KeyFigure : Type 0 where
  pub key : List ℕ
  pub is_on : Bool
  pub reported : ℕ
  pub unreported : ℕ

abbrev pub key_in : Data → KeyFigure
key_in d = record {
  key = or_empty (text_in (codes "key") d);
  is_on = flag_in (codes "on") d;
  reported = or_zero (member_number (codes "reported") d);
  unreported = or_zero (member_number (codes "unreported") d);
}

abbrev pub keys_in_all : Items → List KeyFigure
keys_in_all no_items = []
keys_in_all (item d ds) = key_in d ∷ keys_in_all ds

-- an answer to `show` has a list of them, which replaces the one before
abbrev pub keys_shown : List KeyFigure → Option Data → Data → List KeyFigure
keys_shown before None answer = before
keys_shown before (Some list) answer = keys_in_all (items_in (codes "keys") answer)

-- where the line was done
abbrev pub keys_done : List KeyFigure → Option RefusalFigure → Data → List KeyFigure
keys_done before (Some refused) answer = before
keys_done before None answer = keys_shown before (get (codes "keys") answer) answer

abbrev pub keys_behind : List KeyFigure → ℕ → Data → List KeyFigure
keys_behind before number answer = keys_done before (refusal_shown number answer) answer

abbrev pub key_of : KeyState → KeyFigure
key_of k = record { key = string_bytes k.key; is_on = k.is_on; reported = k.reported; unreported = k.unreported }

-- ---- generations
-- the newest of those in the answers to lines that were done
abbrev pub generation_done : ℕ → Option RefusalFigure → Data → ℕ
generation_done before (Some refused) answer = before
generation_done before None answer = max before (or_zero (member_number (codes "generation") answer))

abbrev pub generation_behind : ℕ → ℕ → Data → ℕ
generation_behind before number answer = generation_done before (refusal_shown number answer) answer
