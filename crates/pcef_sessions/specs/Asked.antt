-- What a line asks of the sessions: to open one, to renew one, to show its lines, to end one, or none of these (own choice; JSON: RFC 8259).
use Rattle.std.specs.Prelude.{ℕ, ◌&&◌, ◌||◌, List, codes, Bool, true, false, Option, Some, None, option_and_then, if◌then◌else◌}
use Rattle.std.specs.Str.{bytes_eq, is_utf8}
use Rattle.serde_json.specs.Data.{Data, Members, no_members, member}
use Rattle.serde_json.specs.Find.{get, as_str, as_object}
use Rattle.serde_json.specs.Read.{read}
use Rattle.pcef_packet.specs.declared.header.Addr.{Addr}
use Rattle.pcef_packet.specs.AddressTexts.{address_of}
use Rattle.pcef_base.specs.Readings.{if_there}
use Rattle.pcef_script.specs.ScriptLines.{within_limit}
use Rattle.pcef_sessions.specs.declared.asking.Asking.{Asking}
use Rattle.pcef_sessions.specs.declared.asking.Asking.TheVariants.{Open, Renew, Lines, End, Fault, Script}
use Rattle.pcef_sessions.specs.declared.asking.AskingFault.TheVariants.{UnknownField, BadUe}

-- the fields that a word may have: `open` has one beside `do`, the others have none
abbrev pub is_open_field : List ℕ → Bool
is_open_field key = bytes_eq key (codes "do") || bytes_eq key (codes "ue")

abbrev pub is_do_field : List ℕ → Bool
is_do_field key = bytes_eq key (codes "do")

abbrev pub each_key : (List ℕ → Bool) → Members → Bool
each_key test no_members = true
each_key test (member key d ms) = test key && each_key test ms

abbrev pub has_only_keys : (List ℕ → Bool) → Data → Bool
has_only_keys test d = if_there (each_key test) (as_object d)

-- `ue` may be absent, and is else the text of an address
abbrev pub opens_at : Option Addr → Asking
opens_at None = Fault BadUe
opens_at (Some ue) = Open (Some ue)

unfoldable pub open_with : Option Data → Asking
open_with None = Open None
open_with (Some d) = opens_at (option_and_then address_of (as_str d))

unfoldable pub open_at : Data → Asking
open_at d = if has_only_keys is_open_field d then open_with (get (codes "ue") d) else Fault UnknownField

unfoldable pub alone_at : Asking → Data → Asking
alone_at asking d = if has_only_keys is_do_field d then asking else Fault UnknownField

-- by the word of the line
abbrev pub by_word : Option (List ℕ) → Data → Asking
by_word None d = Script
by_word (Some word) d =
    if bytes_eq word (codes "open") then open_at d
    else if bytes_eq word (codes "renew") then alone_at Renew d
    else if bytes_eq word (codes "lines") then alone_at Lines d
    else if bytes_eq word (codes "end") then alone_at End d
    else Script

unfoldable pub asked_at : Data → Asking
asked_at d = by_word (option_and_then as_str (get (codes "do") d)) d

-- what is no JSON, no UTF-8 or too long is left to the script, which has its faults
abbrev pub asked_read : Option Data → Asking
asked_read None = Script
asked_read (Some d) = asked_at d

abbrev pub asked_text : List ℕ → Asking
asked_text text = asked_read (read text)

abbrev pub if_utf8 : Bool → List ℕ → Asking
if_utf8 false line = Script
if_utf8 true line = asked_text line

abbrev pub asked_within : Option (List ℕ) → Asking
asked_within None = Script
asked_within (Some line) = if_utf8 (is_utf8 line) line

abbrev pub asked_of : List ℕ → Asking
asked_of line = asked_within (within_limit line)
