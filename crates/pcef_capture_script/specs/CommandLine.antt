-- The options of the program. How words are matched with options is clap's (`matches_of`, `takes`), and so is which
-- words are right; what the options mean is own choice.
use Rattle.std.specs.Prelude.{◌≡◌, pos, true, false, List, [], ◌∷◌, Option, Some, None, option_map, Result, Ok, Err, codes}
use Rattle.std.specs.Str.Parse.{digits_value, without_leading_plus}
use Rattle.clap.specs.Words.{App, Rule, Text, first_of, matches_of, new_app, new_rule, one_of, with_rule}
use Rattle.clap.specs.declared.builder.action.ArgAction.TheVariants.{Set, SetTrue}
use Rattle.clap.specs.declared.builder.value_parser.ValueParser.TheVariants.{Signed}
use Rattle.pcef_packet.specs.AddressTexts.{WritesAddress}
use Rattle.pcef_packet.specs.declared.header.Addr.{Addr}
use Rattle.pcef_capture_script.specs.declared.options.Packets.{Packets}
use Rattle.pcef_capture_script.specs.declared.options.Packets.TheVariants as packets
use Rattle.pcef_capture_script.specs.declared.options.Request.{Request}
use Rattle.pcef_capture_script.specs.declared.options.Request.TheVariants as request
use Rattle.pcef_capture_script.specs.declared.options.Options.{Options}
use Rattle.pcef_capture_script.specs.declared.options.Users.{Users}
use Rattle.pcef_capture_script.specs.declared.options.Users.TheVariants as users

-- ---- the options: --ue ADDRESS, --sessions MAP, --workers N from 1 to 16, --batch N from 1 to 32, --pad, --gtp,
-- --teid N of 32 bits, --times FILE; and FILE. clap adds --help, and --version where there is one.
abbrev pub ue_rule : Rule
ue_rule = record (new_rule (codes "ue")) { long = Some (codes "ue"); value_names = 1; action = Some Set }

abbrev pub sessions_rule : Rule
sessions_rule = record (new_rule (codes "sessions")) { long = Some (codes "sessions"); value_names = 1; action = Some Set }

abbrev pub workers_rule : Rule
workers_rule = record (new_rule (codes "workers")) {
  long = Some (codes "workers");
  value_names = 1;
  action = Some Set;
  parser = Some (Signed (pos 1) (pos 16));
  defaults = codes "1" ∷ [];
}

abbrev pub batch_rule : Rule
batch_rule = record (new_rule (codes "batch")) {
  long = Some (codes "batch");
  value_names = 1;
  action = Some Set;
  parser = Some (Signed (pos 1) (pos 32));
  defaults = codes "32" ∷ [];
}

abbrev pub pad_rule : Rule
pad_rule = record (new_rule (codes "pad")) { long = Some (codes "pad"); action = Some SetTrue }

abbrev pub gtp_rule : Rule
gtp_rule = record (new_rule (codes "gtp")) { long = Some (codes "gtp"); action = Some SetTrue }

abbrev pub teid_rule : Rule
teid_rule = record (new_rule (codes "teid")) {
  long = Some (codes "teid");
  value_names = 1;
  action = Some Set;
  parser = Some (Signed (pos 0) (pos 4294967295));
}

abbrev pub times_rule : Rule
times_rule = record (new_rule (codes "times")) { long = Some (codes "times"); value_names = 1; action = Some Set }

abbrev pub file_rule : Rule
file_rule = record (new_rule (codes "file")) { value_names = 1; required = true; action = Some Set }

-- the command line, rule by rule
abbrev pub with_version : App → App
with_version a = record a { top = record a.top { has_version = true } }

abbrev pub line_to_ue : App
line_to_ue = with_rule (with_version (new_app (codes "pcef capture"))) ue_rule

abbrev pub line_to_sessions : App
line_to_sessions = with_rule line_to_ue sessions_rule

abbrev pub line_to_workers : App
line_to_workers = with_rule line_to_sessions workers_rule

abbrev pub line_to_batch : App
line_to_batch = with_rule line_to_workers batch_rule

abbrev pub line_to_pad : App
line_to_pad = with_rule line_to_batch pad_rule

abbrev pub line_to_gtp : App
line_to_gtp = with_rule line_to_pad gtp_rule

abbrev pub line_to_teid : App
line_to_teid = with_rule line_to_gtp teid_rule

abbrev pub line_to_times : App
line_to_times = with_rule line_to_teid times_rule

abbrev pub command_line : App
command_line = with_rule line_to_times file_rule

-- ---- what right words ask for
-- the value of an option in the words
abbrev pub given : List Text → Text → Option Text
given words name = one_of name (matches_of command_line words)

-- the same, as it is written
abbrev pub as_written : List Text → Text → Option Text
as_written words name = first_of name (matches_of command_line words)

-- Whose packets are asked for, by the texts of --ue and --sessions: one of them is wanted. An address is written as a
-- profile writes it.
abbrev pub AreUsers : Option Text → Option Text → Result Users Request → Type 0
AreUsers (Some text) None (Ok (users.One address)) = WritesAddress text address
AreUsers (Some text) None (Err (request.NoAddress told)) = (told.now ≡ text) × ((address : Addr) → ¬ WritesAddress text address)
AreUsers None (Some text) (Ok (users.Map map)) = map.now ≡ text
AreUsers None None (Err request.NoUsers) = Unit {0}
AreUsers (Some text) (Some map) (Err request.TwoUsers) = Unit {0}
AreUsers ue map other = ⊥

-- which packets are asked for: with a TEID those of its tunnel, and else by --gtp
pub record ArePackets (words : List Text) (p : Packets) : Type 0 where
  pub teid : (t : Text) → as_written words (codes "teid") ≡ Some t → (text : Text) × (given words (codes "teid") ≡ Some text) × (p ≡ packets.OfTunnel (digits_value 10 (without_leading_plus text)))
  pub gtp : as_written words (codes "teid") ≡ None → given words (codes "gtp") ≡ Some (codes "true") → p ≡ packets.OfTunnels
  pub gtp_not : as_written words (codes "teid") ≡ None → given words (codes "gtp") ≡ Some (codes "false") → p ≡ packets.OfFrames

-- the numbers of workers and of packets in a batch are those that are written; packets are padded where
-- that is asked for; the files are those that are named
pub record AsksCapture (words : List Text) (o : Options) : Type 0 where
  pub users : AreUsers (as_written words (codes "ue")) (as_written words (codes "sessions")) (Ok o.users)
  pub packets : ArePackets words o.packets
  pub workers_text : Text
  pub workers_given : given words (codes "workers") ≡ Some workers_text
  pub workers : o.workers ≡ digits_value 10 (without_leading_plus workers_text)
  pub batch_text : Text
  pub batch_given : given words (codes "batch") ≡ Some batch_text
  pub batch : o.batch ≡ digits_value 10 (without_leading_plus batch_text)
  pub pads : given words (codes "pad") ≡ Some (codes "true") → o.pads ≡ true
  pub pads_not : given words (codes "pad") ≡ Some (codes "false") → o.pads ≡ false
  pub times : as_written words (codes "times") ≡ option_map (λ s. s.now) o.times
  pub file : as_written words (codes "file") ≡ Some o.file.now

-- the options, or why the words name no session
abbrev pub IsRequest : List Text → Request → Type 0
IsRequest words (request.Options o) = AsksCapture words o
IsRequest words other = AreUsers (as_written words (codes "ue")) (as_written words (codes "sessions")) (Err other)
