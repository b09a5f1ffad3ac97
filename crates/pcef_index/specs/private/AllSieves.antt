-- The sieves of all kinds of packets.
use Rattle.std.specs.Prelude.{◌≤◌, List, Option, length}
use Rattle.std.specs.Global.{Box}
use Rattle.pcef_packet.specs.declared.header.Addr.{Addr}
use Rattle.pcef_packet.specs.declared.header.Dir.{Dir}
use Rattle.pcef_index.specs.declared.by_kind.ByClass.{ByClass}
use Rattle.pcef_index.specs.declared.by_kind.ByKind.{ByKind}
use Rattle.pcef_index.specs.declared.by_kind.ByVersion.{ByVersion}
use Rattle.pcef_index.specs.declared.kinds.Class.{Class}
use Rattle.pcef_index.specs.declared.kinds.Version.{Version}
use Rattle.pcef_index.specs.declared.lines.Line.{Line}
use Rattle.pcef_index.specs.declared.sieve.Sieve.{Sieve}
use Rattle.pcef_table.specs.declared.entry.Source.{Source}
use Rattle.pcef_table.specs.Tables.{most_entries}
use Rattle.pcef_index.specs.private.ByKinds.{in_class, in_dir, in_version}
use Rattle.pcef_index.specs.private.Lines.{KeepFor, lines_from}
use Rattle.pcef_index.specs.private.Sieves.{Serves}

-- the sieves serve the packets of each class
abbrev pub ServeClasses : List Line → Dir → Version → ByClass (Option (Box Sieve)) → Type 0
ServeClasses lines dir version s = (class : Class) → Serves lines (record { dir = dir; version = version; class = class }) (in_class s class)

abbrev pub ServeVersions : List Line → Dir → ByVersion (Option (Box Sieve)) → Type 0
ServeVersions lines dir s = (version : Version) → ServeClasses lines dir version (in_version s version)

abbrev pub AreServed : List Line → ByKind (Option (Box Sieve)) → Type 0
AreServed lines s = (dir : Dir) → ServeVersions lines dir (in_dir s dir)

-- what a base shows: its rules, the lines of these, and where they are sieved
pub record BaseValue : Type 0 where
  pub sources : List Source
  pub lines : List Line
  pub sieves : ByKind (Option (Box Sieve))

-- the lines are those of some rules that may fit the packets that are looked up, and there is a sieve for each kind
pub record AreSievedOf (sources : List Source) (own : Option Addr) (lines : List Line) (sieves : ByKind (Option (Box Sieve))) : Type 0 where
  pub few : length sources ≤ most_entries
  pub kept : KeepFor own (lines_from 0 sources) lines
  pub served : AreServed lines sieves
