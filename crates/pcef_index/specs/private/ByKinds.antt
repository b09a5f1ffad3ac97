-- Something for each kind of packets.
use Rattle.pcef_packet.specs.declared.header.Dir.{Dir}
use Rattle.pcef_packet.specs.declared.header.Dir.TheVariants.{Up, Down}
use Rattle.pcef_index.specs.declared.by_kind.ByClass.{ByClass}
use Rattle.pcef_index.specs.declared.by_kind.ByKind.{ByKind}
use Rattle.pcef_index.specs.declared.by_kind.ByVersion.{ByVersion}
use Rattle.pcef_index.specs.declared.kinds.Class.{Class}
use Rattle.pcef_index.specs.declared.kinds.Class.TheVariants.{Tcp, Udp, Other}
use Rattle.pcef_index.specs.declared.kinds.Kind.{Kind}
use Rattle.pcef_index.specs.declared.kinds.Version.{Version}
use Rattle.pcef_index.specs.declared.kinds.Version.TheVariants.{V4, V6}

abbrev pub in_class : {T : Type 0} → ByClass T → Class → T
in_class all Tcp = all.tcp
in_class all Udp = all.udp
in_class all Other = all.other

abbrev pub in_version : {T : Type 0} → ByVersion T → Version → ByClass T
in_version all V4 = all.narrow
in_version all V6 = all.wide

abbrev pub in_dir : {T : Type 0} → ByKind T → Dir → ByVersion T
in_dir all Up = all.uplink
in_dir all Down = all.downlink

-- that of a kind
abbrev pub of_kind : {T : Type 0} → ByKind T → Kind → T
of_kind all kind = in_class (in_version (in_dir all kind.dir) kind.version) kind.class
