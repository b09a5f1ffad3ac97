-- Laws of the definitions.
use Rattle.std.specs.Prelude.{◌≡◌, ℕ, List, Result, take}
use Rattle.pcef_packet.specs.HeaderOf.{header_of}
use Rattle.pcef_packet.specs.declared.header.Dir.{Dir}
use Rattle.pcef_packet.specs.declared.header.Header.{Header}
use Rattle.pcef_front.specs.Fronts.{IsSettledBy}
use Rattle.pcef_front.specs.declared.fault.FrontFault.{FrontFault}

-- a front has one answer, and no other
abbrev pub OneAnswer : Type 0
OneAnswer =
    (dir : Dir) (front : List ℕ) (whole : ℕ) (answer other : Result Header FrontFault)
    → IsSettledBy (header_of dir) (take whole front) whole answer
    → IsSettledBy (header_of dir) (take whole front) whole other
    → answer ≡ other
