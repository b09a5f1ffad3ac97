-- Sections of a pcapng file and their interfaces (draft-ietf-opsawg-pcapng, clauses 4.1 and 4.2).
use Rattle.std.specs.Prelude.{ℕ, ◌==◌, ◌&&◌, ◌||◌, nat_lt, Bool, List, [], ◌∷◌, ◌++◌, drop, length, Result, Ok, Err, if◌then◌else◌}
use Rattle.pcef_base.specs.Readings.{◌>>=◌, or_fault}
use Rattle.pcef_capture_file.specs.Blocks.{Framed}
use Rattle.pcef_capture_file.specs.Links.{link_of}
use Rattle.pcef_capture_file.specs.Numbers.{number_by}
use Rattle.pcef_capture_file.specs.Times.{clock_of}
use Rattle.pcef_capture_file.specs.declared.endianness.Endianness.{Endianness}
use Rattle.pcef_capture_file.specs.declared.endianness.Endianness.TheVariants.{Big}
use Rattle.pcef_capture_file.specs.declared.fault.CaptureFault.{CaptureFault}
use Rattle.pcef_capture_file.specs.declared.fault.CaptureFault.TheVariants as fault
use Rattle.pcef_capture_file.specs.declared.section.Interface.{Interface}
use Rattle.pcef_capture_file.specs.declared.section.Section.{Section}

-- the state of a section: the order of its numbers, and the interfaces that were described so far
pub record SectionState : Type 0 where
  pub endianness : Endianness
  pub interfaces : List Interface

abbrev pub standing : Section → SectionState
standing section = record { endianness = section.endianness; interfaces = section.interfaces.items }

-- before the first section header, which states the order
abbrev pub before_sections : SectionState
before_sections = record { endianness = Big; interfaces = [] }

-- The version stands in octets 4 to 7 of the body, two numbers. It is 1.0, and 1.2 means the same.
unfoldable pub is_section_version : Framed → Bool
is_section_version block =
    (number_by block.endianness block.body 4 2 == 1)
    && ((number_by block.endianness block.body 6 2 == 0) || (number_by block.endianness block.body 6 2 == 2))

-- a section header has 16 octets and options, and describes no interface
unfoldable pub section_in : Framed → Result SectionState CaptureFault
section_in block =
    if nat_lt (length block.body) 16 then Err fault.BlockLength
    else if is_section_version block then Ok (record { endianness = block.endianness; interfaces = [] })
    else Err fault.Version

-- An interface description has 8 octets and options: the link type is octets 0 and 1, the most octets that
-- are recorded of a frame are octets 4 to 7. Of its options those on times are read.
unfoldable pub interface_in : Framed → Result Interface CaptureFault
interface_in block =
    if nat_lt (length block.body) 8 then Err fault.BlockLength
    else or_fault fault.LinkType (link_of (number_by block.endianness block.body 0 2))
    >>= (λ link. Ok (record { link = link; snap_len = number_by block.endianness block.body 4 4; clock = clock_of block.endianness (drop 8 block.body) }))

-- as many interfaces as an obsolete packet block can name; a limit on memory (own choice)
abbrev pub most_interfaces : ℕ
most_interfaces = 65536

-- one interface more, where there is room for it
unfoldable pub noted : SectionState → Interface → Result SectionState CaptureFault
noted s interface =
    if nat_lt (length s.interfaces) most_interfaces
    then Ok (record { endianness = s.endianness; interfaces = s.interfaces ++ interface ∷ [] })
    else Err fault.TooManyInterfaces

unfoldable pub described_in : SectionState → Framed → Result SectionState CaptureFault
described_in s block = interface_in block >>= noted s

-- Behind a section header, of type 0x0A0D0D0A, another section stands, behind an interface description, of
-- type 1, one interface more; other blocks leave it as it is.
unfoldable pub section_after : SectionState → Framed → Result SectionState CaptureFault
section_after s block =
    if block.kind == 168627466 then section_in block
    else if block.kind == 1 then described_in s block
    else Ok s
