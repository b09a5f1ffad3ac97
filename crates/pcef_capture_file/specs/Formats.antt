-- Where a stream stands, seen by its fields: for private clauses.
use Rattle.pcef_capture_file.specs.Places.{Place, in_blocks, in_records}
use Rattle.pcef_capture_file.specs.Sections.{standing}
use Rattle.pcef_capture_file.specs.declared.stream.Format.{Format}
use Rattle.pcef_capture_file.specs.declared.stream.Format.TheVariants.{Classic, PcapNg}

abbrev pub first_place : Format → Place
first_place (Classic header) = in_records header
first_place (PcapNg section) = in_blocks (standing section)
