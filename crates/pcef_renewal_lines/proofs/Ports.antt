-- Ports behind a place.
use Rattle.std.proofs.Common.{◌≡◌, List, [], ◌∷◌, ◌++◌, Bool, false, codes, length, refl}
use Rattle.std.specs.Prelude.{◌==◌}
use Rattle.std.specs.List.{join_by}
use Rattle.pcef_filter.specs.declared.filter.PortRange.{PortRange}
use Rattle.pcef_renewal_lines.specs.Filters.{ports_text, range_text}

pub some_ports : (ports : List PortRange) (empty : Bool) → empty ≡ (length ports == 0) → empty ≡ false → ports_text ports ≡ codes " " ++ join_by range_text (codes ",") ports
some_ports [] empty is not = absurd cc
some_ports (range ∷ ranges) empty is not = refl
