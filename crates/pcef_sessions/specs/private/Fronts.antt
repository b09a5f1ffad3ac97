-- What octets begin with.
use Rattle.std.specs.Prelude.{ℕ, List}
use Rattle.pcef_sessions.specs.declared.front.Front.{Front}
use Rattle.pcef_sessions.specs.declared.front.Front.TheVariants.{Whole, Part, Bad}
use Rattle.pcef_sessions.specs.Framed.{BeginsWith, HasBadLength, IsUnfinished}

abbrev pub IsFront : List ℕ → Front → Type 0
IsFront octets (Whole frame others) = BeginsWith octets frame.now others.now
IsFront octets Part = IsUnfinished octets
IsFront octets Bad = HasBadLength octets
