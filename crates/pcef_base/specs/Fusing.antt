-- A writer that fails for good (own choice).
use Rattle.std.specs.Prelude.{Bool}
use Rattle.pcef_base.specs.declared.fused.Fused.{Fused}

-- the writer behind it
abbrev pub behind : {W : Type 0} → Fused W → W
behind w = w.writer

-- a write or a flush of it has failed
abbrev pub has_failed : {W : Type 0} → Fused W → Bool
has_failed w = w.has_failed
