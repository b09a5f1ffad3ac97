-- How many indexes a shelf keeps (own choice).
use Rattle.std.specs.Prelude.{ℕ}

abbrev pub most_shelved : ℕ
most_shelved = 16
