-- Where the slots of keys stand (own choice).
use Rattle.std.specs.Prelude.{ℕ, ◌≡◌, ◌++◌, ◌∷◌, List}
use Rattle.pcef_model.specs.declared.command.Command.{Command}
use Rattle.pcef_model.specs.declared.entry.Entry.TheVariants as entry
use Rattle.pcef_model.specs.Entries.{Journal}
use Rattle.pcef_model.specs.Journals.{slots}
use Rattle.pcef_model.specs.Setting.{Setting}

-- a command leaves the slots as they are, or adds some behind them
abbrev pub SlotsStayInPlace : Type 0
SlotsStayInPlace = (p : Setting) (j : Journal) (c : Command) → (more : List (List ℕ)) × (slots p (entry.Command c ∷ j) ≡ slots p j ++ more)
