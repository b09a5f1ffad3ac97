-- Lines that are written where each of them reads as what it was made of, and else not.
use Rattle.std.specs.Prelude.{ℕ, ◌≡◌, ◌++◌, All, Bool, true, false, List, Option, Some, None, String, Vec, map, string_bytes}
use Rattle.std.specs.declared.alloc.Global.{Global}
use Rattle.pcef_model.specs.declared.command.Command.{Command}
use Rattle.pcef_renewal_lines.specs.declared.lines.LinesRefusal.{LinesRefusal}
use Rattle.pcef_renewal_lines.specs.declared.lines.LinesRefusal.TheVariants.{Terminated, Unwritable, NoMemory}
use Rattle.pcef_renewal_lines.specs.Commands.{ReadsBack, line_text}
use Rattle.pcef_renewal_lines.specs.Lines.{terminated_text, unwritable_text}

-- one line, where `Readable` holds of it
abbrev pub IsLine : Option (String Global) → Type 0 → List ℕ → Type 0
IsLine None Readable text = ¬ Readable
IsLine (Some line) Readable text = Readable × (string_bytes line ≡ text)

-- all lines
abbrev pub AreLines : Option (Vec (String Global) Global) → Type 0 → List (List ℕ) → Type 0
AreLines None Readable texts = ¬ Readable
AreLines (Some lines) Readable texts = Readable × (map string_bytes lines.items ≡ texts)

-- the lines of commands, behind those that are there
abbrev pub AreAdded : Bool → List Command → List (String Global) → List (String Global) → Type 0
AreAdded false list old new = ¬ (All ReadsBack list)
AreAdded true list old new = All ReadsBack list × (map string_bytes new ≡ map string_bytes old ++ map line_text list)

-- the text of a refusal
abbrev pub IsWhyNot : LinesRefusal → List ℕ → Type 0
IsWhyNot Terminated text = text ≡ terminated_text
IsWhyNot Unwritable text = text ≡ unwritable_text
IsWhyNot NoMemory text = ⊥
