-- The level of a monitoring key, as a line states it (own choice).
use Rattle.std.specs.Prelude.{List, ℕ, Option, Some, None, Result, Ok, codes, if◌then◌else◌}
use Rattle.std.specs.Str.{bytes_eq}
use Rattle.serde_json.specs.Data.{Data}
use Rattle.serde_json.specs.Find.{get}
use Rattle.pcef_model.specs.declared.level.Level.{Level}
use Rattle.pcef_model.specs.declared.level.Level.TheVariants.{Rule, Session}
use Rattle.pcef_line.specs.declared.fault.LineFault.{LineFault}
use Rattle.pcef_line.specs.declared.fault.LineFault.TheVariants.{BadField}
use Rattle.pcef_line.specs.declared.field.Field.TheVariants as field
use Rattle.pcef_line.specs.LineWords.{field_text}
use Rattle.pcef_line.specs.LineValues.{text_at}
use Rattle.pcef_base.specs.Readings.{◌>>=◌, or_fault}

-- TS 29.212, clause 5.3.61, Usage-Monitoring-Level
abbrev pub level_of : List ℕ → Option Level
level_of text =
    if bytes_eq text (codes "rule") then Some Rule
    else if bytes_eq text (codes "session") then Some Session
    else None

unfoldable pub level_word_at : Data → Result Level LineFault
level_word_at line = do
  text ← text_at field.Level field.Level line
  or_fault (BadField field.Level) (level_of text)

-- a line without the field means rule level
abbrev pub level_or_rule : Option Data → Data → Result Level LineFault
level_or_rule None line = Ok Rule
level_or_rule (Some value) line = level_word_at line

unfoldable pub level_at : Data → Result Level LineFault
level_at line = level_or_rule (get (field_text field.Level) line) line
