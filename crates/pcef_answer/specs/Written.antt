-- Texts that are written piece by piece: for private clauses.
use Rattle.std.specs.Prelude.{ℕ, ◌≡◌, ◌++◌, List, String, codes, string_bytes}
use Rattle.std.specs.declared.alloc.Global.{Global}
use Rattle.json.specs.Print.{escape}
use Rattle.serde_json.specs.Written.{compact_text}
use Rattle.pcef_model.specs.declared.verdict.Verdict.{Verdict}
use Rattle.pcef_answer.specs.StepAnswers.{verdict_data}

-- a text goes on with these bytes
abbrev pub GoesOn : String Global → String Global → List ℕ → Type 0
GoesOn old new bytes = string_bytes new ≡ string_bytes old ++ bytes

-- the verdict on a row, in this generation
abbrev pub verdict_text : ℕ → Verdict → List ℕ
verdict_text generation verdict = compact_text (verdict_data generation verdict)

-- the name of a fault, as the last member
abbrev pub name_ending : List ℕ → List ℕ
name_ending name = (codes ",\"name\":\"" ++ (escape name ++ codes "\"")) ++ codes "}"
