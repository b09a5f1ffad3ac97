-- The numbers that C gets of what a session has counted, and of what is left of its limits (own choice).
use Rattle.std.specs.Prelude.{ℕ, ◌≡◌, Option, Some, None, Result, Ok, Err}
use Rattle.pcef_handle.specs.Counts.{UsageIn, commands_left_in, rows_left_in, workers_left_in}
use Rattle.pcef_handle.specs.declared.counts.KeyUsage.{KeyUsage}
use Rattle.pcef_handle.specs.declared.counts.UsageRefusal.{UsageRefusal}
use Rattle.pcef_handle.specs.declared.counts.UsageRefusal.TheVariants.{NoKey, NoSession}
use Rattle.pcef_handle.specs.declared.held.Handle.{Handle}

abbrev pub left_number : Option ℕ → ℕ
left_number (Some left) = left
left_number None = 18446744073709551615

abbrev pub usage_refusal : UsageRefusal → ℕ
usage_refusal NoSession = 18446744073709551615
usage_refusal NoKey = 18446744073709551608

abbrev pub reported_number : Result KeyUsage UsageRefusal → ℕ
reported_number (Ok usage) = usage.reported
reported_number (Err refusal) = usage_refusal refusal

abbrev pub unreported_number : Result KeyUsage UsageRefusal → ℕ
unreported_number (Ok usage) = usage.unreported
unreported_number (Err refusal) = usage_refusal refusal

-- each leaves the handle as it was
abbrev pub RowsLeftReturns : Handle → Handle → ℕ → Type 0
RowsLeftReturns old new number = (new ≡ old) × (number ≡ left_number (rows_left_in old.session))

abbrev pub CommandsLeftReturns : Handle → Handle → ℕ → Type 0
CommandsLeftReturns old new number = (new ≡ old) × (number ≡ left_number (commands_left_in old.session))

abbrev pub WorkersLeftReturns : Handle → Handle → ℕ → Type 0
WorkersLeftReturns old new number = (new ≡ old) × (number ≡ left_number (workers_left_in old.session))

abbrev pub ReportedReturns : Handle → ℕ → Handle → ℕ → Type 0
ReportedReturns old slot new number = (new ≡ old) × (r : Result KeyUsage UsageRefusal) × UsageIn old.session slot r × (number ≡ reported_number r)

abbrev pub UnreportedReturns : Handle → ℕ → Handle → ℕ → Type 0
UnreportedReturns old slot new number = (new ≡ old) × (r : Result KeyUsage UsageRefusal) × UsageIn old.session slot r × (number ≡ unreported_number r)
