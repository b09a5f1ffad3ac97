-- What a call does to what lies at a handle, and the number that it returns (own choice).
use Rattle.std.specs.Prelude.{ℕ, ◌≡◌, List, None, Result, is_some}
use Rattle.pcef_handle.specs.Answering.{AnswersHandle}
use Rattle.pcef_handle.specs.Opening.{OpensHandle}
use Rattle.pcef_handle.specs.Renewing.{RenewsHandle}
use Rattle.pcef_handle.specs.Reporting.{ForgetsHandle, ReportsHandle}
use Rattle.pcef_handle.specs.declared.held.Handle.{Handle}
use Rattle.pcef_handle.specs.declared.line.CallRefusal.{CallRefusal}
use Rattle.pcef_handle.specs.declared.opening.OpenRefusal.{OpenRefusal}
use Rattle.pcef_c.specs.Numbers.{length_number, flag_number, open_number}

-- the session is what the text says, or there is a reason why it isn't opened
abbrev pub OpenReturns : Handle → List ℕ → Handle → ℕ → Type 0
OpenReturns old text new number = (r : Result (Unit {0}) OpenRefusal) × OpensHandle text old r new × (number ≡ open_number r)

-- the line is answered as in a script, or there is a reason why it isn't
abbrev pub LineReturns : Handle → List ℕ → List ℕ → Handle → List ℕ → ℕ → Type 0
LineReturns old line before new after number =
    (r : Result ℕ CallRefusal) × AnswersHandle old line before r new after × (new.next_number ≡ old.next_number) × (number ≡ length_number r)

-- the reports from a number on are written, or there is a reason why they aren't; the handle stays
abbrev pub ReportsReturn : Handle → ℕ → List ℕ → Handle → List ℕ → ℕ → Type 0
ReportsReturn old first before new after number =
    (new ≡ old) × (r : Result ℕ CallRefusal) × ReportsHandle old first before r after × (number ≡ length_number r)

-- the session is renewed, or there is a reason why it isn't, in an answer or by a number
abbrev pub RenewReturns : Handle → List ℕ → Handle → List ℕ → ℕ → Type 0
RenewReturns old before new after number = (r : Result ℕ CallRefusal) × RenewsHandle old before r new after × (number ≡ length_number r)

-- the reports so far are forgotten, or there is no session
abbrev pub ForgetReturns : Handle → Handle → ℕ → Type 0
ForgetReturns old new number =
    (r : Result ℕ CallRefusal) × ForgetsHandle old r new × (new.next_number ≡ old.next_number) × (number ≡ length_number r)

-- there is no session any more, and the number says whether there was one
abbrev pub Closes : Handle → Handle → ℕ → Type 0
Closes old new number = (new.session ≡ None) × (new.next_number ≡ old.next_number) × (number ≡ flag_number (is_some old.session))

-- the next session gets this number; the number that it would have had is returned
abbrev pub NumberReturns : Handle → ℕ → Handle → ℕ → Type 0
NumberReturns old number new before = (new.session ≡ old.session) × (new.next_number ≡ number) × (before ≡ old.next_number)
