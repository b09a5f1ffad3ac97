-- The names of rules that C gets (own choice).
use Rattle.std.specs.Prelude.{ℕ, ◌≡◌, List, Result, Ok, Err}
use Rattle.pcef_handle.specs.Naming.{NamesHeld, NamesIn}
use Rattle.pcef_handle.specs.declared.held.Handle.{Handle}
use Rattle.pcef_handle.specs.declared.naming.NameRefusal.{NameRefusal}
use Rattle.pcef_handle.specs.declared.naming.NameRefusal.TheVariants.{NoOwner, NoRule}
use Rattle.pcef_handle.specs.declared.worker.WorkerHandle.{WorkerHandle}

-- the length of a name, or one of the highest numbers
abbrev pub name_number : Result ℕ NameRefusal → ℕ
name_number (Ok length) = length
name_number (Err NoOwner) = 18446744073709551615
name_number (Err NoRule) = 18446744073709551607

-- the name of the rule at a place of the newest generation is written; the handle stays
abbrev pub RuleReturns : Handle → ℕ → List ℕ → Handle → List ℕ → ℕ → Type 0
RuleReturns old place before new after number =
    (new ≡ old) × (r : Result ℕ NameRefusal) × NamesIn old.session place before r after × (number ≡ name_number r)

-- the same of the generation that a worker holds
abbrev pub HeldRuleReturns : WorkerHandle → ℕ → List ℕ → WorkerHandle → List ℕ → ℕ → Type 0
HeldRuleReturns old place before new after number =
    (new ≡ old) × (r : Result ℕ NameRefusal) × NamesHeld old.worker place before r after × (number ≡ name_number r)
