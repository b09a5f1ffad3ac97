-- The bearers that C gets (own choice).
use Rattle.std.specs.Prelude.{ℕ, ◌≡◌, Result, Ok, Err}
use Rattle.pcef_handle.specs.BearerStates.{bearer_in}
use Rattle.pcef_handle.specs.declared.bearers.BearerRefusal.{BearerRefusal}
use Rattle.pcef_handle.specs.declared.bearers.BearerRefusal.TheVariants.{NoBearer, NoSession}
use Rattle.pcef_handle.specs.declared.bearers.BearerState.{BearerState}
use Rattle.pcef_handle.specs.declared.held.Handle.{Handle}
use Rattle.pcef_c.specs.Numbers.{flag_number}
use Rattle.pcef_c.specs.declared.bearers.CBearer.{CBearer}

abbrev pub c_bearer_of : BearerState → CBearer
c_bearer_of b = record {
  up = b.guaranteed.up;
  down = b.guaranteed.down;
  qci = b.qos.qci.0;
  priority_level = b.qos.arp.level;
  preemption_capability = flag_number b.qos.arp.capability;
  preemption_vulnerability = flag_number b.qos.arp.vulnerability;
  rules = b.rules;
}

abbrev pub bearer_number : BearerRefusal → ℕ
bearer_number NoSession = 72
bearer_number NoBearer = 73

-- what the bearer has is written; or nothing is, and the number says why
abbrev pub Writes : Result BearerState BearerRefusal → CBearer → CBearer → ℕ → Type 0
Writes (Ok b) before after number = (after ≡ c_bearer_of b) × (number ≡ 0)
Writes (Err refusal) before after number = (after ≡ before) × (number ≡ bearer_number refusal)

-- the handle stays as it was
abbrev pub BearerReturns : Handle → ℕ → CBearer → Handle → CBearer → ℕ → Type 0
BearerReturns old id before new after number = (new ≡ old) × Writes (bearer_in old.session id) before after number
