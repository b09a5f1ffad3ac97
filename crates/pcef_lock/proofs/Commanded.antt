-- What a command answers.
use Rattle.std.proofs.Common.{◌≡◌, List, ◌++◌, sym, Err, None}
use Rattle.std.specs.Prelude.{Result}
use mathlib.Core.List.{IsPrefix}
use Rattle.pcef_table.specs.Tables.{TableValue}
use Rattle.pcef_model.specs.declared.answer.Refusal.{Refusal}
use Rattle.pcef_model.specs.declared.command.Command.{Command}
use Rattle.pcef_model.specs.declared.answer.Accepted.{Accepted}
use Rattle.pcef_model.specs.Outcomes.{CommandStep, CommandStepWithin, IsRefused, command_outcome, command_outcome_within}
use Rattle.pcef_model.specs.Entries.{Journal}
use Rattle.pcef_model.specs.Setting.{Setting}
use Rattle.pcef_session.specs.SessionModel.{SessionModel}
use Rattle.pcef_session.proofs.CommandAgrees.{does_refused}

-- it is refused
pub does_not : (p : Setting) (s t : SessionModel) (now : Journal) (c : Command) (r : Refusal) → s.setting ≡ p → IsRefused s.setting s.journal c r → t.journal ≡ s.journal → s.journal ≡ now → CommandStep p c now (Err r) t.journal
does_not p s t now c r setting refused journal now_is = rw (← setting, ← now_is, journal) (does_refused s.setting s.journal c r refused)

-- the published list has grown by these tables
pub grown_by : (old new more : List TableValue) → new ≡ old ++ more → IsPrefix old new
grown_by old new more is = (more, sym is)

-- what is due of a session that is on no pool
pub due_alone : (p : Setting) (c : Command) (before : Journal) (r : Result Accepted Refusal) (after : Journal) → CommandStep p c before r after → CommandStepWithin p None c before r after
unfolding command_outcome command_outcome_within
due_alone p c before r after step = step
