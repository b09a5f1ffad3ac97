-- Sessions on one pool of guaranteed rates (own choice).
use Rattle.std.specs.Prelude.{ℕ, ◌≡◌, ◌≢◌, ◌≤◌, List, [], ◌∷◌, Some, Result, IfSome, map, slice_get}
use Rattle.pcef_rule.specs.declared.quantity.Sums.{Sums}
use Rattle.pcef_model.specs.declared.answer.Accepted.{Accepted}
use Rattle.pcef_model.specs.declared.answer.Refusal.{Refusal}
use Rattle.pcef_model.specs.declared.command.Command.{Command}
use Rattle.pcef_model.specs.Refusals.{total_now}
use Rattle.pcef_model.specs.Setting.{Setting}
use Rattle.pcef_session.specs.Answers.{AnswersCommandWithin}
use Rattle.pcef_session.specs.SessionModel.{SessionModel}
use Rattle.pcef_share.specs.Rates.{no_rates, with_rates}
use Rattle.pcef_share.specs.Pools.{PoolModel, room_beside}

-- what the guaranteed rates of a session's rules sum up to
abbrev pub rates_of : SessionModel → Sums
rates_of s = total_now s.setting s.journal

-- a pool's granted rates: the sum over its sessions
unfoldable pub granted_to : List SessionModel → Sums
granted_to [] = no_rates
granted_to (s ∷ sessions) = with_rates (rates_of s) (granted_to sessions)

-- what contracts see of sessions on a pool: the sessions, in their order, and the pool
pub record PooledModel : Type 0 where
  pub sessions : List SessionModel
  pub pool : PoolModel

-- What is granted is the exact sum over all sessions, within the capacity. That each session is exact, `pcef_core::session_is_exact`
-- says.
pub record PoolIsExact (v : PooledModel) : Type 0 where
  pub sum : v.pool.books.granted ≡ granted_to v.sessions
  pub within_up : v.pool.books.granted.up ≤ v.pool.capacity.up
  pub within_down : v.pool.books.granted.down ≤ v.pool.capacity.down

-- the session of a number answers a command as due, in the room that the others leave it, or is out of memory
abbrev pub AnswersAt : ℕ → PooledModel → Command → Result Accepted Refusal → PooledModel → Type 0
AnswersAt n before command result after =
    IfSome (slice_get before.sessions n) (λ s.
    IfSome (slice_get after.sessions n) (λ t.
    AnswersCommandWithin s command (Some (room_beside before.pool (rates_of s))) result t))

-- what is fixed for each session
abbrev pub settings_of : List SessionModel → List Setting
settings_of sessions = map (λ s. s.setting) sessions

-- all sessions but this one are as before
abbrev pub KeepsOthers : ℕ → PooledModel → PooledModel → Type 0
KeepsOthers n before after = (m : ℕ) → m ≢ n → slice_get after.sessions m ≡ slice_get before.sessions m
