-- A cache of flows, as tables are seen.
use Rattle.std.proofs.Common.{◌≡◌, ◌∙◌, ◌+◌, ℕ, List, length, subst, sym, arith}
use mathlib.Core.List.{IsPrefix}
use Rattle.pcef_table.specs.Tables.{TableValue}
use Rattle.pcef_model.specs.Setting.{Setting}
use Rattle.pcef_flow.specs.Flows.{Flows, Remembers}
use Rattle.pcef_publish.specs.Lists.{EndsWith}
use Rattle.pcef_publish.proofs.Runs.{ends_at, prefix_whole}
use Rattle.pcef_lock.specs.Judging.{FollowsLast}

-- what is remembered of the table that ends a list is remembered of its last table
pub follows_end : (p : Setting) (seen : List TableValue) (t : TableValue) (flows : Flows) → EndsWith seen t → Remembers p.catalog t.entries p.ue flows → FollowsLast p seen flows
follows_end p seen t flows ends remembers u last =
    let same : t ≡ u = cc (sym (ends_at seen t ends) ∙ ends_at seen u last) in
    subst (λ (v : TableValue). Remembers p.catalog v.entries p.ue flows) same remembers

-- where no more tables are seen, the last one is the same
pub follows_still : (p : Setting) (seen more : List TableValue) (flows : Flows) (first held newest : ℕ) → IsPrefix seen more
    → held + 1 ≡ first + length seen → newest + 1 ≡ first + length more → newest ≡ held → FollowsLast p seen flows → FollowsLast p more flows
follows_still p seen more flows first held newest grows old new same follows =
    subst (λ ts. FollowsLast p ts flows) (prefix_whole seen more grows (omega (arith, old, new, same))) follows
