use Rattle.std.specs.Prelude.{◌≡◌, drop, string_bytes}
use Rattle.pcef_run.specs.Summaries.{with_keys}
use Rattle.pcef_run.proofs.summary.push_keys.Given as goal

abbrev pub invariant-loop-total : goal.invariant-loop-total
invariant-loop-total l = with_keys (string_bytes l.text) (drop l.total-index l.totals) ≡ with_keys (string_bytes l.fn.text) l.totals
