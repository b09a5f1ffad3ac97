use Rattle.std.proofs.Common.{◌≡◌, ◌∙◌, ◌++◌, ◌-◌, ap, arith, length, min, take}
use Rattle.pcef_sessions.specs.private.Running.{most_kept}
use Rattle.pcef_sessions.proofs.Kept.{kept_more}
use Rattle.pcef_sessions.proofs.running.keep.Goals as goal

pub returns-in-Ok-clause-ok : goal.returns-in-Ok-clause-ok
returns-in-Ok-clause-ok c = λ whole is.
    let items = c.args.line.now.items in
    let bytes = c.args.bytes.now in
    let count : c.min-taken.result ≡ min (most_kept - length items) (length bytes) = omega (arith, c.min-taken.ensures, c.saturating_sub-room.ensures, c.len.ensures) in
    c.in-Ok.ensures.items ∙ ap (λ t. items ++ t) c.split_at.ensures.front ∙ ap (λ n. items ++ take n bytes) count ∙ kept_more items bytes whole most_kept is
