use Rattle.std.proofs.Common.{refl}
use Rattle.pcef_shards.proofs.Sortings.{feed_led}
use Rattle.pcef_shards.proofs.sorting.Sorting.sort_feed.Goals as goal

pub returns : goal.returns
returns c = λ keys threads taken input h.
    let ended = c.in_ok-thread.ensures keys threads taken input h in
    feed_led c.settle_lines.new.self _ c.in_ok-thread.thread refl refl refl c.in_ok-lead.ensures keys threads taken input ended.0 ended.1
