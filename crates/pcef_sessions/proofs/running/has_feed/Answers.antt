use Rattle.std.proofs.Common.{◌∙◌}
use Rattle.pcef_script.proofs.Feeds.{feed_found}
use Rattle.pcef_sessions.proofs.running.has_feed.Goals as goal

pub returns : goal.returns
returns c = c.is_some.ensures ∙ feed_found c.args.bytes.now c.memchr.result c.memchr.ensures
