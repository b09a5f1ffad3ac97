use Rattle.std.proofs.Common.{rules, ◌≡◌, subst}
use Rattle.std.specs.Prelude.{option_map}
use Rattle.std.specs.Arc.{arc_value}
use Rattle.pcef_catalog.specs.Catalogs.{offers_of}
use Rattle.pcef_run.specs.PoolEnds.{EndsPool}
use Rattle.pcef_run.specs.Programs.{EndsAsked, EndsOne, asked}
use Rattle.pcef_run.proofs.program.end_of.Goals as goal

pub returns-in-Some : goal.returns-in-Some
returns-in-Some g c =
    let remaining = g.R.Read.remaining in
    let contents = g.W.Write.contents in
    let same : c.deref.result.now ≡ arc_value c.args.environment.catalog = search rules in
    let pool = subst (λ k. EndsPool (offers_of k) c.in-Some.capacity c.args.arguments.profiles.now c.run_on_pool.result (remaining c.args.reader.now) (remaining c.run_on_pool.new.reader)
    (contents c.args.writer.now) (contents c.run_on_pool.new.writer)) same c.run_on_pool.ensures in
    subst (λ p. EndsAsked (offers_of (arc_value c.args.environment.catalog)) p c.args.arguments.words.now c.args.arguments.profiles.now c.run_on_pool.result (remaining c.args.reader.now) (remaining c.run_on_pool.new.reader)
    (contents c.args.writer.now) (contents c.run_on_pool.new.writer)) c.in-Some.ensures pool

pub returns-in-None : goal.returns-in-None
returns-in-None g c =
    let remaining = g.R.Read.remaining in
    let contents = g.W.Write.contents in
    let offers = offers_of (arc_value c.args.environment.catalog) in
    let one = subst (λ w. EndsOne offers w (asked c.args.arguments.words.now c.args.arguments.profiles.now) c.one_end.result (remaining c.args.reader.now) (remaining c.one_end.new.reader)
    (contents c.args.writer.now) (contents c.one_end.new.writer)) c.workers_of.ensures
    (subst (λ a. EndsOne offers c.workers_of.result a c.one_end.result (remaining c.args.reader.now) (remaining c.one_end.new.reader) (contents c.args.writer.now) (contents c.one_end.new.writer))
    c.request_of-asked.ensures c.one_end.ensures) in
    subst (λ p. EndsAsked offers p c.args.arguments.words.now c.args.arguments.profiles.now c.one_end.result (remaining c.args.reader.now) (remaining c.one_end.new.reader)
    (contents c.args.writer.now) (contents c.one_end.new.writer)) c.in-None.ensures one
