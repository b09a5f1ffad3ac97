use Rattle.std.proofs.Common.{◌∙◌, ◌++◌, ◌∷◌, ◌+◌, [], None, append_assoc, ap, arith, drop, length, refl, subst, sym}
use Rattle.std.proofs.lemmas.List.{take_all}
use Rattle.std.proofs.lemmas.Result.{on_ok_weaker}
use Rattle.pcef_script.specs.ScriptLines.{has_feed}
use Rattle.pcef_script.proofs.Feeds.{before_feed, feed_found}
use Rattle.pcef_sessions.proofs.Servings.{fed}
use Rattle.pcef_shards.specs.Sorted.{IsSorted}
use Rattle.pcef_shards.proofs.sorting.Sorting.sort.Goals as goal

pub sort_run-requires : goal.sort_run-requires
sort_run-requires c =
    let r = c.lines.rest.now in
    ap has_feed c.split_at.ensures.front ∙ before_feed r r (length r) c.in-Some.place (sym (take_all (length r) r (omega arith))) (omega arith) refl c.in-Some.ensures

pub lines-preserved : goal.lines-preserved
lines-preserved c =
    let i = c.lines.invariant in
    let r = c.lines.rest.now in
    let n = c.in-Some.place in
    let front = c.split_at.result.0.now in
    record {
      front = i.front ++ (front ++ 10 ∷ []);
      whole = i.whole ∙ ap (λ t. i.front ++ t) (fed r n front c.split_at.ensures.front c.in-Some.ensures) ∙ sym (append_assoc i.front (front ++ 10 ∷ []) (drop (n + 1) r))
          ∙ ap (λ t. (i.front ++ (front ++ 10 ∷ [])) ++ t) (sym c.split_at-in-Some.ensures.back);
      after = λ keys threads taken input h.
          subst (IsSorted keys threads taken c.sort_feed.new.self) (append_assoc (input ++ i.front) front (10 ∷ []) ∙ append_assoc input i.front (front ++ 10 ∷ []))
          (c.in_ok-sort_feed.ensures keys threads taken ((input ++ i.front) ++ front) (c.in_ok-sort_run.ensures keys threads taken (input ++ i.front) (i.after keys threads taken input h)));
    }

pub sort_run-requires-2 : goal.sort_run-requires-2
sort_run-requires-2 c = sym (feed_found c.lines.rest.now None c.in_default.ensures)

pub returns : goal.returns
returns c =
    let i = c.lines.invariant in
    let r = c.lines.rest.now in
    on_ok_weaker c.sort_run-2.result
    (λ on. λ keys threads taken input h.
    subst (IsSorted keys threads taken c.sort_run-2.new.self) (append_assoc input i.front r ∙ ap (λ t. input ++ t) (sym i.whole))
    (on keys threads taken (input ++ i.front) (i.after keys threads taken input h)))
    c.sort_run-2.ensures
