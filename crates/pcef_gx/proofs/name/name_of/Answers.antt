use Rattle.std.proofs.Common.{◌≡◌, ◌++◌, ◌∙◌, ◌<◌, ◌≤◌, sym, ap, suc, drop, length, slice_index_or, arith}
use Rattle.std.specs.Prelude.{All}
use Rattle.std.proofs.lemmas.Bool.{eqb-false, eqb-true}
use Rattle.std.proofs.Math.Seq.{drop-cons}
use Rattle.pcef_rule.specs.Name.{IsVisible}
use Rattle.pcef_gx.specs.Names.{spelled}
use Rattle.pcef_gx.proofs.Names.{at_end, named, nameless, positive, spelled_visible, too_long}
use Rattle.pcef_gx.proofs.name.name_of.Goals as goal

pub returns-then-not-push_octet : goal.returns-then-not-push_octet
returns-then-not-push_octet g c =
    let octets = c.args.octets.now in
    let i = c.loop-octet.octet-index in
    let text = c.loop-octet.text.bytes in
    let front = drop-cons octets i 0 c.loop-octet-test.true in
    sym (too_long text (slice_index_or octets i 0) (drop (suc i) octets) octets (sym (ap (λ rest. text ++ spelled rest) front) ∙ c.loop-octet.invariant) (sym c.push_octet.ensures.room ∙ c.if-not-push_octet.true))

pub returns-then-is_empty : goal.returns-then-is_empty
returns-then-is_empty g c =
    let text = at_end c.loop-octet.text.bytes c.args.octets.now c.loop-octet.octet-index c.loop-octet-test.false c.loop-octet.invariant in
    sym (nameless c.loop-octet.text.bytes c.args.octets.now text (eqb-true _ _ (sym c.is_empty.ensures ∙ c.if-is_empty.true)))

pub known-requires : goal.known-requires
known-requires g c =
    let text = at_end c.loop-octet.text.bytes c.args.octets.now c.loop-octet.octet-index c.loop-octet-test.false c.loop-octet.invariant in
    let some : 0 < length c.loop-octet.text.bytes = positive _ (sym c.is_empty.ensures ∙ c.if-is_empty.false) in
    let visible : All IsVisible c.as_str.result.now = rw (c.as_str.ensures.value, text) (spelled_visible c.args.octets.now) in
    (rw c.as_str.ensures.value some, c.as_str.ensures.fits, visible)

pub returns : goal.returns
returns g c =
    let text = at_end c.loop-octet.text.bytes c.args.octets.now c.loop-octet.octet-index c.loop-octet-test.false c.loop-octet.invariant in
    let some : 0 < length c.loop-octet.text.bytes = positive _ (sym c.is_empty.ensures ∙ c.if-is_empty.false) in
    let few : length c.loop-octet.text.bytes ≤ 64 = rw (← c.as_str.ensures.value) c.as_str.ensures.fits in
    rw (c.known.ensures, c.as_str.ensures.value) (sym (named c.loop-octet.text.bytes c.args.octets.now text some few))
