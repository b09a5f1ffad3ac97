use Rattle.std.proofs.Common.{◌≡◌, ◌∙◌, ◌++◌, ◌∷◌, [], List, filter, ap, append_assoc, sym}
use Rattle.pcef_table.specs.declared.entry.TableEntry.{TableEntry}
use Rattle.pcef_table.specs.Sides.{stays_beside}
use Rattle.pcef_table.specs.declared.change.Side.TheVariants.{Before, Behind}
use Rattle.pcef_table.specs.Sources.{name_of}
use Rattle.pcef_table.specs.Tables.{has_other_name, goes_ahead, is_behind}
use Rattle.pcef_base.proofs.Keeping.{filter_twice}
use Rattle.pcef_table.proofs.change.copy_with.Goals as goal

pub returns : goal.returns
returns g c =
    let offers = g.C.Offers.offers c.args.catalog.now in
    let x = c.args.x in
    let old = c.args.entries.now in
    let others = has_other_name offers (name_of offers x.source) in
    let before = filter_twice (goes_ahead offers x) others old in
    let behind = filter_twice (is_behind offers x) others old in
    let first : c.copy_side.new.kept.items ≡ filter (stays_beside offers x Before) old = (let fresh = c.in_ok-kept.ensures.items in rw (c.in_ok-copy_side.ensures, fresh)) in
    let last : c.copy_side-2.new.kept.items ≡ filter (stays_beside offers x Behind) old = (let fresh = c.new-behind.ensures.items in rw (c.in_ok-copy_side-2.ensures, fresh)) in
    c.in_ok-append.ensures.items
    ∙ ap (λ (l : List TableEntry). l ++ c.copy_side-2.new.kept.items) c.in_ok-push.ensures.items
    ∙ append_assoc c.copy_side.new.kept.items (x ∷ []) c.copy_side-2.new.kept.items
    ∙ ap (λ (l : List TableEntry). l ++ x ∷ c.copy_side-2.new.kept.items) (first ∙ sym before)
    ∙ ap (λ (l : List TableEntry). filter (goes_ahead offers x) (filter others old) ++ x ∷ l) (last ∙ sym behind)
