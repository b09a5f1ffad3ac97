use Rattle.std.proofs.Common.{◌≡◌, ◌∙◌, Some, get_or, sym, subst}
use Rattle.std.specs.Int.Bits.{bit_and}
use Rattle.std.proofs.lemmas.List.{get_or_default}
use Rattle.pcef_index.specs.declared.free.Free.{Free}
use Rattle.pcef_index.specs.declared.sides.Side.TheVariants.{Remote, Local}
use Rattle.pcef_index.specs.private.Sides.{port_on, proto_number}
use Rattle.pcef_index.specs.private.Sieves.{LetsHeader, looks_at_all}
use Rattle.pcef_index.proofs.Bits.{and_has}
use Rattle.pcef_index.proofs.sieve.Sieve.numbers_word.Goals as goal

pub returns : goal.returns
returns c ue h i probe lets =
    let self = c.args.self.now in
    let block = c.args.block in
    let free = c.index-free.result.now in
    let is : get_or self.free.items block looks_at_all ≡ free = sym (c.index-free.ensures ∙ get_or_default self.free.items block free looks_at_all c.requires.block) in
    let here : LetsHeader self free block ue h i = subst (λ (f : Free). LetsHeader self f block ue h i) is lets in
    let by_remote = c.number_word.ensures i (port_on Remote h) probe.remote_port here.sides.remote_port in
    let by_local = c.number_word-2.ensures i (port_on Local h) probe.local_port here.sides.local_port in
    let by_proto = c.number_word-3.ensures i (Some (proto_number h.proto)) probe.proto here.proto in
    and_has (bit_and c.number_word.result c.number_word-2.result) c.number_word-3.result i
    (and_has c.number_word.result c.number_word-2.result i by_remote by_local) by_proto
