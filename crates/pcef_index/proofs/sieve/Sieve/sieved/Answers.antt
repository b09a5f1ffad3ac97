use Rattle.std.proofs.Common.{◌≡◌, ◌∙◌, ℕ, get_or, sym, subst}
use Rattle.std.specs.Int.{bit_at}
use Rattle.std.specs.Int.Bits.{bit_and, bit_or}
use Rattle.std.proofs.lemmas.List.{get_or_default}
use Rattle.pcef_index.specs.declared.free.Free.{Free}
use Rattle.pcef_index.specs.declared.sides.Side.TheVariants.{Remote, Local}
use Rattle.pcef_index.specs.private.Sides.{addr_on}
use Rattle.pcef_index.specs.private.Sieves.{LetsHeader, looks_at_all}
use Rattle.pcef_index.proofs.Bits.{and_has}
use Rattle.pcef_index.proofs.Keeping.{place_has, remote_has}
use Rattle.pcef_index.proofs.sieve.Sieve.sieved.Goals as goal

pub returns-then-word-eq0 : goal.returns-then-word-eq0
returns-then-word-eq0 c ue h i probe small up lets =
    let self = c.args.self.now in
    let block = c.args.block in
    let free = c.index-free.result.now in
    let is : get_or self.free.items block looks_at_all ≡ free = sym (c.index-free.ensures ∙ get_or_default self.free.items block free looks_at_all c.requires.block) in
    let here : LetsHeader self free block ue h i = subst (λ (f : Free). LetsHeader self f block ue h i) is lets in
    let by_local = and_has c.args.some (bit_or free.local c.word.result) i up (place_has free.local c.word.result self.local block i (addr_on Local h) (c.word.ensures i (addr_on Local h) small probe.local) here.sides.local) in
    subst (λ (w : ℕ). bit_at w i ≡ 1) c.if-word-eq0.true by_local

pub returns-then-word-eq0-2 : goal.returns-then-word-eq0-2
returns-then-word-eq0-2 c ue h i probe small up lets =
    let self = c.args.self.now in
    let block = c.args.block in
    let free = c.index-free.result.now in
    let is : get_or self.free.items block looks_at_all ≡ free = sym (c.index-free.ensures ∙ get_or_default self.free.items block free looks_at_all c.requires.block) in
    let here : LetsHeader self free block ue h i = subst (λ (f : Free). LetsHeader self f block ue h i) is lets in
    let by_local = and_has c.args.some (bit_or free.local c.word.result) i up (place_has free.local c.word.result self.local block i (addr_on Local h) (c.word.ensures i (addr_on Local h) small probe.local) here.sides.local) in
    subst (λ (w : ℕ). bit_at w i ≡ 1) c.if-word-eq0-2.true
    (and_has (bit_and c.args.some (bit_or free.local c.word.result)) c.numbers_word.result i by_local (c.numbers_word.ensures ue h i probe lets))

pub returns : goal.returns
returns c ue h i probe small up lets =
    let self = c.args.self.now in
    let block = c.args.block in
    let free = c.index-free.result.now in
    let is : get_or self.free.items block looks_at_all ≡ free = sym (c.index-free.ensures ∙ get_or_default self.free.items block free looks_at_all c.requires.block) in
    let here : LetsHeader self free block ue h i = subst (λ (f : Free). LetsHeader self f block ue h i) is lets in
    let by_local = and_has c.args.some (bit_or free.local c.word.result) i up (place_has free.local c.word.result self.local block i (addr_on Local h) (c.word.ensures i (addr_on Local h) small probe.local) here.sides.local) in
    let by_remote = remote_has free.remote free.assigned c.word-2.result c.args.probe.now.assigned self.remote block i ue (addr_on Remote h) small probe.assigned
    (c.word-2.ensures i (addr_on Remote h) small probe.remote) here.sides.remote in
    let word = bit_and c.args.some (bit_or free.local c.word.result) in
    and_has (bit_and word c.numbers_word.result) (bit_or (bit_or free.remote (bit_and free.assigned c.args.probe.now.assigned)) c.word-2.result) i
    (and_has word c.numbers_word.result i by_local (c.numbers_word.ensures ue h i probe lets)) by_remote
