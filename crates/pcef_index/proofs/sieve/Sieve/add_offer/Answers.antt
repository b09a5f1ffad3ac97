use Rattle.std.proofs.Common.{◌≡◌, ◌<◌, ◌∙◌, get_or, length, subst, arith}
use Rattle.std.proofs.lemmas.List.{get_or_default}
use Rattle.pcef_index.specs.declared.free.Free.{Free}
use Rattle.pcef_index.specs.private.Sieves.{looks_at_all}
use Rattle.pcef_index.proofs.Keeping.{FreeStays, free_stays, header_stays, same_addresses}
use Rattle.pcef_index.proofs.sieve.Sieve.add_offer.Goals as goal

pub returns-clause-keeps : goal.returns-clause-keeps
returns-clause-keeps c block i ue h lets =
    let fs = c.args.self.now.free.items in
    let at = c.args.spot.block in
    let old = c.index_mut-free.result.now in
    let free : length fs ≡ c.args.spot.blocks = c.requires.shaped.free in
    let within : at < length fs = omega (arith, free) in
    let is : old ≡ get_or fs at looks_at_all = c.index_mut-free.ensures.value ∙ get_or_default fs at old looks_at_all within in
    let more : Free = record { remote = c.set.new.word; assigned = old.assigned; local = c.set-2.new.word; proto = c.set-3.new.word; remote_port = c.set-4.new.word; local_port = c.set-5.new.word } in
    let stays : FreeStays old more = record { remote = c.set.ensures.keeps; assigned = λ k has. has; local = c.set-2.ensures.keeps; proto = c.set-3.ensures.keeps; remote_port = c.set-4.ensures.keeps; local_port = c.set-5.ensures.keeps } in
    header_stays
    (record { remote = same_addresses c.args.self.now.remote; local = same_addresses c.args.self.now.local; proto = λ b n k has. has; remote_port = λ b n k has. has; local_port = λ b n k has. has })
    (free_stays fs at more block within (subst (λ (f : Free). FreeStays f more) is stays))
    block ue h i lets
