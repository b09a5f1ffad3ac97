use Rattle.std.proofs.Common.{◌≡◌, ◌<◌, ◌∙◌, List, get_or, length, ap, subst, arith}
use Rattle.std.proofs.Math.ListN.{set}
use Rattle.std.proofs.lemmas.List.{get_or_default, get_or-set_same}
use Rattle.pcef_filter.specs.declared.filter.Endpoint.{Endpoint}
use Rattle.pcef_filter.specs.declared.filter.PortRange.{PortRange}
use Rattle.pcef_filter.specs.Matching.{place_fits, ports_fit}
use Rattle.pcef_index.specs.declared.sides.Side.TheVariants.{Remote, Local}
use Rattle.pcef_index.specs.declared.free.Free.{Free}
use Rattle.pcef_index.specs.private.Sides.{addr_on, port_on}
use Rattle.pcef_index.specs.private.Sieves.{looks_at_all}
use Rattle.pcef_index.proofs.Keeping.{FreeStays, free_stays, header_stays}
use Rattle.pcef_index.proofs.Matching.{sides_match}
use Rattle.pcef_index.proofs.sieve.Sieve.add_sides.Goals as goal

pub returns-clause-keeps : goal.returns-clause-keeps
returns-clause-keeps c block i ue h lets =
    let fs = c.args.self.now.free.items in
    let at = c.args.spot.block in
    let old = c.index_mut-free.result.now in
    let free : length fs ≡ c.args.spot.blocks = c.requires.shaped.free in
    let within : at < length fs = omega (arith, free) in
    let is : old ≡ get_or fs at looks_at_all = c.index_mut-free.ensures.value ∙ get_or_default fs at old looks_at_all within in
    let more : Free = record { remote = c.add_remote.new.free; assigned = c.add_remote.new.assigned; local = c.add_local.new.free; proto = old.proto; remote_port = c.add_ranges.new.free; local_port = c.add_ranges-2.new.free } in
    let stays : FreeStays old more = record {
      remote = c.add_remote.ensures.free;
      assigned = c.add_remote.ensures.assigned;
      local = c.add_local.ensures.free;
      proto = λ k has. has;
      remote_port = c.add_ranges.ensures.free;
      local_port = c.add_ranges-2.ensures.free;
    } in
    header_stays
    (record {
      remote = record { version = c.add_remote.ensures.version; keeps = c.add_remote.ensures.keeps };
      local = record { version = c.add_local.ensures.version; keeps = c.add_local.ensures.keeps };
      proto = λ b n k has. has;
      remote_port = c.add_ranges.ensures.keeps;
      local_port = c.add_ranges-2.ensures.keeps;
    })
    (free_stays fs at more block within (subst (λ (f : Free). FreeStays f more) is stays))
    block ue h i lets

pub returns-clause-lets : goal.returns-clause-lets
returns-clause-lets c ue h ranged fits =
    let fs = c.args.self.now.free.items in
    let at = c.args.spot.block in
    let old = c.index_mut-free.result.now in
    let free : length fs ≡ c.args.spot.blocks = c.requires.shaped.free in
    let within : at < length fs = omega (arith, free) in
    let more : Free = record { remote = c.add_remote.new.free; assigned = c.add_remote.new.assigned; local = c.add_local.new.free; proto = old.proto; remote_port = c.add_ranges.new.free; local_port = c.add_ranges-2.new.free } in
    let there : get_or (set fs at more) at looks_at_all ≡ more = get_or-set_same fs at more looks_at_all within in
    let sides = sides_match c.args.filter.now ue h fits in
    rw there
    (record {
      remote = c.add_remote.ensures.lets ue (addr_on Remote h)
          (ap (λ (e : Endpoint). place_fits e.place ue (addr_on Remote h)) c.end_on-remote.ensures ∙ sides.remote.place);
      local = c.add_local.ensures.lets ue (addr_on Local h)
          (ap (λ (e : Endpoint). place_fits e.place ue (addr_on Local h)) c.end_on-local.ensures ∙ sides.local.place);
      remote_port = c.add_ranges.ensures.lets (port_on Remote h) (ranged.ports Remote)
          (ap (λ (rs : List PortRange). ports_fit rs (port_on Remote h)) (c.deref.ensures.0 ∙ ap (λ (e : Endpoint). e.ports.items) c.end_on-remote.ensures) ∙ sides.remote.ports);
      local_port = c.add_ranges-2.ensures.lets (port_on Local h) (ranged.ports Local)
          (ap (λ (rs : List PortRange). ports_fit rs (port_on Local h)) (c.deref-2.ensures.0 ∙ ap (λ (e : Endpoint). e.ports.items) c.end_on-local.ensures) ∙ sides.local.ports);
    })
