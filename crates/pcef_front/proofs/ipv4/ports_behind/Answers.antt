use Rattle.std.proofs.Common.{◌≡◌, ◌∙◌, ◌-◌, ◌==◌, true, ap, arith, refl, slice_index, subst, sym, take}
use Rattle.std.specs.List.{slice_range}
use Rattle.std.proofs.lemmas.Bool.{eq-eqb, ne_eqb}
use Rattle.pcef_packet.specs.HeaderOf.{fragment_offset_v4, header_len_v4, total_len_v4}
use Rattle.pcef_front.specs.Fronts.{IsSettledBy}
use Rattle.pcef_front.specs.private.Transports.{ports_read}
use Rattle.pcef_front.proofs.FrontsV4.{later_told, ports_told}
use Rattle.pcef_front.proofs.ipv4.ports_behind.Goals as goal

pub returns-then-fragment_offset_of-eq0 : goal.returns-then-fragment_offset_of-eq0
returns-then-fragment_offset_of-eq0 c = λ whole short within.
    let front = c.args.front.now in
    let len = c.requires.len in
    let total = c.requires.total in
    let order = c.requires.within in
    let room : c.args.total_len - c.args.header_len ≡ total_len_v4 front - header_len_v4 front = rw (len, total) refl in
    let payload : c.first-payload.result.now ≡ slice_range front (header_len_v4 front) (total_len_v4 front) =
    c.first-payload.ensures ∙ ap (take (c.args.total_len - c.args.header_len)) c.behind.ensures ∙ rw (len, total) refl in
    let first : (fragment_offset_v4 front == 0) ≡ true = eq-eqb (fragment_offset_v4 front) 0 (sym c.fragment_offset_of.ensures ∙ c.if-fragment_offset_of-eq0.true) in
    ports_told front whole c.requires.least short (omega arith) (omega arith) first c.ports_of.result
    (subst (λ room. IsSettledBy (ports_read (slice_index front 9)) (slice_range front (header_len_v4 front) (total_len_v4 front)) room c.ports_of.result) room
    (subst (λ payload. IsSettledBy (ports_read (slice_index front 9)) payload (c.args.total_len - c.args.header_len) c.ports_of.result) payload c.ports_of.ensures))

pub returns-else-fragment_offset_of-eq0 : goal.returns-else-fragment_offset_of-eq0
returns-else-fragment_offset_of-eq0 c = λ whole short within.
    later_told c.args.front.now whole c.requires.least
    (ne_eqb (fragment_offset_v4 c.args.front.now) 0 (λ none. c.if-fragment_offset_of-eq0.false (c.fragment_offset_of.ensures ∙ none)))
