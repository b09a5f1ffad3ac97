use Rattle.std.proofs.Common.{◌∙◌, arith, sym}
use Rattle.std.proofs.lemmas.Bool.{ltb-false}
use Rattle.pcef_front.proofs.FrontExtensions.{first_octet_cut, first_octet_long, first_octet_open, first_octet_portless, first_octet_ports}
use Rattle.pcef_front.proofs.extensions.past_first_octet.Goals as goal
use Rattle.pcef_front.proofs.extensions.past_first_octet.Goals.{else-room-lt-MOST_LEN, then-room-lt-MOST_LEN}

pub returns-then-room : goal.returns-then-room
returns-then-room c = λ kind extends other. first_octet_cut kind c.args.next c.args.room extends other (sym c.is_extension.ensures ∙ c.if-is_extension.true) c.if-room.true

pub returns-else-room : goal.returns-else-room
returns-else-room c = λ kind extends other. first_octet_open kind c.args.next c.args.room extends (sym c.is_extension.ensures ∙ c.if-is_extension.true) c.if-room.false

pub returns-then-has_ports : goal.returns-then-has_ports
returns-then-has_ports c = λ kind extends other.
    let ends = sym c.is_extension.ensures ∙ c.if-is_extension.false in
    elim c.if-room-lt-MOST_LEN.branch [
      | then-room-lt-MOST_LEN w ↦ first_octet_long kind c.args.next c.args.room extends other ends c.requires.fits w.if-room-lt-MOST_LEN.true
      | else-room-lt-MOST_LEN w ↦
          first_octet_ports kind c.args.next c.args.room extends ends (sym w.has_ports.ensures ∙ sym w.value-is ∙ c.if-has_ports.true) c.requires.fits
    ]

pub returns-else-has_ports : goal.returns-else-has_ports
returns-else-has_ports c = λ kind extends other.
    let ends = sym c.is_extension.ensures ∙ c.if-is_extension.false in
    elim c.if-room-lt-MOST_LEN.branch [
      | then-room-lt-MOST_LEN w ↦ absurd (let low = w.if-room-lt-MOST_LEN.true in let high = ltb-false c.args.room 2048 (sym w.value-is ∙ c.if-has_ports.false) in omega arith)
      | else-room-lt-MOST_LEN w ↦
          first_octet_portless kind c.args.next c.args.room extends other ends (sym w.has_ports.ensures ∙ sym w.value-is ∙ c.if-has_ports.false) w.if-room-lt-MOST_LEN.false
    ]
