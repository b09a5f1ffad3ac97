use Rattle.std.proofs.Common.{◌-◌, ◌∙◌, Some, ap, sym, subst}
use Rattle.pcef_front.specs.private.Transports.{ShowsLater, has_ports}
use Rattle.pcef_packet.specs.ExtensionHeaders.{is_extension}
use Rattle.pcef_front.proofs.FrontExtensions.{either_header, either_portless, either_ports, first_passed, later_portless}
use Rattle.pcef_front.proofs.extensions.past_fragment.Goals as goal

pub returns-in-Some-true : goal.returns-in-Some-true
returns-in-Some-true c =
    rw c.requires.next_is (later_portless c.args.left.now c.args.room c.requires.some c.requires.fits
    (subst (ShowsLater c.args.left.now) (c.in-Some-true.is ∙ ap Some c.in-Some-true.field-0-test) c.is_later.ensures))

pub returns-in-Some-false : goal.returns-in-Some-false
returns-in-Some-false c =
    rw c.requires.next_is (first_passed c.args.left.now c.args.room c.requires.some c.requires.fits
    (subst (ShowsLater c.args.left.now) (c.in-Some-false.is ∙ ap Some c.in-Some-false.field-0-test) c.is_later.ensures))

pub returns-in-None : goal.returns-in-None
returns-in-None c =
    either_header c.args.left.now c.args.room c.requires.some c.requires.fits (subst (ShowsLater c.args.left.now) c.in-None.is c.is_later.ensures)
    (ap is_extension (sym c.requires.next_is) ∙ sym c.is_extension.ensures ∙ c.if-is_extension.true)

pub returns-in-None-2 : goal.returns-in-None-2
returns-in-None-2 c =
    either_ports c.args.left.now c.args.room c.requires.some c.requires.fits (subst (ShowsLater c.args.left.now) c.in-None.is c.is_later.ensures)
    (ap is_extension (sym c.requires.next_is) ∙ sym c.is_extension.ensures ∙ c.if-is_extension.false)
    (ap (λ p. has_ports p (c.args.room - 8)) (sym c.requires.next_is) ∙ sym c.has_ports.ensures ∙ c.if-has_ports.true)

pub returns-in-None-3 : goal.returns-in-None-3
returns-in-None-3 c =
    rw c.requires.next_is (either_portless c.args.left.now c.args.room c.requires.some c.requires.fits
    (ap is_extension (sym c.requires.next_is) ∙ sym c.is_extension.ensures ∙ c.if-is_extension.false)
    (ap (λ p. has_ports p (c.args.room - 8)) (sym c.requires.next_is) ∙ sym c.has_ports.ensures ∙ c.if-has_ports.false))
