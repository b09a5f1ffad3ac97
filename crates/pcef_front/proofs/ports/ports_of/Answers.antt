use Rattle.std.proofs.Common.{◌∙◌, Ok, Some, subst, sym}
use Rattle.pcef_front.specs.Fronts.{IsSettledBy}
use Rattle.pcef_front.specs.private.Transports.{ports_read}
use Rattle.pcef_front.proofs.FrontPorts.{all_ports, few_ports, no_ports}
use Rattle.pcef_front.proofs.ports.ports_of.Goals as goal

pub returns-then-not-has_ports : goal.returns-then-not-has_ports
returns-then-not-has_ports c = no_ports c.args.proto c.args.payload.now c.args.room (sym c.has_ports.ensures ∙ c.if-not-has_ports.true)

pub returns-then-payload-lt-PORTS_LEN : goal.returns-then-payload-lt-PORTS_LEN
returns-then-payload-lt-PORTS_LEN c = few_ports c.args.proto c.args.payload.now c.args.room (sym c.has_ports.ensures ∙ c.if-not-has_ports.false) c.if-payload-lt-PORTS_LEN.true

pub returns : goal.returns
returns c =
    subst (λ ports. IsSettledBy (ports_read c.args.proto) c.args.payload.now c.args.room (Ok (Some ports))) (sym c.ports_at.ensures)
    (all_ports c.args.proto c.args.payload.now c.args.room (sym c.has_ports.ensures ∙ c.if-not-has_ports.false) c.if-payload-lt-PORTS_LEN.false)
