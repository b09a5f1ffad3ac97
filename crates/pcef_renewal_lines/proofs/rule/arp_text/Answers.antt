use Rattle.std.proofs.Common.{sym}
use Rattle.pcef_renewal_lines.proofs.rule.arp_text.Goals as goal

pub returns : goal.returns
returns c = rw (sym c.level-level.ensures, sym c.capability-capability.ensures, sym c.vulnerability-vulnerability.ensures) c.format.ensures.ok
