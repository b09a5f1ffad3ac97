use Rattle.std.proofs.Common.{◌∙◌}
use Rattle.pcef_packet.proofs.AddressTextLaws.{address_again, answer_found}
use Rattle.pcef_packet.proofs.header.Addr.from_text.Goals as goal

pub returns-clause-found : goal.returns-clause-found
returns-clause-found c = answer_found c.args.text.now c.address.result c.address.ensures

pub returns-clause-only : goal.returns-clause-only
returns-clause-only c = λ addr written. c.address.ensures ∙ address_again c.args.text.now addr written
