use Rattle.std.proofs.Common.{◌∙◌, sym, subst}
use Rattle.pcef_packet.proofs.ReadingLaws.{Answers, only, only_fault, read}
use Rattle.pcef_packet.proofs.reading.read_header.Goals as goal

pub returns-in-6-clause-six : goal.returns-in-6-clause-six
returns-in-6-clause-six c = λ _. subst (Answers c.args.dir c.args.octets.now) (sym c.read_v6.ensures) (read c.args.dir c.args.octets.now)

pub returns-in-6-clause-six_header : goal.returns-in-6-clause-six_header
returns-in-6-clause-six_header c = λ header _ whole. c.read_v6.ensures ∙ only c.args.dir c.args.octets.now header whole

pub returns-in-6-clause-six_fault : goal.returns-in-6-clause-six_fault
returns-in-6-clause-six_fault c = λ e _ bad. c.read_v6.ensures ∙ only_fault c.args.dir c.args.octets.now e bad
