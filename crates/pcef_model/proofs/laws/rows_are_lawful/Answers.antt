use Rattle.pcef_model.proofs.LawfulRows.{lanes_are_numbered, rows_are_within, rows_have_verdicts}
use Rattle.pcef_model.proofs.laws.rows_are_lawful.Goals as goal

pub returns : goal.returns
returns c = record { verdicts = rows_have_verdicts; lanes = lanes_are_numbered; within = rows_are_within }
