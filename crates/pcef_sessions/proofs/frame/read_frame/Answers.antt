use Rattle.pcef_sessions.proofs.FrameReads.{bad_name, is_named, right, wrong}
use Rattle.pcef_sessions.proofs.frame.read_frame.Goals as goal

pub returns-in_default-name_of-clause-err : goal.returns-in_default-name_of-clause-err
returns-in_default-name_of-clause-err c = bad_name c.args.frame.now c.in-Some.name.now c.in-Some.kind c.in-Some.fields.now c.in-Some.ensures.some c.in_default-name_of.ensures

pub returns-in-Ok-clause-ok : goal.returns-in-Ok-clause-ok
returns-in-Ok-clause-ok c =
    let said = c.in-Ok.ensures.ok in (
      (is_named c.in-Some.name.now c.in-Some-name_of.name c.in-Some-name_of.ensures).0,
      said.0,
      right c.args.frame.now c.in-Some.name.now c.in-Some-name_of.name c.in-Some.kind c.in-Some.fields.now _ c.in-Some.ensures.some c.in-Some-name_of.ensures said.1,
    )

pub returns-in-Err-clause-err : goal.returns-in-Err-clause-err
returns-in-Err-clause-err c =
    wrong c.args.frame.now c.in-Some.name.now c.in-Some-name_of.name c.in-Some.kind c.in-Some.fields.now c.in-Err.fault c.in-Some.ensures.some c.in-Some-name_of.ensures c.in-Err.ensures.err
