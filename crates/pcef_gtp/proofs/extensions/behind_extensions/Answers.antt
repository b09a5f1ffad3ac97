use Rattle.pcef_gtp.proofs.ExtensionSearch.{none_more, passed, refused}
use Rattle.pcef_gtp.proofs.extensions.behind_extensions.Goals as goal

pub returns : goal.returns
returns c = record {
  behind = none_more c.headers.kind c.headers.rest.now _ c.headers.invariant c.headers-test.false;
  refusal = tt;
}

pub returns-in-Err : goal.returns-in-Err
returns-in-Err c = record {
  behind = tt;
  refusal = refused c.headers.kind c.headers.rest.now _ c.in-Err.refusal c.headers.invariant c.headers-test.true c.in-Err.ensures.refusal;
}

pub headers-preserved : goal.headers-preserved
headers-preserved c = passed c.headers.kind c.in-Ok.next c.headers.rest.now c.in-Ok.behind.now _ c.headers.invariant c.headers-test.true c.in-Ok.ensures.found
