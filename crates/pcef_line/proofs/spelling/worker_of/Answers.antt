use Rattle.std.proofs.Common.{refl}
use Rattle.std.specs.Fmt.{digits}
use Rattle.pcef_line.proofs.spelling.worker_of.Goals as goal

pub returns-in-text-clause-spelled : goal.returns-in-text-clause-spelled
unfolding digits
returns-in-text-clause-spelled c = rw c.in-text.is refl

pub returns-in-text-2-clause-spelled : goal.returns-in-text-2-clause-spelled
unfolding digits
returns-in-text-2-clause-spelled c = rw c.in-text-2.is refl

pub returns-in-text-3-clause-spelled : goal.returns-in-text-3-clause-spelled
unfolding digits
returns-in-text-3-clause-spelled c = rw c.in-text-3.is refl

pub returns-in-text-4-clause-spelled : goal.returns-in-text-4-clause-spelled
unfolding digits
returns-in-text-4-clause-spelled c = rw c.in-text-4.is refl

pub returns-in-text-5-clause-spelled : goal.returns-in-text-5-clause-spelled
unfolding digits
returns-in-text-5-clause-spelled c = rw c.in-text-5.is refl

pub returns-in-text-6-clause-spelled : goal.returns-in-text-6-clause-spelled
unfolding digits
returns-in-text-6-clause-spelled c = rw c.in-text-6.is refl

pub returns-in-text-7-clause-spelled : goal.returns-in-text-7-clause-spelled
unfolding digits
returns-in-text-7-clause-spelled c = rw c.in-text-7.is refl

pub returns-in-text-8-clause-spelled : goal.returns-in-text-8-clause-spelled
unfolding digits
returns-in-text-8-clause-spelled c = rw c.in-text-8.is refl

pub returns-in-text-9-clause-spelled : goal.returns-in-text-9-clause-spelled
unfolding digits
returns-in-text-9-clause-spelled c = rw c.in-text-9.is refl

pub returns-in-text-10-clause-spelled : goal.returns-in-text-10-clause-spelled
unfolding digits
returns-in-text-10-clause-spelled c = rw c.in-text-10.is refl

pub returns-in-text-11-clause-spelled : goal.returns-in-text-11-clause-spelled
unfolding digits
returns-in-text-11-clause-spelled c = rw c.in-text-11.is refl

pub returns-in-text-12-clause-spelled : goal.returns-in-text-12-clause-spelled
unfolding digits
returns-in-text-12-clause-spelled c = rw c.in-text-12.is refl

pub returns-in-text-13-clause-spelled : goal.returns-in-text-13-clause-spelled
unfolding digits
returns-in-text-13-clause-spelled c = rw c.in-text-13.is refl

pub returns-in-text-14-clause-spelled : goal.returns-in-text-14-clause-spelled
unfolding digits
returns-in-text-14-clause-spelled c = rw c.in-text-14.is refl

pub returns-in-text-15-clause-spelled : goal.returns-in-text-15-clause-spelled
unfolding digits
returns-in-text-15-clause-spelled c = rw c.in-text-15.is refl

pub returns-in-text-16-clause-spelled : goal.returns-in-text-16-clause-spelled
unfolding digits
returns-in-text-16-clause-spelled c = rw c.in-text-16.is refl
