use Rattle.json.specs.Print.{escape_byte}
use Rattle.pcef_answer.proofs.written.push_judged.Goals as goal

pub returns-in-Stray : goal.returns-in-Stray
unfolding escape_byte
returns-in-Stray c = rw c.in-Stray.is c.push_ruleless.ensures

pub returns-in-Unmatched : goal.returns-in-Unmatched
unfolding escape_byte
returns-in-Unmatched c = rw c.in-Unmatched.is c.push_ruleless-in-Unmatched.ensures
