use Rattle.json.specs.Print.{escape_byte}
use Rattle.pcef_answer.proofs.written.text_of_take.Goals as goal

pub returns : goal.returns
unfolding escape_byte
returns c = rw (c.in_ok-text.ensures.bytes, c.from.ensures) at c.in_ok-push_last_count.ensures
