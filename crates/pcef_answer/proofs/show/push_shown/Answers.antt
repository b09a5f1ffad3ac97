use Rattle.json.specs.Print.{escape_byte}
use Rattle.pcef_answer.proofs.WrittenTexts.{last_three, pushed_three}
use Rattle.pcef_answer.proofs.show.push_shown.Goals as goal

pub returns : goal.returns
unfolding escape_byte
returns c =
    let generation = rw c.from.ensures at c.in_ok-push_count.ensures in
    let end = pushed_three c.push_str.result _ _ _ _ _ _ _ generation c.in_ok-push_keys.ensures c.push_str.ensures.bytes in
    last_three c.push_str.result _ _ _ _ _ _ _ c.in_ok-push_active.ensures c.in_ok-push_bearers.ensures end
