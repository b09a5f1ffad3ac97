use Rattle.pcef_answer.proofs.Showing.{key_whole}
use Rattle.pcef_answer.proofs.show.push_key.Goals as goal

pub returns : goal.returns
returns c =
    let key = rw c.as_str.ensures.text at c.in_ok-push_name.ensures in
    key_whole c.push_last_count.result _ _ _ _ _ _ _ _ _ _ _ _ _ c.in_ok-push_comma.ensures key c.in_ok-push_level.ensures c.in_ok-push_on.ensures c.in_ok-push_count.ensures c.push_last_count.ensures
