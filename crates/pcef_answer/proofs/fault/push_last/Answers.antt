use Rattle.pcef_answer.proofs.PlainWords.{plain_fault}
use Rattle.pcef_answer.proofs.WrittenTexts.{pushed_two}
use Rattle.pcef_answer.proofs.fault.push_last.Goals as goal

pub push_word-requires : goal.push_word-requires
push_word-requires c = rw c.name.ensures (plain_fault c.args.fault)

pub returns : goal.returns
returns c =
    let name = rw c.name.ensures at c.in_ok-push_word.ensures in
    pushed_two c.push_str.result _ _ _ _ _ name c.push_str.ensures.bytes
