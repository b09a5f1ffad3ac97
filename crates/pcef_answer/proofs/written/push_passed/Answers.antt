use Rattle.std.proofs.Common.{decimal, string_bytes}
use Rattle.std.specs.Prelude.{codes}
use Rattle.json.specs.Print.{escape, escape_byte}
use Rattle.pcef_answer.proofs.WrittenTexts.{last_three, name_quoted}
use Rattle.pcef_answer.proofs.written.push_passed.Goals as goal

pub returns : goal.returns
unfolding escape_byte
returns c =
    let bearer = rw c.from.ensures at c.in_ok-push_number.ensures in
    let generation = rw c.from-2.ensures at c.in_ok-push_number-2.ensures in
    let pushed = last_three c.push_rule.result _ _ _ _ _ _ _ c.in_ok-push_str-2.ensures.bytes generation c.push_rule.ensures in
    let end = name_quoted c.push_rule.result (string_bytes c.push_number.new.text) (string_bytes c.push_rule.new.text) (codes ",\"generation\":") (decimal c.args.generation)
    (codes ",\"rule\":\"") (escape c.args.rule.now) (codes ",\"verdict\":\"Passed\"}") pushed in
    last_three c.push_rule.result _ _ _ _ _ _ _ c.in_ok-push_str.ensures.bytes bearer end
