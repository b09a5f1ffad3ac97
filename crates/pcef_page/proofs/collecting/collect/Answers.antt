use Rattle.std.proofs.Common.{rules, ◌≡◌, ◌∙◌, ◌+◌, ◌++◌, [], ◌∷◌, length, length-append, append_assoc, map, refl, sym, ap, arith}
use Rattle.std.specs.List.{zip}
use Rattle.pcef_page.specs.Pairing.{exchange_of}
use Rattle.pcef_page.specs.Grants.{grant_of, key_of}
use Rattle.pcef_page.specs.Usages.{refusal_of, usage_figure_of}
use Rattle.pcef_page.specs.private.Lines.{left}
use Rattle.pcef_page.specs.private.Steps.{exchange_by}
use Rattle.pcef_page.specs.Guarantees.{rules_behind}
use Rattle.pcef_page.proofs.Exchanges.{exchanges_next, rules_more, tells_more}
use Rattle.pcef_page.proofs.collecting.collect.Goals as goal

pub loop-line-init : goal.loop-line-init
loop-line-init g c =
    let blank = c.new-collected.ensures.figures in
    let script = c.of-script.ensures in
    let answers = c.of-answers.ensures in
    record {
      told = [];
      whole = rw (script.left, answers.left) refl;
      tells = record {
        lines = blank.lines;
        last = blank.last;
        generation = blank.generation;
        usage = ap (map usage_figure_of) blank.usage;
        grants = ap (map grant_of) blank.grants;
        keys = ap (map key_of) blank.keys;
        rates = blank.rates;
        refusals = ap (map refusal_of) blank.refused;
        answered = search rules;
      };
      active = c.new-collected.ensures.active;
      lines = omega (arith, ap length script.left);
      answers = omega (arith, ap length answers.left);
      room = omega (arith, script.room);
      script_room = script.room;
      answers_room = answers.room;
    }

pub loop-line-preserved : goal.loop-line-preserved
loop-line-preserved g c =
    let i = c.loop-line.invariant in
    let line = c.in-Some.line in
    let answer = c.in-Some-next.answer in
    let x = exchange_by line answer in
    let first = c.in-Some.ensures.line in
    let second = c.in-Some-next.ensures.line in
    let later = map exchange_of (zip (left c.next.new.self) (left c.next-in-Some.new.self)) in
    let longer : length (i.told ++ x ∷ []) ≡ length i.told + 1 = length-append i.told (x ∷ []) in
    record {
      told = i.told ++ x ∷ [];
      whole = i.whole ∙ ap (λ t. i.told ++ t)
          (exchanges_next (left c.loop-line.script) (left c.loop-line.answers) (left c.next.new.self) (left c.next-in-Some.new.self)
          (line.number, line.octets.now) (answer.number, answer.octets.now) first second)
          ∙ sym (append_assoc i.told (x ∷ []) later);
      tells = tells_more i.told x c.loop-line.collected c.take_octets.new.collected (omega (arith, i.room, c.in-Some.ensures.shorter)) i.tells i.active c.in_ok-take_octets.ensures.figures;
      active = c.in_ok-take_octets.ensures.figures.active ∙ ap (λ r. rules_behind r x.number x.line x.answer) i.active ∙ sym (rules_more [] i.told x);
      lines = omega (arith, i.lines, ap length first, longer);
      answers = omega (arith, i.answers, ap length second, longer);
      room = omega (arith, i.room, c.in-Some.ensures.shorter, longer);
      script_room = c.in-Some.ensures.room;
      answers_room = c.in-Some-next.ensures.room;
    }
