use Rattle.std.proofs.Common.{◌≡◌, ◌∙◌, ◌*◌, ◌%◌, length, arith}
use Rattle.hex.proofs.HexLemmas.{decode_of-even}
use Rattle.hex.proofs.Pairs.{decode_step, decode_done, decode_err}
use Rattle.pcef_line.proofs.octets.decode.Goals as goal

pub returns-in-None : goal.returns-in-None
returns-in-None c =
    let text = c.args.text.now in
    let even : length text % 2 ≡ 0 = omega (arith, c.requires) in
    let bad = c.in-None.ensures (2 * c.loop-i.i) in
    (bad.0, decode_of-even text even ∙ decode_err text c.loop-i.octets c.loop-i.i bad.0 (omega arith) bad.1 c.loop-i.invariant)

pub loop-i-preserved : goal.loop-i-preserved
loop-i-preserved c =
    decode_step c.args.text.now c.loop-i.octets c.loop-i.i c.in-Some.octet (omega arith) (omega arith) (c.in-Some.ensures (2 * c.loop-i.i)) c.loop-i.invariant

pub returns : goal.returns
returns c =
    let text = c.args.text.now in
    let even : length text % 2 ≡ 0 = omega (arith, c.requires) in
    decode_of-even text even ∙ decode_done text c.loop-i.octets c.loop-i.i (omega arith) (omega arith) c.loop-i.invariant
