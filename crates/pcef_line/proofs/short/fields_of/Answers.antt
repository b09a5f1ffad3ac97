use Rattle.std.proofs.Common.{◌≡◌, ◌∙◌, [], ◌∷◌, Some, None, length, ap, arith}
use Rattle.json.specs.Token.{Token}
use Rattle.json.specs.Json.{read_key}
use Rattle.json.specs.Reads.{token_of}
use Rattle.pcef_line.specs.ShortLines.{found_in, read_tokens}
use Rattle.pcef_line.proofs.ShortSteps.{begins, turn, is_over}
use Rattle.pcef_line.proofs.short.fields_of.Goals as goal

pub members-init : goal.members-init
members-init c =
    let s = c.next.new.self in
    let first : c.args.reader.now ≡ Token.begin_object ∷ s = grind arith in
    (length s, omega arith, ap read_tokens first ∙ begins s)

pub members-preserved : goal.members-preserved
members-preserved c =
    let l = c.members in
    let k = c.in-Some.key.now in
    let t = c.in_ok-token.token in
    let s = c.next_key.new.self in
    let r = c.next-in-Some.new.self in
    let named : read_key l.reader ≡ Some (Some k, s) = grind arith in
    let first : s ≡ token_of t ∷ r = grind arith in
    turn l.invariant.0 k (token_of t) l.reader s r (found_in l.fields) (found_in c.in_ok-fields.fields) (read_tokens c.args.reader.now) l.invariant.1 l.invariant.2 named first c.in_ok-fields.ensures

pub returns : goal.returns
returns c =
    let l = c.members in
    let none : c.next_key.new.self ≡ [] = grind arith in
    let key : read_key l.reader ≡ Some (None, c.next_key.new.self) = grind arith in
    l.invariant.2 ∙ is_over l.invariant.0 l.reader (found_in l.fields) l.invariant.1 (key ∙ ap (λ ts. Some (None, ts)) none)
