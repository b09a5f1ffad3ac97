use Rattle.std.proofs.Common.{◌≡◌, ◌∙◌, Some, IfSome, ap, arith, sym, subst}
use Rattle.json.specs.Lex.{tokens}
use Rattle.serde_json.specs.Data.{object}
use Rattle.serde_json.specs.Read.{read}
use Rattle.pcef_line.specs.LineValues.{Gives}
use Rattle.pcef_line.specs.ShortLines.{found_in, read_tokens}
use Rattle.pcef_line.proofs.ShortAnswers.{read_as}
use Rattle.pcef_line.proofs.short.short_line.Goals as goal

pub returns : goal.returns
returns c =
    let text = c.args.text.now in
    let d = object (found_in c.in_ok-fields_of.field-0) in
    let whole : c.in_ok-reader.reader ≡ tokens text = grind arith in
    let is : read text ≡ Some d = ap read_tokens (sym whole) ∙ c.in_ok-fields_of.ensures in
    subst (λ due. IfSome c.line_of.result (λ r. Gives (λ l. l) r due)) (sym (read_as text d is)) c.line_of.ensures
