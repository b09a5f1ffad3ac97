use Rattle.std.proofs.Common.{◌∙◌, ap, refl, rules, sym, Some, List, ℕ}
use Rattle.std.specs.Str.{bytes_eq}
use Rattle.std.proofs.lemmas.Bool.{false≢true}
use Rattle.pcef_sessions.proofs.NameTests.{name_utf8, named, unnamed}
use Rattle.pcef_sessions.proofs.name.name_of.Goals as goal

pub returns-in_default : goal.returns-in_default
returns-in_default c = unnamed c.args.octets.now c.args.octets.now refl (λ is. c.in_default.ensures.cases.0 (name_utf8 c.args.octets.now is))

pub returns-in-Ok-new : goal.returns-in-Ok-new
returns-in-Ok-new c =
    ap (λ (t : List ℕ). Some t) c.in-Ok-new.ensures.ok
    ∙ named c.in-Ok.text.now c.args.octets.now c.in-Ok.ensures.cases.0 (c.in-Ok-new.ensures.variant.0 (search rules))
    (ap (bytes_eq c.args.octets.now) (sym c.as_bytes.ensures.value) ∙ sym c.eq.ensures ∙ c.if-eq.false)

pub returns-in-Err : goal.returns-in-Err
returns-in-Err c =
    unnamed c.in-Ok.text.now c.args.octets.now c.in-Ok.ensures.cases.0 (λ is. false≢true (c.in-Err.ensures.variant.1 is))
