use Rattle.std.proofs.Common.{◌≡◌, ◌∙◌, ap, codes, refl, sym}
use Rattle.std.specs.Prelude.{option_map}
use Rattle.std.specs.Str.Parse.{ExplainsUnsignedError, HasUnsignedDigitsIfOk, ParsesUnsigned}
use Rattle.std.proofs.lemmas.Bool.{false≢true}
use Rattle.clap.proofs.WalkLemmas.{first_value-rows, one_text-rows}
use Rattle.clap.specs.Words.{first_of, found_of, one_of, one_text}
use Rattle.pcef_capture_script.specs.CommandLine.{given, as_written}
use Rattle.pcef_capture_script.specs.declared.options.Packets.TheVariants as packets
use Rattle.pcef_capture_script.proofs.Askings.{mapped_none, mapped_some, text_of}
use Rattle.pcef_capture_script.proofs.options.packets_of.Goals as goal

pub returns-then-is_some : goal.returns-then-is_some
returns-then-is_some c = λ words rows_are.
    let f = found_of c.args.matches.now in
    let there : as_written words (codes "teid") ≡ option_map (λ s. s.now) c.get_str.result = sym (ap (first_of (codes "teid")) rows_are) ∙ sym (first_value-rows f (codes "teid")) ∙ sym c.get_str.ensures in
    let number = text_of (λ bs r. ParsesUnsigned 32 10 bs r × ExplainsUnsignedError 10 bs r × HasUnsignedDigitsIfOk bs r) (one_text f (codes "teid")) c.get_one.result c.in_ok-get_one.field-0 c.get_one.ensures.none c.get_one.ensures.value c.in_ok-get_one.was in
    record {
      teid = λ t is. (number.0, sym (one_text-rows f (codes "teid") ∙ ap (one_of (codes "teid")) rows_are) ∙ number.1, ap packets.OfTunnel number.2.0.1);
      gtp = λ none on. absurd (mapped_some (λ s. s.now) c.get_str.result (sym c.is_some.ensures ∙ c.if-is_some.true) (sym there ∙ none));
      gtp_not = λ none on. absurd (mapped_some (λ s. s.now) c.get_str.result (sym c.is_some.ensures ∙ c.if-is_some.true) (sym there ∙ none));
    }

pub returns-then-get_flag : goal.returns-then-get_flag
returns-then-get_flag c = λ words rows_are.
    let f = found_of c.args.matches.now in
    let there : as_written words (codes "teid") ≡ option_map (λ s. s.now) c.get_str.result = sym (ap (first_of (codes "teid")) rows_are) ∙ sym (first_value-rows f (codes "teid")) ∙ sym c.get_str.ensures in
    let one : one_text f (codes "gtp") ≡ given words (codes "gtp") = one_text-rows f (codes "gtp") ∙ ap (one_of (codes "gtp")) rows_are in
    record {
      teid = λ t is. absurd (mapped_none (λ s. s.now) c.get_str.result t (sym c.is_some.ensures ∙ c.if-is_some.false) (sym there ∙ is));
      gtp = λ none on. refl;
      gtp_not = λ none off. absurd (false≢true (sym (c.get_flag.ensures.other (one ∙ off)) ∙ c.if-get_flag.true));
    }

pub returns-else-get_flag : goal.returns-else-get_flag
returns-else-get_flag c = λ words rows_are.
    let f = found_of c.args.matches.now in
    let there : as_written words (codes "teid") ≡ option_map (λ s. s.now) c.get_str.result = sym (ap (first_of (codes "teid")) rows_are) ∙ sym (first_value-rows f (codes "teid")) ∙ sym c.get_str.ensures in
    let one : one_text f (codes "gtp") ≡ given words (codes "gtp") = one_text-rows f (codes "gtp") ∙ ap (one_of (codes "gtp")) rows_are in
    record {
      teid = λ t is. absurd (mapped_none (λ s. s.now) c.get_str.result t (sym c.is_some.ensures ∙ c.if-is_some.false) (sym there ∙ is));
      gtp = λ none on. absurd (false≢true (sym c.if-get_flag.false ∙ c.get_flag.ensures.value (one ∙ on)));
      gtp_not = λ none off. refl;
    }
