use Rattle.std.proofs.Common.{◌≡◌, ◌∙◌, List, ap, codes, subst, sym}
use Rattle.std.specs.Prelude.{None, Ok, Err, Option, Some, option_map}
use Rattle.std.specs.Str.Parse.{ExplainsUnsignedError, HasUnsignedDigitsIfOk, ParsesUnsigned}
use Rattle.clap.proofs.WalkLemmas.{first_value-rows, one_text-rows}
use Rattle.clap.specs.Words.{Text, first_of, found_of, one_of, one_text}
use Rattle.pcef_capture_script.specs.CommandLine.{AreUsers, IsRequest, given, as_written}
use Rattle.pcef_capture_script.specs.declared.options.Options.{Options}
use Rattle.pcef_capture_script.specs.declared.options.Request.{Request}
use Rattle.pcef_capture_script.specs.declared.options.Request.TheVariants as request
use Rattle.pcef_capture_script.proofs.Askings.{text_of}
use Rattle.pcef_capture_script.proofs.options.request_of.Goals as goal

-- no options are refused
no_options : (ue map : Option Text) (o : Options) → AreUsers ue map (Err (request.Options o)) → ⊥
no_options None None o are = are
no_options None (Some map) o are = are
no_options (Some ue) None o are = are
no_options (Some ue) (Some map) o are = are

refused : (words : List Text) (r : Request) → AreUsers (as_written words (codes "ue")) (as_written words (codes "sessions")) (Err r) → IsRequest words r
refused words (request.Options o) are = absurd (no_options (as_written words (codes "ue")) (as_written words (codes "sessions")) o are)
refused words (request.NoAddress text) are = are
refused words request.NoUsers are = are
refused words request.TwoUsers are = are

pub returns-in-Err : goal.returns-in-Err
returns-in-Err c = λ words rows_are.
    let f = found_of c.args.matches.now in
    let ue : option_map (λ s. s.now) c.get_str.result ≡ as_written words (codes "ue") = c.get_str.ensures ∙ first_value-rows f (codes "ue") ∙ ap (first_of (codes "ue")) rows_are in
    let map : option_map (λ s. s.now) c.get_str-2.result ≡ as_written words (codes "sessions") = c.get_str-2.ensures ∙ first_value-rows f (codes "sessions") ∙ ap (first_of (codes "sessions")) rows_are in
    refused words c.in-Err.request (subst (λ m. AreUsers (as_written words (codes "ue")) m (Err c.in-Err.request)) map (subst (λ u. AreUsers u (option_map (λ s. s.now) c.get_str-2.result) (Err c.in-Err.request)) ue c.in-Err.ensures))

pub returns : goal.returns
returns c = λ words rows_are.
    let f = found_of c.args.matches.now in
    let one : (id : Text) → one_text f id ≡ given words id = λ id. one_text-rows f id ∙ ap (one_of id) rows_are in
    let workers = text_of (λ bs r. ParsesUnsigned 8 10 bs r × ExplainsUnsignedError 10 bs r × HasUnsignedDigitsIfOk bs r) (one_text f (codes "workers")) c.get_one.result c.in_ok-workers.workers c.get_one.ensures.none c.get_one.ensures.value c.in_ok-workers.was in
    let batch = text_of (λ bs r. ParsesUnsigned 8 10 bs r × ExplainsUnsignedError 10 bs r × HasUnsignedDigitsIfOk bs r) (one_text f (codes "batch")) c.get_one-2.result c.in_ok-batch.batch c.get_one-2.ensures.none c.get_one-2.ensures.value c.in_ok-batch.was in
    let ue : option_map (λ s. s.now) c.get_str.result ≡ as_written words (codes "ue") = c.get_str.ensures ∙ first_value-rows f (codes "ue") ∙ ap (first_of (codes "ue")) rows_are in
    let map : option_map (λ s. s.now) c.get_str-2.result ≡ as_written words (codes "sessions") = c.get_str-2.ensures ∙ first_value-rows f (codes "sessions") ∙ ap (first_of (codes "sessions")) rows_are in
    record {
      users = subst (λ m. AreUsers (as_written words (codes "ue")) m (Ok c.in-Ok.users)) map (subst (λ u. AreUsers u (option_map (λ s. s.now) c.get_str-2.result) (Ok c.in-Ok.users)) ue c.in-Ok.ensures);
      packets = c.in_ok-packets.ensures words rows_are;
      workers_text = workers.0;
      workers_given = sym (one (codes "workers")) ∙ workers.1;
      workers = workers.2.0.1;
      batch_text = batch.0;
      batch_given = sym (one (codes "batch")) ∙ batch.1;
      batch = batch.2.0.1;
      pads = λ is. c.get_flag.ensures.value (one (codes "pad") ∙ is);
      pads_not = λ is. c.get_flag.ensures.other (one (codes "pad") ∙ is);
      times = sym (ap (first_of (codes "times")) rows_are) ∙ sym (first_value-rows f (codes "times")) ∙ sym c.get_str-4.ensures;
      file = sym (ap (first_of (codes "file")) rows_are) ∙ sym (first_value-rows f (codes "file")) ∙ sym c.get_str-3.ensures ∙ ap (option_map (λ s. s.now)) c.in_ok-file.was;
    }
