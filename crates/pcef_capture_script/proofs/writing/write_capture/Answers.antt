use Rattle.std.proofs.Common.{◌≡◌, ◌∙◌, ◌-◌, [], ap, drop, length, refl, subst, sym}
use Rattle.pcef_capture_file.specs.Streams.{OpensCapture}
use Rattle.pcef_capture_script.specs.Progress.{Reached}
use Rattle.pcef_capture_script.proofs.Progress.{kept}
use Rattle.pcef_capture_script.proofs.writing.write_capture.Goals as goal

pub returns-in-Ok : goal.returns-in-Ok
returns-in-Ok g c =
    let octets = c.as_slice-octets.result.now in
    let rest = c.in-Ok.rest.now in
    let front = c.read_front.new.waiting.items in
    let same : drop c.saturating_sub-taken.result front ≡ rest =
    ap (λ n. drop n front) c.saturating_sub-taken.ensures ∙ ap (drop (length octets - length rest)) (sym c.as_slice-octets.ensures.value)
    ∙ kept octets rest (length rest) c.in-Ok.ensures.behind refl in
    let opens = subst (λ o. OpensCapture o c.in-Ok.stream rest) c.as_slice-octets.ensures.value c.in-Ok.ensures.opens in
    c.write_behind.ensures (g.R.Read.remaining c.args.reader.now) front c.in_ok-read_front.ensures.front.0 (subst (Reached front [] c.in-Ok.stream) (sym same) opens)
