use Rattle.std.proofs.Common.{◌≡◌, ◌∙◌, Some, option_map, ap, arith}
use Rattle.serde_json.specs.Data.{number, put, string, unsigned}
use Rattle.serde_json.specs.Read.{number_of}
use Rattle.serde_json.proofs.Numbers.{number_of-decimal}
use Rattle.pcef_line.specs.ShortLines.{found_in}
use Rattle.pcef_line.proofs.ShortSteps.{put_worker}
use Rattle.pcef_line.proofs.short.keep_number.Goals as goal

pub returns-in_ok-worker-in-worker : goal.returns-in_ok-worker-in-worker
returns-in_ok-worker-in-worker c =
    let x = c.in_ok-worker-in-worker in
    let f = c.args.fields in
    let d = number (unsigned x.worker) in
    let value : number_of c.args.text.now ≡ Some (unsigned x.worker) = ap number_of x.ensures.spelled ∙ number_of-decimal x.worker (omega (arith, x.ensures.small)) in
    ap (option_map (λ n. put c.args.key.now (number n) (found_in f))) value
    ∙ ap (λ k. Some (put k d (found_in f))) c.in-worker.is
    ∙ ap Some (put_worker (option_map (λ s. string s.now) f.dir) (option_map (λ s. string s.now) f.word) (option_map (λ s. string s.now) f.packet) (option_map (λ n. number (unsigned n)) f.worker) d)
