use Rattle.std.proofs.Common.{◌≡◌, ◌∙◌, ◌++◌, ◌∷◌, [], ◌+◌, ◌<◌, ℕ, suc, List, Bool, ap, sym, arith, take, get_or, length, length-append}
use Rattle.std.specs.Prelude.{if◌then◌else◌}
use Rattle.pcef_table.specs.declared.entry.Source.{Source}
use Rattle.pcef_index.specs.Candidates.{is_candidate, places_from}
use Rattle.pcef_index.proofs.Growing.{one_place, places_more, one_length}
use Rattle.pcef_index.proofs.index.Index.candidates.Goals as goal

pub loop-place-preserved : goal.loop-place-preserved
loop-place-preserved c =
    let place = c.loop-place.place in
    let p = is_candidate c.args.ue c.args.header.now in
    let ss = c.args.self.now in
    let x = c.index.result.now in
    let v = c.self.view_is in
    let is : x ≡ get_or ss place x = (let i = c.index.ensures in cc) in
    let lt : place < length ss = (let t = c.loop-place-test.true in let n = c.len-place-end.ensures in let q = ap length v in omega arith) in
    let z : place ≡ 0 + place = omega arith in
    let e : suc place ≡ place + 1 = omega arith in
    let grown : c.push_if.new.places.items ≡ c.loop-place.places.items ++ one_place p place x =
    c.push_if.ensures ∙ ap (λ (b : Bool). c.loop-place.places.items ++ (if b then place ∷ [] else [])) c.is_candidate-stays.ensures in
    record {
      done = grown
          ∙ ap (λ (l : List ℕ). l ++ one_place p place x) c.loop-place.invariant.done
          ∙ ap (λ (s : Source). places_from p 0 (take place ss) ++ one_place p place s) is
          ∙ ap (λ (n : ℕ). places_from p 0 (take place ss) ++ one_place p n (get_or ss place x)) z
          ∙ sym (places_more p 0 ss place x lt)
          ∙ ap (λ (n : ℕ). places_from p 0 (take n ss)) e;
      few = (let a = ap length grown in let b = length-append c.loop-place.places.items (one_place p place x) in let d = one_length p place x in let f = c.loop-place.invariant.few in omega arith);
    }
