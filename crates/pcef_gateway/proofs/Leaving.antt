-- What workers that leave hand in.
use Rattle.std.proofs.Common.{◌≡◌, ◌∙◌, ◌≤◌, ◌+◌, ℕ, List, ◌++◌, length, map, take, ap, sym, arith}
use mathlib.Core.List.{IsPrefix}
use Rattle.std.proofs.lemmas.List.{length-append, length-map, map-append, take-append-le}
use Rattle.std.proofs.Math.Seq.{take-append_seam, take-length}
use Rattle.pcef_packet.specs.declared.header.Header.{Header}
use Rattle.pcef_lock.specs.HandedIn.{HandedIn}
use Rattle.pcef_worker.specs.Working.{WorkerModel, abandoned, finished_hand_in}
use Rattle.pcef_gateway.specs.Serving.{HandsIn, item_header}
use Rattle.pcef_gateway.specs.Taking.{taken_headers}

pub handed_all : (w : WorkerModel) → HandsIn (taken_headers w) 0 (finished_hand_in w)
handed_all w =
    let all = w.rows ++ w.waiting in
    record {
      first = sym (take-length (map item_header all)) ∙ ap (λ n. take n (map item_header all)) (length-map all item_header);
      whole = omega (arith, length-map all item_header);
    }

pub handed_some : (w : WorkerModel) → HandsIn (taken_headers w) 0 (abandoned w)
handed_some w =
    let own = map item_header w.rows in
    let others = map item_header w.waiting in
    let split : taken_headers w ≡ own ++ others = map-append item_header w.rows w.waiting in
    record {
      first = sym (ap (λ xs. take (length w.rows) xs) split ∙ ap (λ n. take n (own ++ others)) (sym (length-map w.rows item_header)) ∙ take-append_seam own others);
      whole = omega (arith, length-map (w.rows ++ w.waiting) item_header, length-append w.rows w.waiting);
    }

-- the packets that arrive after them are dropped
pub and_dropped : (xs ys : List Header) (more : ℕ) (h : HandedIn) → HandsIn xs 0 h → IsPrefix xs ys → length ys ≡ length xs + more → HandsIn ys more h
and_dropped xs ys more h is begins many =
    let within : length h.items ≤ length xs = omega (arith, is.whole) in
    record {
      first = is.first ∙ sym (take-append-le (length h.items) xs begins.0 within) ∙ ap (take (length h.items)) begins.1;
      whole = omega (arith, is.whole, many);
    }
