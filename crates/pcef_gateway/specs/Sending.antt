-- What workers hand in of the packets that they were sent.
use Rattle.std.specs.Prelude.{ℕ, ◌≡◌, ◌+◌, ◌<◌, List, [], length, map, slice_index_or, sum_by}
use mathlib.Core.List.{IsPrefix}
use Rattle.pcef_packet.specs.declared.header.Header.{Header}
use Rattle.pcef_lock.specs.HandedIn.{HandedIn, abandoned_by}
use Rattle.pcef_gateway.specs.Arriving.{headers_for}
use Rattle.pcef_gateway.specs.Serving.{item_header}
use Rattle.pcef_gateway.specs.declared.arrivals.Arrival.{Arrival}

-- the rows in what a worker handed in, and those that it abandoned
abbrev pub row_count : HandedIn → ℕ
row_count h = length h.items + abandoned_by h

-- Each worker, in the order of their numbers, was sent these packets. It handed in the first of them; the others were
-- abandoned or dropped.
pub record HandInTheirs (sent : List (List Header)) (dropped : ℕ) (handed : List HandedIn) : Type 0 where
  pub many : length handed ≡ length sent
  pub numbered : (w : ℕ) (h : HandedIn) → w < length handed → (slice_index_or handed w h).worker ≡ w
  pub first : (w : ℕ) (h : HandedIn) → w < length handed → IsPrefix (map item_header (slice_index_or handed w h).items) (slice_index_or sent w [])
  pub whole : sum_by length sent ≡ sum_by row_count handed + dropped

-- The same for packets that arrive for `workers` workers.
pub record HandInArrivals (workers : ℕ) (arrivals : List Arrival) (dropped : ℕ) (handed : List HandedIn) : Type 0 where
  pub many : length handed ≡ workers
  pub numbered : (w : ℕ) (h : HandedIn) → w < length handed → (slice_index_or handed w h).worker ≡ w
  pub first : (w : ℕ) (h : HandedIn) → w < length handed → IsPrefix (map item_header (slice_index_or handed w h).items) (headers_for w arrivals)
  pub whole : length arrivals ≡ sum_by row_count handed + dropped
