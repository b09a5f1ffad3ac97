-- The outcome of a session's run, by what was handed in.
use Rattle.std.proofs.Common.{◌≡◌, ◌≢◌, ◌∙◌, ◌<◌, ◌+◌, ℕ, zero, suc, ◌==◌, true, false, List, [], ◌∷◌, ◌++◌, All, Some, find, length, filter, map, reverse, get_or, sum_by, refl, ap, sym, subst, arith}
use Rattle.std.specs.Prelude.{IfOk, Result, Ok, Err}
use Rattle.std.specs.Option.{option_map}
use mathlib.Core.List.{IsPrefix}
use Rattle.std.proofs.lemmas.Bool.{eq-eqb, ne_eqb}
use Rattle.std.proofs.lemmas.List.{length-map, length-reverse}
use Rattle.std.proofs.lemmas.List.Sums.{sum_by-cons}
use Rattle.pcef_packet.specs.declared.header.Header.{Header}
use Rattle.pcef_model.specs.declared.answer.Accepted.{Accepted}
use Rattle.pcef_model.specs.declared.answer.Refusal.{Refusal}
use Rattle.pcef_model.specs.declared.command.Command.{Command}
use Rattle.pcef_model.specs.declared.row.Row.{Row}
use Rattle.pcef_model.specs.Setting.{Setting}
use Rattle.pcef_model.specs.Entries.{Journal, lane, rows}
use Rattle.pcef_model.specs.Journals.{attach_count}
use Rattle.pcef_model.specs.Lawful.{Lawful}
use Rattle.pcef_model.proofs.NewLanes.{lawful_numbered}
use Rattle.pcef_session.specs.declared.batch.Item.{Item}
use Rattle.pcef_session.specs.Following.{row_of}
use Rattle.pcef_lock.specs.Gathering.{AddUpTo, AreGathered, HasLane, HaveLanes, rows_abandoned}
use Rattle.pcef_lock.specs.HandedIn.{HandedIn, abandoned_by}
use Rattle.pcef_lock.specs.declared.leaving.Leaving.TheVariants.{Finished}
use Rattle.pcef_gateway.specs.Arriving.{headers_for}
use Rattle.pcef_gateway.specs.Commanding.{HaveAnswers, changing}
use Rattle.pcef_gateway.specs.Ending.{RunsTo}
use Rattle.pcef_gateway.specs.InOrder.{commands_of, lane_headers, reports_of}
use Rattle.pcef_gateway.specs.Sending.{HandInArrivals, row_count}
use Rattle.pcef_gateway.specs.Serving.{item_header}
use Rattle.pcef_gateway.specs.declared.arrivals.Arrival.{Arrival}
use Rattle.pcef_gateway.specs.declared.ended.Ended.{Ended}
use Rattle.pcef_gateway.proofs.Splitting.{sums_up}

-- where those that are handed in have their numbers from k on
found_from : (handed : List HandedIn) (d : HandedIn) (k i w : ℕ) → ((n : ℕ) → n < length handed → (get_or handed n d).worker ≡ k + n) → i < length handed → w ≡ k + i
    → find (λ (h : HandedIn). h.worker == w) handed ≡ Some (get_or handed i d)
found_from [] d k i w numbered within is = absurd (omega (arith, within))
found_from (h ∷ handed) d k zero w numbered within is =
    let own : h.worker ≡ w = numbered 0 within ∙ sym is in
    rw (eq-eqb h.worker w own) refl
found_from (h ∷ handed) d k (suc i) w numbered within is =
    let at : h.worker ≡ k + 0 = numbered 0 (omega arith) in
    let other : h.worker ≢ w = λ (e : h.worker ≡ w). omega (arith, at, e, is) in
    let later : (n : ℕ) → n < length handed → (get_or handed n d).worker ≡ suc k + n =
    λ n below. numbered (suc n) (omega (arith, below)) ∙ omega arith in
    rw (ne_eqb h.worker w other) (found_from handed d (suc k) i w later (omega (arith, within)) (is ∙ omega arith))

some_once : {X : Type 0} (x y : X) → Some x ≡ Some y → x ≡ y
some_once x y is = cc

-- the rows that a worker handed in are its lane
own_rows : (j : Journal) (handed : List HandedIn) (w : ℕ) (d : HandedIn) → ((n : ℕ) → n < length handed → (get_or handed n d).worker ≡ n) → w < length handed → HasLane j handed w
    → map row_of (get_or handed w d).items ≡ reverse (lane j w)
own_rows j handed w d numbered within has =
    let found : find (λ (h : HandedIn). h.worker == w) handed ≡ Some (get_or handed w d) =
    found_from handed d 0 w w (λ n below. numbered n below ∙ omega arith) within (omega arith) in
    some_once (map row_of (get_or handed w d).items) (reverse (lane j w))
    (sym (ap (option_map (λ (h : HandedIn). map row_of h.items)) found) ∙ has)

headers_of_rows : (items : List Item) → map (λ (r : Row). r.header) (map row_of items) ≡ map item_header items
headers_of_rows [] = refl
headers_of_rows (i ∷ items) = ap (λ (hs : List Header). i.row.header ∷ hs) (headers_of_rows items)

sum_of_rows : (handed : List HandedIn) → sum_by row_count handed ≡ sum_by (λ (h : HandedIn). length h.items) handed + rows_abandoned handed
sum_of_rows [] = refl
sum_of_rows (h ∷ handed) = omega (arith, sum_by-cons row_count h handed, sum_by-cons (λ (x : HandedIn). length x.items) h handed, sum_by-cons abandoned_by h handed, sum_of_rows handed)

-- each row stands in what one worker handed in
rows_sum : (p : Setting) (j : Journal) (handed : List HandedIn) (d : HandedIn) → Lawful p j → ((n : ℕ) → n < length handed → (get_or handed n d).worker ≡ n) → length handed ≡ attach_count j
    → ((w : ℕ) → w < attach_count j → HasLane j handed w) → sum_by (λ (h : HandedIn). length h.items) handed ≡ length (rows j)
rows_sum p j handed d lawful numbered many lanes =
    let own : (w : ℕ) → w < length handed → length (get_or handed w d).items ≡ length (filter (λ (r : Row). r.worker == w) (rows j)) =
    λ w within.
    let has = lanes w (omega (arith, within, many)) in
    sym (length-map (get_or handed w d).items row_of) ∙ ap length (own_rows j handed w d numbered within has) ∙ length-reverse (lane j w) in
    let lower : All (λ (r : Row). r.worker < length handed) (rows j) = subst (λ n. All (λ (r : Row). r.worker < n) (rows j)) (sym many) (lawful_numbered p j lawful).rows_below in
    sums_up (λ (r : Row). r.worker) (λ (h : HandedIn). length h.items) (rows j) handed d own lower

runs_to : (p : Setting) (before : Journal) (arrivals : List Arrival) (given first listed : List Command) (workers dropped : ℕ) (handed : List HandedIn) (e : Ended)
    → AddUpTo p false listed handed e.totals → e.totals.compared ≡ true → HandInArrivals workers arrivals dropped handed → Lawful e.totals.session.setting e.totals.session.journal
    → e.dropped ≡ dropped → HaveAnswers first given listed e.answers.items → first ≡ commands_of before
    → e.reports.items ≡ reports_of e.totals.session.journal → RunsTo p before arrivals given workers e
runs_to p before arrivals given first listed workers dropped handed e add_up compared hand_in lawful dropped_is have first_is reports_are =
    let j = e.totals.session.journal in
    let agree = add_up.agree compared in
    let d : HandedIn = record { worker = 0; keeps = true; items = []; leaving = Finished 0 } in
    let numbered : (n : ℕ) → n < length handed → (get_or handed n d).worker ≡ n = λ n below. hand_in.numbered n d below in
    let sum : sum_by (λ (h : HandedIn). length h.items) handed ≡ length (rows j) = rows_sum e.totals.session.setting j handed d lawful numbered add_up.many agree.0 in
    record {
      setting_is = add_up.rest.setting_is;
      attached = sym add_up.many ∙ hand_in.many;
      keys = add_up.keys_are;
      sums = add_up.sums;
      gathered = record {
        many = ap length add_up.rest.lists_are ∙ add_up.many;
        lanes = subst (λ (hs : List HandedIn). HaveLanes j hs) (sym add_up.rest.lists_are) agree.0;
        gathered = subst (λ (hs : List HandedIn). AreGathered e.totals.keys hs) (sym add_up.rest.lists_are) add_up.gathered;
        abandoned_are = add_up.rest.abandoned_are ∙ ap rows_abandoned (sym add_up.rest.lists_are);
      };
      rows_are = add_up.rest.rows_are;
      lanes = λ w within.
          let there : w < length handed = omega (arith, within, hand_in.many) in
          let came : w < attach_count j = omega (arith, there, add_up.many) in
          let own : map item_header (get_or handed w d).items ≡ lane_headers j w =
          sym (headers_of_rows (get_or handed w d).items) ∙ ap (map (λ (r : Row). r.header)) (own_rows j handed w d numbered there (agree.0 w came)) in
          subst (λ hs. IsPrefix hs (headers_for w arrivals)) own (hand_in.first w d there);
      whole = omega (arith, add_up.rest.rows_are, add_up.rest.abandoned_are, dropped_is, hand_in.whole, sum_of_rows handed, sum);
      answers = have.many;
      memory = have.memory;
      commands_are = sym agree.1 ∙ have.listed_are ∙ ap (λ cs. cs ++ changing given e.answers.items) first_is;
      reports_are = reports_are;
    }

-- where the run ends
pub ends_so : {E : Type 0} (r : Result Ended E) (p : Setting) (before : Journal) (arrivals : List Arrival) (given first listed : List Command) (workers dropped : ℕ) (handed : List HandedIn) (answers : List (Result Accepted Refusal))
    → IfOk r (λ e. AddUpTo p false listed handed e.totals) → IfOk r (λ e. e.totals.compared ≡ true) → HandInArrivals workers arrivals dropped handed → IfOk r (λ e. Lawful e.totals.session.setting e.totals.session.journal)
    → IfOk r (λ e. (e.dropped ≡ dropped) × (e.answers.items ≡ answers)) → HaveAnswers first given listed answers → first ≡ commands_of before → IfOk r (λ e. e.reports.items ≡ reports_of e.totals.session.journal)
    → IfOk r (λ e. RunsTo p before arrivals given workers e)
ends_so (Ok e) p before arrivals given first listed workers dropped handed answers add_up compared hand_in lawful rest have first_is reports_are =
    runs_to p before arrivals given first listed workers dropped handed e add_up compared hand_in lawful rest.0
    (subst (λ (xs : List (Result Accepted Refusal)). HaveAnswers first given listed xs) (sym rest.1) have) first_is reports_are
ends_so (Err f) p before arrivals given first listed workers dropped handed answers add_up compared hand_in lawful rest have first_is reports_are = tt
