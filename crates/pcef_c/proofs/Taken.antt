-- Packets that are taken one after the other.
use Rattle.std.proofs.Common.{◌≡◌, ◌∙◌, ◌<◌, ◌≤◌, ◌+◌, ◌++◌, ◌∷◌, ◌⊎◌, [], ℕ, suc, List, true, false, arith, ap, inl, inr, drop, get_or, length, refl, set, subst, sym, take}
use Rattle.std.specs.Prelude.{min}
use Rattle.std.proofs.lemmas.Bool.{cases_lt}
use Rattle.std.proofs.lemmas.List.{append_assoc, drop-set-lt, drop_all, drop_more, length-set, set_split, take-append-drop, take_more_set}
use Rattle.pcef_handle.specs.declared.worker.WorkerHandle.{WorkerHandle}
use Rattle.pcef_c.specs.Taking.{Goes, IsPacketTaken, TakesAll, ends_taking}
use Rattle.pcef_c.specs.declared.judging.CPacket.{CPacket}
use Rattle.pcef_c.specs.declared.judging.CVerdict.{CVerdict}

-- the packets below a place are taken: what the rest comes to is what all come to
pub record GoOnFrom (packets : List CPacket) (before : List CVerdict) (old : WorkerHandle) (place : ℕ) (now : List CVerdict) (worker : WorkerHandle) : Type 0 where
  pub length_is : length now ≡ length before
  pub rest_is : drop place now ≡ drop place before
  pub comes_to : (number : ℕ) (rest : List CVerdict) (new : WorkerHandle) → TakesAll (drop place packets) (drop place before) worker number rest new →
      TakesAll packets before old (place + number) (take place now ++ rest) new

pub go_on_from_start : (packets : List CPacket) (before : List CVerdict) (old : WorkerHandle) → GoOnFrom packets before old 0 before old
go_on_from_start packets before old = record {
  length_is = refl;
  rest_is = refl;
  comes_to = λ number rest new takes. let same : number ≡ 0 + number = omega arith in subst (λ n. TakesAll packets before old n rest new) same takes;
}

-- one more is taken, and its verdict doesn't end the taking
pub go_on : (packets : List CPacket) (before now : List CVerdict) (old worker next : WorkerHandle) (place : ℕ) (d : CPacket) (v : CVerdict) → place < length packets → place < length now →
    IsPacketTaken worker (get_or packets place d) v next → ends_taking v ≡ false → GoOnFrom packets before old place now worker → GoOnFrom packets before old (place + 1) (set now place v) next
go_on packets before now old worker next place d v within inside taken goes so_far =
    let room : place < length before = omega (arith, inside, so_far.length_is) in
    record {
      length_is = length-set now place v ∙ so_far.length_is;
      rest_is = drop-set-lt (place + 1) now place v (omega arith) ∙ rest_behind now before place v inside room so_far.rest_is;
      comes_to = λ number rest new takes.
          let here : TakesAll (get_or packets place d ∷ drop (place + 1) packets) (v ∷ drop (place + 1) before) worker (number + 1) (v ∷ rest) new =
          (v, next, taken, subst (λ b. Goes b (TakesAll (drop (place + 1) packets) (drop (place + 1) before) next) next v (drop (place + 1) before) (number + 1) (v ∷ rest) new) (sym goes) (number, rest, takes, refl, refl)) in
          let there : TakesAll (drop place packets) (drop place before) worker (number + 1) (v ∷ rest) new =
          subst (λ bs. TakesAll (drop place packets) bs worker (number + 1) (v ∷ rest) new) (sym (drop_more before place v room))
          (subst (λ ps. TakesAll ps (get_or before place v ∷ drop (place + 1) before) worker (number + 1) (v ∷ rest) new) (sym (drop_more packets place d within)) here) in
          let all = so_far.comes_to (number + 1) (v ∷ rest) new there in
          let count : place + (number + 1) ≡ place + 1 + number = omega arith in
          let verdicts : take place now ++ (v ∷ rest) ≡ take (place + 1) (set now place v) ++ rest =
          sym (append_assoc (take place now) (v ∷ []) rest) ∙ ap (λ vs. vs ++ rest) (sym (take_more_set now place v inside)) in
          subst (λ vs. TakesAll packets before old (place + 1 + number) vs new) verdicts (subst (λ n. TakesAll packets before old n (take place now ++ (v ∷ rest)) new) count all);
    }
  where
    rest_behind : (now before : List CVerdict) (place : ℕ) (v : CVerdict) → place < length now → place < length before → drop place now ≡ drop place before → drop (place + 1) now ≡ drop (place + 1) before
    rest_behind now before place v inside room same =
        let both : get_or now place v ∷ drop (place + 1) now ≡ get_or before place v ∷ drop (place + 1) before = sym (drop_more now place v inside) ∙ same ∙ drop_more before place v room in
        ap (λ (vs : List CVerdict). drop 1 vs) both

-- its verdict ends the taking
pub end_here : (packets : List CPacket) (before now : List CVerdict) (old worker next : WorkerHandle) (place : ℕ) (d : CPacket) (v : CVerdict) → place < length packets → place < length now →
    IsPacketTaken worker (get_or packets place d) v next → ends_taking v ≡ true → GoOnFrom packets before old place now worker → TakesAll packets before old place (set now place v) next
end_here packets before now old worker next place d v within inside taken ends so_far =
    let room : place < length before = omega (arith, inside, so_far.length_is) in
    let here : TakesAll (get_or packets place d ∷ drop (place + 1) packets) (get_or before place v ∷ drop (place + 1) before) worker 0 (v ∷ drop (place + 1) before) next =
    (v, next, taken, subst (λ b. Goes b (TakesAll (drop (place + 1) packets) (drop (place + 1) before) next) next v (drop (place + 1) before) 0 (v ∷ drop (place + 1) before) next) (sym ends) (refl, refl, refl)) in
    let there : TakesAll (drop place packets) (drop place before) worker 0 (v ∷ drop (place + 1) before) next =
    subst (λ bs. TakesAll (drop place packets) bs worker 0 (v ∷ drop (place + 1) before) next) (sym (drop_more before place v room))
    (subst (λ ps. TakesAll ps (get_or before place v ∷ drop (place + 1) before) worker 0 (v ∷ drop (place + 1) before) next) (sym (drop_more packets place d within)) here) in
    let all = so_far.comes_to 0 (v ∷ drop (place + 1) before) next there in
    let count : place + 0 ≡ place = omega arith in
    let rest : drop (place + 1) before ≡ drop (place + 1) now = sym (rest_same so_far.rest_is room) in
    let verdicts : take place now ++ (v ∷ drop (place + 1) before) ≡ set now place v =
    ap (λ vs. take place now ++ (v ∷ vs)) (rest ∙ drop_suc now place) ∙ sym (set_split now place v inside) in
    subst (λ vs. TakesAll packets before old place vs next) verdicts (subst (λ n. TakesAll packets before old n (take place now ++ (v ∷ drop (place + 1) before)) next) count all)
  where
    rest_same : drop place now ≡ drop place before → place < length before → drop (place + 1) now ≡ drop (place + 1) before
    rest_same same room =
        let both : get_or now place v ∷ drop (place + 1) now ≡ get_or before place v ∷ drop (place + 1) before = sym (drop_more now place v inside) ∙ same ∙ drop_more before place v room in
        ap (λ (vs : List CVerdict). drop 1 vs) both

    drop_suc : (vs : List CVerdict) (n : ℕ) → drop (n + 1) vs ≡ drop (suc n) vs
    drop_suc vs n = let same : n + 1 ≡ suc n = omega arith in ap (λ m. drop m vs) same

-- where no packet is left, or no verdict, nothing more is taken
none_left : (packets : List CPacket) (worker : WorkerHandle) → TakesAll packets [] worker 0 [] worker
none_left [] worker = (refl, refl, refl)
none_left (packet ∷ packets) worker = (refl, refl, refl)

-- all were taken, as many as there are verdicts
pub end_all : (packets : List CPacket) (before now : List CVerdict) (old worker : WorkerHandle) (place : ℕ) → (length packets ≤ place) ⊎ (length before ≤ place) → GoOnFrom packets before old place now worker →
    TakesAll packets before old place now worker
end_all packets before now old worker place past so_far =
    let rest : TakesAll (drop place packets) (drop place before) worker 0 (drop place before) worker =
    elim past [
      | inl no_packet ↦ subst (λ ps. TakesAll ps (drop place before) worker 0 (drop place before) worker) (sym (drop_all place packets no_packet)) (refl, refl, refl)
      | inr no_verdict ↦ subst (λ bs. TakesAll (drop place packets) bs worker 0 bs worker) (sym (drop_all place before no_verdict)) (none_left (drop place packets) worker)
    ] in
    let all = so_far.comes_to 0 (drop place before) worker rest in
    let count : place + 0 ≡ place = omega arith in
    let verdicts : take place now ++ drop place before ≡ now = ap (λ vs. take place now ++ vs) (sym so_far.rest_is) ∙ take-append-drop place now in
    subst (λ vs. TakesAll packets before old place vs worker) verdicts (subst (λ n. TakesAll packets before old n (take place now ++ drop place before) worker) count all)

-- so it is at the lesser of the two counts
pub past_lesser : (a b n : ℕ) → n ≡ min a b → (a ≤ n) ⊎ (b ≤ n)
past_lesser a b n is =
    elim (cases_lt a b) [
      | inl less ↦ inl (omega (arith, is, less))
      | inr more ↦ inr (omega (arith, is, more))
    ]
