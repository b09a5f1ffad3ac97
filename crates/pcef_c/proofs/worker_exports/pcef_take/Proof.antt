use Rattle.pcef_c.proofs.Steps.{ℕ, List, [], ◌∷◌, ◌++◌, refl, w64, Bor, MutBor, proved, full_share, id⊢, sep, ftrue, flft, flent, named, vptr, WpFn, fact, tables, sem, Body, lft_new, lft_end, ‵, raw, ◌⊛◌, some, later, prop, ◌$◌, ◌∵◌, !, qed, done, move, keep, use1, use3, split, split3, join, fsplit, fsplit3, fjoin, feq_l, pick, await, regoal, show, suffices, frame, group, enter, of_opd, addr, stop, no_more, and_then, returns, alloc_all, pass_all, free_all, look_at, get, get_in, look_in_at, from, fld, hop, sub, whole, agg, through, sets, lands_as, usize, yes, Is, shows, lends_ref, ref_back, mem, uint_Lawful, Ptr, RawPtr, block_ptr, in_a_block, rawptr_vals, rawptr_Tells, MutRef, plain, nothing, heard, peeks, calls_at, Lasts, lasts, triple_of, Stays, walk_of, says, stay_dropped, Goes-dropped, ends_at, framed, ShrSlice, MutSlice, shr_slice_vals, mut_slice_vals, shr_slice_Tells, mut_slice_Tells, shr_slice_of, named_lft, gave_slice, Goes-gave_slice}
use Rattle.pcef_c.specs.Handles.{worker_lies}
use Rattle.pcef_c.specs.Taking.{TakesAll}
use Rattle.pcef_c.specs.declared.judging.CPacket.{CPacket}
use Rattle.pcef_c.specs.declared.judging.CVerdict.{CVerdict}
use Rattle.pcef_c.specs.contracts.judging.CPacket.{the_row as P-of}
use Rattle.pcef_c.specs.contracts.judging.CVerdict.{the_row as V}
use Rattle.pcef_handle.specs.declared.worker.WorkerHandle.{WorkerHandle}
use Rattle.pcef_handle.specs.contracts.worker.WorkerHandle.{the_row as R}
use Rattle.pcef_c.specs.contracts.worker_exports.pcef_take as f
use Rattle.pcef_c.proofs.worker_exports.pcef_take.Statement.{statement}
use Rattle.pcef_c.proofs.worker_exports.pcef_take.Code as code
use Rattle.pcef_c.specs.contracts.taking.take_all as g
use Rattle.pcef_c.proofs.taking.take_all.Met.{met}

abbrev stayed : Stays f.ended.signature.params f.ended.kept
stayed = (stay_dropped _ yes, (stay_dropped _ yes, (gave_slice (2 ∷ []) tt (plain (λ _. V)), tt)))

pub pcef_take_spec : {M : Type 1} → statement M
pcef_take_spec 𝓤 𝓛 𝓜 𝓡 wired =
    let c = f.clauses 𝓛 𝓜.mem 𝓡.returns in let W = walk_of 𝓛 f.ended stayed c in let 𝓣 = tables 𝓤 𝓛.H 𝓜 𝓡 𝓡.env in
    proved 𝓛 f.ended stayed c 𝓜 𝓡 (Goes-dropped 𝓛 3 (plain (λ _. RawPtr)) yes (λ κs x w. refl), (Goes-dropped 𝓛 3 (shr_slice_of (0 ∷ []) tt (plain (λ κs. P-of (named_lft 3 1 tt κs)))) yes (λ κs x w. refl), (Goes-gave_slice 𝓛 3 2 tt (plain (λ _. V)), tt)))
    f.Key.name code.function (code.unfolded 𝓤 𝓛.H 𝓜 𝓡 wired)
    (λ κs. (rawptr_vals, (shr_slice_vals, (mut_slice_vals, tt)))) (λ κs. (rawptr_Tells, (shr_slice_Tells (named 0) κs.0 (P-of (named_lft 3 1 tt κs)), (mut_slice_Tells (named 2) κs.1.1.0 V, tt)))) (λ κs qs bounds a old are.
    let κ = κs.0 in let q = qs.0 in let κ' = κs.1.0 in let q' = qs.1.0 in let κ'' = κs.1.1.0 in let q'' = qs.1.1.0 in
    let P = P-of (named_lft 3 1 tt κs) in let s : Bor (List CPacket) = a.1.0 in let m : MutBor (List CVerdict) = a.1.1.0 in
    let y : Ptr → W.Ghost = λ p. ((κs, qs, bounds, (p, (s, (m, tt))), (rawptr_vals p, (shr_slice_vals s, (mut_slice_vals m, tt)))), old) in
    qed 𝓛 (((‵ (flft κ q) ⊛ ‵ (flft κ' q') ⊛ ‵ (flft κ'' q'') ⊛ ‵ ftrue) ⊛ ‵ (RawPtr.own_val a.0 (rawptr_vals a.0)) ⊛ ‵ ((ShrSlice (named 0) κ P).own_val s (shr_slice_vals s)) ⊛ ‵ ((MutSlice (named 2) κ'' V).own_val m (mut_slice_vals m)) ⊛ ‵ ftrue) ∷ ‵ (worker_lies a.0 old) ∷ []) ∵
    split ! $ split3 ! $ move ! (2 ∷ []) $ split ! $ move ! (4 ∷ []) $ split3 ! $ move ! (2 ∷ []) $ split ! $
    -- [the verdicts; nothing; the pointer; the packets; the token of κ''; nothing; those of κ and κ'; the worker]
    keep ! (8 ∷ 3 ∷ 0 ∷ 6 ∷ 7 ∷ 4 ∷ []) $
    in_a_block ! a.0 (λ p. worker_lies p old) (id⊢ 𝓤 _) (λ b o e.
    regoal ! (λ p. prop (WpFn 𝓤 𝓛.H 𝓣.C 𝓣.Λ code.function (rawptr_vals p ++ (shr_slice_vals s ++ (mut_slice_vals m ++ []))) (W.post (y p)))) e refl $
    enter ! _ _ _ _ _ $ alloc_all ! (λ l. pass_all ! refl ((tt, tt), ((tt, (tt, (record { fits = are.1.0.0.1.0 }, tt))), ((tt, (tt, (record { fits = are.1.1.0.0.1.0 }, tt))), tt))) $
    -- [the worker; the packets; the verdicts; the tokens of κ, κ' and κ''; the locals]
    -- the verdicts' slice is taken apart and put together
    sets ! (addr ! (from ! (fld ! refl (hop ! (look_in_at ! 3 (sub ! 0 refl (whole !))) (stop !))))) refl (tt, tt) $
    sets ! (agg ! (and_then ! (get ! refl) (and_then ! (get_in ! (fld ! refl (stop !)) (sub ! 1 refl (whole !))) (no_more !)))) refl (tt, (tt, (record { fits = are.1.1.0.0.1.0 }, tt))) $
    sets ! (of_opd ! (get ! refl)) refl (tt, tt) $ sets ! (addr ! (through ! refl (stop !))) refl (tt, tt) $
    lft_new ! tt (λ α. move ! (1 ∷ []) $
    use1 𝓛 (later (some (λ (γ : ℕ). ‵ ((MutRef (named 3) (α ∷ []) R).own_val (record { ref_ptr = (b, o); ghost_name = γ; now = old }) (vptr b o ∷ [])) ⊛ ‵ (flent (α ∷ []) (Body (mem R) b o γ)))))
    (lends_ref 𝓛 R (named 3) (α ∷ []) old b o) $ await ! tt $ pick ! (λ γ. split ! $
    -- [the loan; the lender's part; the token of α; the packets; the verdicts; the tokens of κ, κ' and κ'']
    let G = triple_of 𝓛 g.signature (g.spec 𝓛 𝓜.mem 𝓡.returns) in
    let r : MutBor WorkerHandle = record { ref_ptr = (b, o); ghost_name = γ; now = old } in
    let z : G.Ghost = (((κ, (κ', (κ'', (α ∷ [], tt)))), (q, (q', (q'', (full_share, tt)))), bounds, (s, (m, (r, tt))), (shr_slice_vals s, (mut_slice_vals m, (vptr b o ∷ [], tt)))), tt) in
    nothing ! $ move ! (1 ∷ 0 ∷ []) $ fjoin ! $ move ! (4 ∷ 0 ∷ []) $ fjoin ! $ move ! (3 ∷ 0 ∷ []) $ fjoin ! $
    -- [the parameters; the lender's part; the token of α; the tokens of κ, κ' and κ'']
    nothing ! $ move ! (3 ∷ 0 ∷ []) $ join ! $ move ! (5 ∷ 0 ∷ []) $ join ! $ move ! (4 ∷ 0 ∷ []) $ join ! $ move ! (3 ∷ 0 ∷ []) $ join ! $ join ! $ nothing ! $ move ! (1 ∷ 0 ∷ []) $ join ! $ use1 𝓛 (raw (G.pre z)) (id⊢ 𝓤 _) $
    calls_at ! (framed 𝓤 𝓛.H 𝓜 𝓣) G (met 𝓤 𝓛 𝓜 𝓡 (code.calls-pcef_c::taking::take_all 𝓡.env wired)) z
    (and_then ! (get ! refl) (and_then ! (get ! refl) (and_then ! (get ! refl) (no_more !)))) (λ v.
    use1 𝓛 (later (some (λ (u : ℕ). ((‵ (flft κ q) ⊛ ‵ (flft κ' q') ⊛ ‵ (flft κ'' q'') ⊛ ‵ (flft (α ∷ []) full_share) ⊛ ‵ ftrue) ⊛ ‵ (usize.own_val u (v ∷ []))) ⊛
    some (λ (ws : Lasts g.ended z.0.0 z.0.3). ‵ (lasts g.ended z.0.0 z.0.3 ws) ⊛ raw (fact 𝓤 (TakesAll s.now m.now old u ws.1.0 ws.1.1.0)))))) (id⊢ 𝓤 _) $
    await ! tt $ pick ! (λ u. split ! $ split ! $ split3 ! $ move ! (2 ∷ []) $ split3 ! $ move ! (1 ∷ []) $ lft_end ! tt $ move ! (6 ∷ []) $ pick ! (λ ws. split ! $ move ! (1 ∷ []) $ heard ! _ (λ told.
    fsplit3 ! $ move ! (2 ∷ []) $ fsplit ! $ fsplit ! $
    -- [the last value; its borrow; nothing; nothing; the verdicts'; α is over; the token of κ''; nothing; those of κ and κ'; the result; the lender's part]
    move ! (5 ∷ 11 ∷ 0 ∷ []) $ use3 𝓛 (later (‵ ((mem R).own_at ws.1.1.0 b o))) (ref_back 𝓛 R (α ∷ []) γ ws.1.1.0 b o) $ await ! tt $
    -- [the worker; its borrow; nothing; nothing; the verdicts'; the token of κ''; nothing; those of κ and κ'; the result]
    move ! (4 ∷ []) $ fsplit ! $ fsplit ! $ move ! (1 ∷ []) $ feq_l ! (λ len. fjoin ! $
    -- [the verdicts' last; the worker; its borrow; nothing; nothing; the token of κ''; nothing; those of κ and κ'; the result]
    move ! (9 ∷ []) $ peeks ! usize (Is usize) (shows 𝓛 usize) u (v ∷ []) (λ is. lands_as ! refl refl ((uint_Lawful 𝓛 w64).typed u _ is).0 $
    returns ! (look_at ! 0 refl) $ free_all ! refl $ keep ! (0 ∷ 1 ∷ 2 ∷ 8 ∷ 9 ∷ 6 ∷ 7 ∷ []) $
    suffices ! _ (ends_at 𝓛 f.ended stayed c (y (block_ptr b o)) v u (tt, (tt, (ws.1.0, tt))) (tt, (tt, (len, tt)))) $
    nothing ! $ move ! (2 ∷ 0 ∷ []) $ join ! $ nothing ! $ join ! $ nothing ! $ join ! $
    -- [the parameters; the result; the worker; the tokens of κ, κ' and κ''; nothing]
    move ! (5 ∷ 6 ∷ []) $ join ! $ move ! (5 ∷ 0 ∷ []) $ join ! $ move ! (4 ∷ 0 ∷ []) $ join ! $ group ! 3 $ frame ! $
    show ! (λ (new : WorkerHandle). sep 𝓤 (sem 𝓛 (worker_lies (block_ptr b o) new)) (fact 𝓤 (TakesAll s.now m.now old u ws.1.0 new))) ws.1.1.0 $ says ! told $ done !)))))))))))
