use Rattle.pcef_c.proofs.Steps.{ℕ, List, [], ◌∷◌, ◌++◌, refl, w8, Bor, MutBor, proved, full_share, id⊢, sep, ftrue, flft, flent, named, vptr, WpFn, fact, tables, sem, Body, lft_new, lft_end, ‵, raw, ◌⊛◌, some, later, prop, ◌$◌, ◌∵◌, !, qed, done, move, keep, use1, use3, split, split3, join, fsplit, fjoin, pick, await, regoal, show, suffices, frame, group, enter, of_opd, addr, stop, no_more, and_then, returns, alloc_all, pass_all, free_all, look_at, get, through, sets, lands_as, u8, yes, Is, shows, lends_ref, ref_back, mem, uint_vals, uint_Tells, uint_Makes, uint_Lawful, Ptr, RawPtr, block_ptr, in_a_block, rawptr_vals, rawptr_Tells, MutRef, plain, nothing, owned, heard, peeks, calls_at, Lasts, lasts, triple_of, Stays, walk_of, says, stay_dropped, Goes-dropped, ends_at, framed, ShrSlice, shr_slice_vals, shr_slice_Tells, shr_slice_of}
use Rattle.pcef_c.specs.Handles.{lies}
use Rattle.pcef_c.specs.GxCalls.{NoticeReturns}
use Rattle.pcef_handle.specs.declared.held.Handle.{Handle}
use Rattle.pcef_handle.specs.contracts.held.Handle.{the_row as R}
use Rattle.pcef_c.specs.contracts.gx_exports.pcef_gx_notice as f
use Rattle.pcef_c.proofs.gx_exports.pcef_gx_notice.Statement.{statement}
use Rattle.pcef_c.proofs.gx_exports.pcef_gx_notice.Code as code
use Rattle.pcef_c.specs.contracts.gx_calls.notice_event as g
use Rattle.pcef_c.proofs.gx_calls.notice_event.Met.{met}

abbrev stayed : Stays f.ended.signature.params f.ended.kept
stayed = (stay_dropped _ yes, (stay_dropped _ yes, (stay_dropped _ yes, tt)))

pub pcef_gx_notice_spec : {M : Type 1} → statement M
pcef_gx_notice_spec 𝓤 𝓛 𝓜 𝓡 wired =
    let c = f.clauses 𝓛 𝓜.mem 𝓡.returns in let W = walk_of 𝓛 f.ended stayed c in let 𝓣 = tables 𝓤 𝓛.H 𝓜 𝓡 𝓡.env in
    proved 𝓛 f.ended stayed c 𝓜 𝓡 (Goes-dropped 𝓛 1 (plain (λ _. RawPtr)) yes (λ κs x w. refl), (Goes-dropped 𝓛 1 (plain (λ _. u8)) yes (λ κs x w. refl), (Goes-dropped 𝓛 1 (shr_slice_of (0 ∷ []) tt (plain (λ _. u8))) yes (λ κs x w. refl), tt)))
    f.Key.name code.function (code.unfolded 𝓤 𝓛.H 𝓜 𝓡 wired)
    (λ κs. (rawptr_vals, (uint_vals w8, (shr_slice_vals, tt)))) (λ κs. (rawptr_Tells, (uint_Tells w8, (shr_slice_Tells (named 0) κs.0 u8, tt)))) (λ κs qs bounds a old are.
    let κ = κs.0 in let q = qs.0 in let n : ℕ = a.1.0 in let s : Bor (List ℕ) = a.1.1.0 in
    let y : Ptr → W.Ghost = λ p. ((κs, qs, bounds, (p, (n, (s, tt))), (rawptr_vals p, (uint_vals w8 n, (shr_slice_vals s, tt)))), old) in
    qed 𝓛 (((‵ (flft κ q) ⊛ ‵ ftrue) ⊛ ‵ (RawPtr.own_val a.0 (rawptr_vals a.0)) ⊛ ‵ (u8.own_val n (uint_vals w8 n)) ⊛ ‵ ((ShrSlice (named 0) κ u8).own_val s (shr_slice_vals s)) ⊛ ‵ ftrue) ∷ ‵ (lies a.0 old) ∷ []) ∵
    split ! $ split ! $ move ! (2 ∷ []) $ split3 ! $ move ! (2 ∷ []) $ split ! $
    -- [the slice; nothing; the pointer; the number; the token of κ; nothing; the handle]
    keep ! (6 ∷ 0 ∷ 4 ∷ []) $
    in_a_block ! a.0 (λ p. lies p old) (id⊢ 𝓤 _) (λ b o e.
    regoal ! (λ p. prop (WpFn 𝓤 𝓛.H 𝓣.C 𝓣.Λ code.function (rawptr_vals p ++ (uint_vals w8 n ++ (shr_slice_vals s ++ []))) (W.post (y p)))) e refl $
    enter ! _ _ _ _ _ $ alloc_all ! (λ l. pass_all ! refl ((tt, tt), ((tt, record { fits = are.1.0.1 }), ((tt, (tt, (record { fits = are.1.1.0.0.1.0 }, tt))), tt))) $
    -- [the handle; the slice; the token of κ; the locals]
    sets ! (of_opd ! (get ! refl)) refl (tt, tt) $ sets ! (addr ! (through ! refl (stop !))) refl (tt, tt) $
    lft_new ! tt (λ α. move ! (1 ∷ []) $
    use1 𝓛 (later (some (λ (γ : ℕ). ‵ ((MutRef (named 0) (α ∷ []) R).own_val (record { ref_ptr = (b, o); ghost_name = γ; now = old }) (vptr b o ∷ [])) ⊛ ‵ (flent (α ∷ []) (Body (mem R) b o γ)))))
    (lends_ref 𝓛 R (named 0) (α ∷ []) old b o) $ await ! tt $ pick ! (λ γ. split ! $
    -- [the loan; the lender's part; the token of α; the slice; the token of κ]
    let G = triple_of 𝓛 g.signature (g.spec 𝓛 𝓜.mem 𝓡.returns) in
    let r : MutBor Handle = record { ref_ptr = (b, o); ghost_name = γ; now = old } in
    let z : G.Ghost = (((α ∷ [], (κ, tt)), (full_share, (q, tt)), tt, (r, (n, (s, tt))), (vptr b o ∷ [], (uint_vals w8 n, (shr_slice_vals s, tt)))), tt) in
    nothing ! $ move ! (4 ∷ 0 ∷ []) $ fjoin ! $ owned ! u8 (Is u8) (uint_Makes 𝓛 w8) n _ (refl, are.1.0.1) $ fjoin ! $ move ! (1 ∷ 0 ∷ []) $ fjoin ! $
    nothing ! $ move ! (4 ∷ 0 ∷ []) $ join ! $ move ! (3 ∷ 0 ∷ []) $ join ! $ join ! $ nothing ! $ move ! (1 ∷ 0 ∷ []) $ join ! $ use1 𝓛 (raw (G.pre z)) (id⊢ 𝓤 _) $
    calls_at ! (framed 𝓤 𝓛.H 𝓜 𝓣) G (met 𝓤 𝓛 𝓜 𝓡 (code.calls-pcef_c::gx_calls::notice_event 𝓡.env wired)) z
    (and_then ! (get ! refl) (and_then ! (get ! refl) (and_then ! (get ! refl) (no_more !)))) (λ v.
    use1 𝓛 (later (some (λ (u : ℕ). ((‵ (flft (α ∷ []) full_share) ⊛ ‵ (flft κ q) ⊛ ‵ ftrue) ⊛ ‵ (u8.own_val u (v ∷ []))) ⊛
    some (λ (ws : Lasts g.ended z.0.0 z.0.3). ‵ (lasts g.ended z.0.0 z.0.3 ws) ⊛ raw (fact 𝓤 (NoticeReturns old n s.now ws.0 u)))))) (id⊢ 𝓤 _) $
    await ! tt $ pick ! (λ u. split ! $ split ! $ split3 ! $ lft_end ! tt $ move ! (4 ∷ []) $ pick ! (λ ws. split ! $ move ! (1 ∷ []) $ heard ! _ (λ told.
    fsplit ! $ fsplit ! $
    -- [the last value; its borrow; nothing; α is over; the token of κ; nothing; the result; the lender's part]
    move ! (3 ∷ 7 ∷ 0 ∷ []) $ use3 𝓛 (later (‵ ((mem R).own_at ws.0 b o))) (ref_back 𝓛 R (α ∷ []) γ ws.0 b o) $ await ! tt $
    move ! (5 ∷ []) $ peeks ! u8 (Is u8) (shows 𝓛 u8) u (v ∷ []) (λ is. lands_as ! refl refl ((uint_Lawful 𝓛 w8).typed u _ is).0 $
    returns ! (look_at ! 0 refl) $ free_all ! refl $ keep ! (0 ∷ 1 ∷ 4 ∷ []) $
    suffices ! _ (ends_at 𝓛 f.ended stayed c (y (block_ptr b o)) v u (tt, (tt, (tt, tt))) (tt, (tt, (tt, tt)))) $
    nothing ! $ nothing ! $ join ! $ nothing ! $ join ! $ nothing ! $ join ! $ nothing ! $ move ! (4 ∷ 0 ∷ []) $ join ! $ group ! 3 $ frame ! $
    show ! (λ (new : Handle). sep 𝓤 (sem 𝓛 (lies (block_ptr b o) new)) (fact 𝓤 (NoticeReturns old n s.now new u))) ws.0 $ says ! told $ done !))))))))))
