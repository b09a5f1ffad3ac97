use Rattle.pcef_c.proofs.Steps.{ℕ, List, [], ◌∷◌, ◌++◌, refl, w64, MutBor, proved, full_share, id⊢, sep, ftrue, flft, flent, named, vptr, WpFn, fact, tables, sem, Body, lft_new, lft_end, ‵, raw, ◌⊛◌, some, later, prop, ◌$◌, ◌∵◌, !, qed, done, move, keep, use1, use3, split, split3, join, fsplit, fjoin, feq_l, pick, await, regoal, show, suffices, frame, group, enter, of_opd, addr, stop, no_more, and_then, returns, alloc_all, pass_all, free_all, look_at, get, get_in, look_in_at, from, fld, hop, sub, whole, agg, through, sets, lands_as, u8, usize, yes, Is, shows, lends_ref, ref_back, mem, uint_Lawful, Ptr, RawPtr, block_ptr, in_a_block, rawptr_vals, rawptr_Tells, MutRef, plain, nothing, heard, peeks, calls_at, Lasts, lasts, triple_of, Stays, walk_of, says, stay_dropped, Goes-dropped, ends_at, framed, MutSlice, mut_slice_vals, mut_slice_Tells, gave_slice, Goes-gave_slice}
use Rattle.pcef_c.specs.Handles.{lies}
use Rattle.pcef_c.specs.Calls.{RenewReturns}
use Rattle.pcef_handle.specs.declared.held.Handle.{Handle}
use Rattle.pcef_handle.specs.contracts.held.Handle.{the_row as R}
use Rattle.pcef_c.specs.contracts.exports.pcef_renew as f
use Rattle.pcef_c.proofs.exports.pcef_renew.Statement.{statement}
use Rattle.pcef_c.proofs.exports.pcef_renew.Code as code
use Rattle.pcef_c.specs.contracts.calls.renew as g
use Rattle.pcef_c.proofs.calls.renew.Met.{met}

abbrev stayed : Stays f.ended.signature.params f.ended.kept
stayed = (stay_dropped _ yes, (gave_slice (0 ∷ []) tt (plain (λ _. u8)), tt))

pub pcef_renew_spec : {M : Type 1} → statement M
pcef_renew_spec 𝓤 𝓛 𝓜 𝓡 wired =
    let c = f.clauses 𝓛 𝓜.mem 𝓡.returns in let W = walk_of 𝓛 f.ended stayed c in let 𝓣 = tables 𝓤 𝓛.H 𝓜 𝓡 𝓡.env in
    proved 𝓛 f.ended stayed c 𝓜 𝓡 (Goes-dropped 𝓛 1 (plain (λ _. RawPtr)) yes (λ κs x w. refl), (Goes-gave_slice 𝓛 1 0 tt (plain (λ _. u8)), tt))
    f.Key.name code.function (code.unfolded 𝓤 𝓛.H 𝓜 𝓡 wired)
    (λ κs. (rawptr_vals, (mut_slice_vals, tt))) (λ κs. (rawptr_Tells, (mut_slice_Tells (named 0) κs.0 u8, tt))) (λ κs qs bounds a old are.
    let κ' = κs.0 in let q' = qs.0 in let m : MutBor (List ℕ) = a.1.0 in
    let y : Ptr → W.Ghost = λ p. ((κs, qs, bounds, (p, (m, tt)), (rawptr_vals p, (mut_slice_vals m, tt))), old) in
    qed 𝓛 (((‵ (flft κ' q') ⊛ ‵ ftrue) ⊛ ‵ (RawPtr.own_val a.0 (rawptr_vals a.0)) ⊛ ‵ ((MutSlice (named 0) κ' u8).own_val m (mut_slice_vals m)) ⊛ ‵ ftrue) ∷ ‵ (lies a.0 old) ∷ []) ∵
    split ! $ split ! $ move ! (2 ∷ []) $ split3 ! $
    -- [the handle; the out slice; the token of κ']
    keep ! (5 ∷ 1 ∷ 3 ∷ []) $
    in_a_block ! a.0 (λ p. lies p old) (id⊢ 𝓤 _) (λ b o e.
    regoal ! (λ p. prop (WpFn 𝓤 𝓛.H 𝓣.C 𝓣.Λ code.function (rawptr_vals p ++ (mut_slice_vals m ++ [])) (W.post (y p)))) e refl $
    enter ! _ _ _ _ _ $ alloc_all ! (λ l. pass_all ! refl ((tt, tt), ((tt, (tt, (record { fits = are.1.0.0.1.0 }, tt))), tt)) $
    -- [the handle; the slice; the out slice; the tokens of κ and κ'; the locals]
    sets ! (of_opd ! (get ! refl)) refl (tt, tt) $ sets ! (addr ! (through ! refl (stop !))) refl (tt, tt) $
    -- the out slice is taken apart and put together
    sets ! (addr ! (from ! (fld ! refl (hop ! (look_in_at ! 2 (sub ! 0 refl (whole !))) (stop !))))) refl (tt, tt) $
    sets ! (agg ! (and_then ! (get ! refl) (and_then ! (get_in ! (fld ! refl (stop !)) (sub ! 1 refl (whole !))) (no_more !)))) refl (tt, (tt, (record { fits = are.1.0.0.1.0 }, tt))) $
    lft_new ! tt (λ α. move ! (1 ∷ []) $
    use1 𝓛 (later (some (λ (γ : ℕ). ‵ ((MutRef (named 0) (α ∷ []) R).own_val (record { ref_ptr = (b, o); ghost_name = γ; now = old }) (vptr b o ∷ [])) ⊛ ‵ (flent (α ∷ []) (Body (mem R) b o γ)))))
    (lends_ref 𝓛 R (named 0) (α ∷ []) old b o) $ await ! tt $ pick ! (λ γ. split ! $
    -- [the loan; the lender's part; the token of α; the out slice; the token of κ']
    let G = triple_of 𝓛 g.signature (g.spec 𝓛 𝓜.mem 𝓡.returns) in
    let r : MutBor Handle = record { ref_ptr = (b, o); ghost_name = γ; now = old } in
    let z : G.Ghost = (((α ∷ [], (κ', tt)), (full_share, (q', tt)), tt, (r, (m, tt)), (vptr b o ∷ [], (mut_slice_vals m, tt))), tt) in
    nothing ! $ move ! (4 ∷ 0 ∷ []) $ fjoin ! $ move ! (1 ∷ 0 ∷ []) $ fjoin ! $
    nothing ! $ move ! (4 ∷ 0 ∷ []) $ join ! $ move ! (3 ∷ 0 ∷ []) $ join ! $ join ! $ nothing ! $ move ! (1 ∷ 0 ∷ []) $ join ! $ use1 𝓛 (raw (G.pre z)) (id⊢ 𝓤 _) $
    calls_at ! (framed 𝓤 𝓛.H 𝓜 𝓣) G (met 𝓤 𝓛 𝓜 𝓡 (code.calls-pcef_c::calls::renew 𝓡.env wired)) z
    (and_then ! (get ! refl) (and_then ! (get ! refl) (no_more !))) (λ v.
    use1 𝓛 (later (some (λ (u : ℕ). ((‵ (flft (α ∷ []) full_share) ⊛ ‵ (flft κ' q') ⊛ ‵ ftrue) ⊛ ‵ (usize.own_val u (v ∷ []))) ⊛
    some (λ (ws : Lasts g.ended z.0.0 z.0.3). ‵ (lasts g.ended z.0.0 z.0.3 ws) ⊛ raw (fact 𝓤 (RenewReturns old m.now ws.0 ws.1.0 u)))))) (id⊢ 𝓤 _) $
    await ! tt $ pick ! (λ u. split ! $ split ! $ split3 ! $ lft_end ! tt $ move ! (4 ∷ []) $ pick ! (λ ws. split ! $ move ! (1 ∷ []) $ heard ! _ (λ told.
    fsplit ! $ fsplit ! $
    -- [the last value; its borrow; the out slice's; α is over; the token of κ'; nothing; the result; the lender's part]
    move ! (3 ∷ 7 ∷ 0 ∷ []) $ use3 𝓛 (later (‵ ((mem R).own_at ws.0 b o))) (ref_back 𝓛 R (α ∷ []) γ ws.0 b o) $ await ! tt $
    -- [the handle; its borrow; the out slice's; the token of κ'; nothing; the result]
    move ! (2 ∷ []) $ fsplit ! $ fsplit ! $ fsplit ! $ move ! (1 ∷ []) $ feq_l ! (λ len. fjoin ! $
    -- [the out slice's last; nothing; the handle; its borrow; the token of κ'; nothing; the result]
    move ! (6 ∷ []) $ peeks ! usize (Is usize) (shows 𝓛 usize) u (v ∷ []) (λ is. lands_as ! refl refl ((uint_Lawful 𝓛 w64).typed u _ is).0 $
    returns ! (look_at ! 0 refl) $ free_all ! refl $ keep ! (0 ∷ 1 ∷ 3 ∷ 5 ∷ 6 ∷ []) $
    suffices ! _ (ends_at 𝓛 f.ended stayed c (y (block_ptr b o)) v u (tt, (ws.1.0, tt)) (tt, (len, tt))) $
    nothing ! $ move ! (2 ∷ 0 ∷ []) $ join ! $ nothing ! $ join ! $
    -- [the parameters; the result; the handle; the token of κ'; nothing]
    move ! (3 ∷ 4 ∷ []) $ join ! $ group ! 3 $ frame ! $
    show ! (λ (new : Handle). sep 𝓤 (sem 𝓛 (lies (block_ptr b o) new)) (fact 𝓤 (RenewReturns old m.now new ws.1.0 u))) ws.0 $ says ! told $ done !)))))))))))
