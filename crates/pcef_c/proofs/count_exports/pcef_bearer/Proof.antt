use Rattle.pcef_c.proofs.Steps.{ℕ, List, [], ◌∷◌, ◌++◌, refl, w8, w64, MutBor, proved, full_share, id⊢, sep, ftrue, flft, flent, named, vptr, WpFn, fact, tables, sem, Body, lft_new, lft_end, ‵, raw, ◌⊛◌, some, later, prop, ◌$◌, ◌∵◌, !, qed, done, move, keep, use1, use3, split, split3, join, fsplit, fsplit3, fjoin, feq_l, pick, await, regoal, show, suffices, frame, group, enter, of_opd, addr, stop, no_more, and_then, returns, alloc_all, pass_all, free_all, look_at, get, get_in, look_in_at, from, fld, hop, sub, whole, agg, through, sets, lands_as, u8, usize, yes, Is, shows, lends_ref, ref_back, mem, uint_vals, uint_Tells, uint_Makes, uint_Lawful, Ptr, RawPtr, block_ptr, in_a_block, rawptr_vals, rawptr_Tells, MutRef, plain, nothing, owned, heard, peeks, calls_at, Lasts, lasts, triple_of, Stays, walk_of, says, stay_dropped, Goes-dropped, ends_at, framed, mut_vals, mut_Tells, gave_ref, Goes-gave_ref}
use Rattle.pcef_c.specs.Handles.{lies}
use Rattle.pcef_c.specs.Bearers.{BearerReturns}
use Rattle.pcef_c.specs.declared.bearers.CBearer.{CBearer}
use Rattle.pcef_c.specs.contracts.bearers.CBearer.{the_row as V}
use Rattle.pcef_handle.specs.declared.held.Handle.{Handle}
use Rattle.pcef_handle.specs.contracts.held.Handle.{the_row as R}
use Rattle.pcef_c.specs.contracts.count_exports.pcef_bearer as f
use Rattle.pcef_c.proofs.count_exports.pcef_bearer.Statement.{statement}
use Rattle.pcef_c.proofs.count_exports.pcef_bearer.Code as code
use Rattle.pcef_c.specs.contracts.bearers.bearer as g
use Rattle.pcef_c.proofs.bearers.bearer.Met.{met}

abbrev stayed : Stays f.ended.signature.params f.ended.kept
stayed = (stay_dropped _ yes, (stay_dropped _ yes, (gave_ref (0 ∷ []) tt (plain (λ _. V)), tt)))

pub pcef_bearer_spec : {M : Type 1} → statement M
pcef_bearer_spec 𝓤 𝓛 𝓜 𝓡 wired =
    let c = f.clauses 𝓛 𝓜.mem 𝓡.returns in let W = walk_of 𝓛 f.ended stayed c in let 𝓣 = tables 𝓤 𝓛.H 𝓜 𝓡 𝓡.env in
    proved 𝓛 f.ended stayed c 𝓜 𝓡 (Goes-dropped 𝓛 1 (plain (λ _. RawPtr)) yes (λ κs x w. refl), (Goes-dropped 𝓛 1 (plain (λ _. u8)) yes (λ κs x w. refl), (Goes-gave_ref 𝓛 1 0 tt (plain (λ _. V)), tt)))
    f.Key.name code.function (code.unfolded 𝓤 𝓛.H 𝓜 𝓡 wired)
    (λ κs. (rawptr_vals, (uint_vals w8, (mut_vals, tt)))) (λ κs. (rawptr_Tells, (uint_Tells w8, (mut_Tells (named 0) κs.0 V, tt)))) (λ κs qs bounds a old are.
    let κ' = κs.0 in let q' = qs.0 in let n : ℕ = a.1.0 in let m : MutBor CBearer = a.1.1.0 in
    let y : Ptr → W.Ghost = λ p. ((κs, qs, bounds, (p, (n, (m, tt))), (rawptr_vals p, (uint_vals w8 n, (mut_vals m, tt)))), old) in
    qed 𝓛 (((‵ (flft κ' q') ⊛ ‵ ftrue) ⊛ ‵ (RawPtr.own_val a.0 (rawptr_vals a.0)) ⊛ ‵ (u8.own_val n (uint_vals w8 n)) ⊛ ‵ ((MutRef (named 0) κ' V).own_val m (mut_vals m)) ⊛ ‵ ftrue) ∷ ‵ (lies a.0 old) ∷ []) ∵
    split ! $ split ! $ move ! (2 ∷ []) $ split3 ! $ move ! (2 ∷ []) $ split ! $
    -- [the out bearer; nothing; the pointer; the number; the token of κ'; nothing; the handle]
    keep ! (6 ∷ 0 ∷ 4 ∷ []) $
    in_a_block ! a.0 (λ p. lies p old) (id⊢ 𝓤 _) (λ b o e.
    regoal ! (λ p. prop (WpFn 𝓤 𝓛.H 𝓣.C 𝓣.Λ code.function (rawptr_vals p ++ (uint_vals w8 n ++ (mut_vals m ++ []))) (W.post (y p)))) e refl $
    enter ! _ _ _ _ _ $ alloc_all ! (λ l. pass_all ! refl ((tt, tt), ((tt, record { fits = are.1.0.1 }), ((tt, tt), tt))) $
    -- [the handle; the out bearer; the token of κ'; the locals]
    sets ! (of_opd ! (get ! refl)) refl (tt, tt) $ sets ! (addr ! (through ! refl (stop !))) refl (tt, tt) $
    sets ! (addr ! (through ! refl (stop !))) refl (tt, tt) $
    lft_new ! tt (λ α. move ! (1 ∷ []) $
    use1 𝓛 (later (some (λ (γ : ℕ). ‵ ((MutRef (named 0) (α ∷ []) R).own_val (record { ref_ptr = (b, o); ghost_name = γ; now = old }) (vptr b o ∷ [])) ⊛ ‵ (flent (α ∷ []) (Body (mem R) b o γ)))))
    (lends_ref 𝓛 R (named 0) (α ∷ []) old b o) $ await ! tt $ pick ! (λ γ. split ! $
    -- [the loan; the lender's part; the token of α; the out bearer; the token of κ']
    let G = triple_of 𝓛 g.signature (g.spec 𝓛 𝓜.mem 𝓡.returns) in
    let r : MutBor Handle = record { ref_ptr = (b, o); ghost_name = γ; now = old } in
    let z : G.Ghost = (((α ∷ [], (κ', tt)), (full_share, (q', tt)), tt, (r, (n, (m, tt))), (vptr b o ∷ [], (uint_vals w8 n, (mut_vals m, tt)))), tt) in
    nothing ! $ move ! (4 ∷ 0 ∷ []) $ fjoin ! $ owned ! u8 (Is u8) (uint_Makes 𝓛 w8) n _ (refl, are.1.0.1) $ fjoin ! $ move ! (1 ∷ 0 ∷ []) $ fjoin ! $
    -- [the parameters; the lender's part; the token of α; the token of κ']
    nothing ! $ move ! (4 ∷ 0 ∷ []) $ join ! $ move ! (3 ∷ 0 ∷ []) $ join ! $ join ! $ nothing ! $ move ! (1 ∷ 0 ∷ []) $ join ! $ use1 𝓛 (raw (G.pre z)) (id⊢ 𝓤 _) $
    calls_at ! (framed 𝓤 𝓛.H 𝓜 𝓣) G (met 𝓤 𝓛 𝓜 𝓡 (code.calls-pcef_c::bearers::bearer 𝓡.env wired)) z
    (and_then ! (get ! refl) (and_then ! (get ! refl) (and_then ! (get ! refl) (no_more !)))) (λ v.
    use1 𝓛 (later (some (λ (u : ℕ). ((‵ (flft (α ∷ []) full_share) ⊛ ‵ (flft κ' q') ⊛ ‵ ftrue) ⊛ ‵ (u8.own_val u (v ∷ []))) ⊛
    some (λ (ws : Lasts g.ended z.0.0 z.0.3). ‵ (lasts g.ended z.0.0 z.0.3 ws) ⊛ raw (fact 𝓤 (BearerReturns old n m.now ws.0 ws.1.1.0 u)))))) (id⊢ 𝓤 _) $
    await ! tt $ pick ! (λ u. split ! $ split ! $ split3 ! $ lft_end ! tt $ move ! (4 ∷ []) $ pick ! (λ ws. split ! $ move ! (1 ∷ []) $ heard ! _ (λ told.
    fsplit3 ! $ fsplit ! $
    -- [the last value; its borrow; nothing; the out bearer's; α is over; the token of κ'; nothing; the result; the lender's part]
    move ! (4 ∷ 8 ∷ 0 ∷ []) $ use3 𝓛 (later (‵ ((mem R).own_at ws.0 b o))) (ref_back 𝓛 R (α ∷ []) γ ws.0 b o) $ await ! tt $
    -- [the handle; its borrow; nothing; the out bearer's; the token of κ; that of κ' and nothing; the result]
    move ! (3 ∷ []) $ fsplit ! $
    -- [the out bearer's last; nothing; the handle; its borrow; nothing; the token of κ; that of κ' and nothing; the result]
    move ! (7 ∷ []) $ peeks ! u8 (Is u8) (shows 𝓛 u8) u (v ∷ []) (λ is. lands_as ! refl refl ((uint_Lawful 𝓛 w8).typed u _ is).0 $
    returns ! (look_at ! 0 refl) $ free_all ! refl $ keep ! (0 ∷ 1 ∷ 3 ∷ 6 ∷ 7 ∷ []) $
    suffices ! _ (ends_at 𝓛 f.ended stayed c (y (block_ptr b o)) v u (tt, (tt, (ws.1.1.0, tt))) (tt, (tt, (tt, tt)))) $
    nothing ! $ move ! (2 ∷ 0 ∷ []) $ join ! $ nothing ! $ join ! $ nothing ! $ join ! $
    -- [the parameters; the result; the handle; the token of κ; that of κ' and nothing]
    move ! (3 ∷ 4 ∷ []) $ join ! $ group ! 3 $ frame ! $
    show ! (λ (new : Handle). sep 𝓤 (sem 𝓛 (lies (block_ptr b o) new)) (fact 𝓤 (BearerReturns old n m.now new ws.1.1.0 u))) ws.0 $ says ! told $ done !))))))))))
