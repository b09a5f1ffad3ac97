use Rattle.pcef_c.proofs.Steps.{ℕ, [], ◌∷◌, ◌++◌, refl, w8, MutBor, proved, full_share, id⊢, sep, ftrue, flft, flent, named, vptr, WpFn, fact, tables, sem, Body, lft_new, lft_end, ‵, raw, ◌⊛◌, some, later, prop, ◌$◌, ◌∵◌, !, qed, done, move, keep, drop, use1, use3, split, join, fsplit, fjoin, pick, await, regoal, show, suffices, frame, group, enter, of_opd, addr, stop, no_more, and_then, returns, alloc_all, pass_all, free_all, look_at, get, through, sets, lands_as, u8, yes, Is, shows, lends_ref, ref_back, mem, uint_Lawful, Ptr, RawPtr, block_ptr, in_a_block, rawptr_vals, rawptr_Tells, MutRef, plain, nothing, heard, peeks, calls_at, Lasts, lasts, on_entry, triple_of, Stays, walk_of, says, stay_dropped, Goes-dropped, ends_at, framed, split3}
use base.Logic.{ex}
use Rattle.pcef_c.specs.Handles.{gx_lies, lies}
use Rattle.pcef_c.specs.GxCalls.{RenewGxReturns}
use Rattle.pcef_handle.specs.declared.held.Handle.{Handle}
use Rattle.pcef_c.specs.declared.gx_port.GxPort.{GxPort}
use Rattle.pcef_handle.specs.contracts.held.Handle.{the_row as R}
use Rattle.pcef_c.specs.contracts.gx_port.GxPort.{the_row as S}
use Rattle.pcef_c.specs.contracts.gx_exports.pcef_gx_renew as f
use Rattle.pcef_c.proofs.gx_exports.pcef_gx_renew.Statement.{statement}
use Rattle.pcef_c.proofs.gx_exports.pcef_gx_renew.Code as code
use Rattle.pcef_c.specs.contracts.gx_calls.renew_gx as g
use Rattle.pcef_c.proofs.gx_calls.renew_gx.Met.{met}

abbrev stayed : Stays f.ended.signature.params f.ended.kept
stayed = (stay_dropped _ yes, (stay_dropped _ yes, tt))

pub pcef_gx_renew_spec : {M : Type 1} → statement M
pcef_gx_renew_spec 𝓤 𝓛 𝓜 𝓡 wired =
    let c = f.clauses 𝓛 𝓜.mem 𝓡.returns in let W = walk_of 𝓛 f.ended stayed c in let 𝓣 = tables 𝓤 𝓛.H 𝓜 𝓡 𝓡.env in
    proved 𝓛 f.ended stayed c 𝓜 𝓡 (Goes-dropped 𝓛 0 (plain (λ _. RawPtr)) yes (λ κs x w. refl), (Goes-dropped 𝓛 0 (plain (λ _. RawPtr)) yes (λ κs x w. refl), tt))
    f.Key.name code.function (code.unfolded 𝓤 𝓛.H 𝓜 𝓡 wired)
    (λ κs. (rawptr_vals, (rawptr_vals, tt))) (λ κs. (rawptr_Tells, (rawptr_Tells, tt))) (λ κs qs bounds a old are.
    let y : Ptr → Ptr → W.Ghost = λ p q. ((κs, qs, bounds, (p, (q, tt)), (rawptr_vals p, (rawptr_vals q, tt))), old) in
    qed 𝓛 (raw (on_entry 𝓛 f.signature κs qs a (y a.0 a.1.0).0.4) ∷ (‵ (lies a.0 old.0) ⊛ ‵ (gx_lies a.1.0 old.1)) ∷ []) ∵ drop ! $ split ! $
    -- [the first; the second]
    in_a_block ! a.0 (λ p. lies p old.0) (id⊢ 𝓤 _) (λ b o e.
    regoal ! (λ p. prop (WpFn 𝓤 𝓛.H 𝓣.C 𝓣.Λ code.function (rawptr_vals p ++ (rawptr_vals a.1.0 ++ [])) (W.post (y p a.1.0)))) e refl $ move ! (1 ∷ []) $
    in_a_block ! a.1.0 (λ p. gx_lies p old.1) (id⊢ 𝓤 _) (λ b' o' e'.
    regoal ! (λ p. prop (WpFn 𝓤 𝓛.H 𝓣.C 𝓣.Λ code.function (rawptr_vals (block_ptr b o) ++ (rawptr_vals p ++ [])) (W.post (y (block_ptr b o) p)))) e' refl $
    enter ! _ _ _ _ _ $ alloc_all ! (λ l. pass_all ! refl ((tt, tt), ((tt, tt), tt)) $
    -- [the second; the first; the fact; the locals]
    sets ! (of_opd ! (get ! refl)) refl (tt, tt) $ sets ! (addr ! (through ! refl (stop !))) refl (tt, tt) $
    sets ! (of_opd ! (get ! refl)) refl (tt, tt) $ sets ! (addr ! (through ! refl (stop !))) refl (tt, tt) $
    lft_new ! tt (λ α. move ! (2 ∷ []) $
    use1 𝓛 (later (some (λ (γ : ℕ). ‵ ((MutRef (named 0) (α ∷ []) R).own_val (record { ref_ptr = (b, o); ghost_name = γ; now = old.0 }) (vptr b o ∷ [])) ⊛ ‵ (flent (α ∷ []) (Body (mem R) b o γ)))))
    (lends_ref 𝓛 R (named 0) (α ∷ []) old.0 b o) $ await ! tt $ pick ! (λ γ. split ! $
    -- [the loan; the lender's part; the token of α; the second]
    lft_new ! tt (λ β. move ! (4 ∷ []) $
    use1 𝓛 (later (some (λ (γ' : ℕ). ‵ ((MutRef (named 1) (β ∷ []) S).own_val (record { ref_ptr = (b', o'); ghost_name = γ'; now = old.1 }) (vptr b' o' ∷ [])) ⊛ ‵ (flent (β ∷ []) (Body (mem S) b' o' γ')))))
    (lends_ref 𝓛 S (named 1) (β ∷ []) old.1 b' o') $ await ! tt $ pick ! (λ γ'. split ! $
    -- [the second loan; its lender's part; the token of β; the loan; the lender's part; the token of α]
    let G = triple_of 𝓛 g.signature (g.spec 𝓛 𝓜.mem 𝓡.returns) in
    let r : MutBor Handle = record { ref_ptr = (b, o); ghost_name = γ; now = old.0 } in
    let r' : MutBor GxPort = record { ref_ptr = (b', o'); ghost_name = γ'; now = old.1 } in
    let z : G.Ghost = (((α ∷ [], (β ∷ [], tt)), (full_share, (full_share, tt)), tt, (r, (r', tt)), (vptr b o ∷ [], (vptr b' o' ∷ [], tt))), tt) in
    nothing ! $ move ! (1 ∷ 0 ∷ []) $ fjoin ! $ move ! (3 ∷ 0 ∷ []) $ fjoin ! $
    -- [the parameters; the second lender's part; the token of β; the lender's part; the token of α]
    nothing ! $ move ! (3 ∷ 0 ∷ []) $ join ! $ move ! (4 ∷ 0 ∷ []) $ join ! $ join ! $ nothing ! $ move ! (1 ∷ 0 ∷ []) $ join ! $ use1 𝓛 (raw (G.pre z)) (id⊢ 𝓤 _) $
    calls_at ! (framed 𝓤 𝓛.H 𝓜 𝓣) G (met 𝓤 𝓛 𝓜 𝓡 (code.calls-pcef_c::gx_calls::renew_gx 𝓡.env wired)) z
    (and_then ! (get ! refl) (and_then ! (get ! refl) (no_more !))) (λ v.
    use1 𝓛 (later (some (λ (u : ℕ). ((‵ (flft (α ∷ []) full_share) ⊛ ‵ (flft (β ∷ []) full_share) ⊛ ‵ ftrue) ⊛ ‵ (u8.own_val u (v ∷ []))) ⊛
    some (λ (ws : Lasts g.ended z.0.0 z.0.3). ‵ (lasts g.ended z.0.0 z.0.3 ws) ⊛ raw (fact 𝓤 (RenewGxReturns old.0 old.1 ws.0 ws.1.0 u)))))) (id⊢ 𝓤 _) $
    await ! tt $ pick ! (λ u. split ! $ split ! $ split3 ! $ lft_end ! tt $ move ! (1 ∷ []) $ lft_end ! tt $ move ! (4 ∷ []) $ pick ! (λ ws. split ! $ move ! (1 ∷ []) $ heard ! _ (λ told.
    fsplit ! $ fsplit ! $
    -- [the last value; its borrow; the second's; β is over; α is over; nothing; the result; the second lender's part; the lender's part]
    move ! (4 ∷ 8 ∷ 0 ∷ []) $ use3 𝓛 (later (‵ ((mem R).own_at ws.0 b o))) (ref_back 𝓛 R (α ∷ []) γ ws.0 b o) $ await ! tt $
    -- [the first; its borrow; the second's; β is over; nothing; the result; the second lender's part]
    move ! (2 ∷ []) $ fsplit ! $ fsplit ! $
    -- [the second's last value; its borrow; nothing; the first; its borrow; β is over; nothing; the result; the lender's part]
    move ! (5 ∷ 8 ∷ 0 ∷ []) $ use3 𝓛 (later (‵ ((mem S).own_at ws.1.0 b' o'))) (ref_back 𝓛 S (β ∷ []) γ' ws.1.0 b' o') $ await ! tt $
    -- [the second; its borrow; nothing; the first; its borrow; nothing; the result]
    move ! (6 ∷ []) $ peeks ! u8 (Is u8) (shows 𝓛 u8) u (v ∷ []) (λ is. lands_as ! refl refl ((uint_Lawful 𝓛 w8).typed u _ is).0 $
    returns ! (look_at ! 0 refl) $ free_all ! refl $ keep ! (0 ∷ 4 ∷ 1 ∷ []) $
    suffices ! _ (ends_at 𝓛 f.ended stayed c (y (block_ptr b o) (block_ptr b' o')) v u (tt, (tt, tt)) (tt, (tt, tt))) $
    nothing ! $ nothing ! $ join ! $ nothing ! $ join ! $ nothing ! $ group ! 3 $ frame ! $
    show ! (λ (new : Handle). ex 𝓤 (λ (after : GxPort). sep 𝓤 (sep 𝓤 (sem 𝓛 (lies (block_ptr b o) new)) (sem 𝓛 (gx_lies (block_ptr b' o') after))) (fact 𝓤 (RenewGxReturns old.0 old.1 new after u)))) ws.0 $
    show ! (λ (after : GxPort). sep 𝓤 (sep 𝓤 (sem 𝓛 (lies (block_ptr b o) ws.0)) (sem 𝓛 (gx_lies (block_ptr b' o') after))) (fact 𝓤 (RenewGxReturns old.0 old.1 ws.0 after u))) ws.1.0 $
    says ! told $ join ! $ done !)))))))))))))
