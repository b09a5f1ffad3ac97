-- An empty handle is written into the room.
use Rattle.pcef_c.proofs.Steps.{List, [], ◌∷◌, ◌++◌, refl, proved, full_share, id⊢, sep, ftrue, vunit, Val, WpFn, fact, tables, sem, ‵, raw, ◌⊛◌, some, later, prop, ◌$◌, ◌∵◌, !, qed, done, move, keep, use1, use2, split, split3, join, fjoin, feq_i, pick, await, regoal, show, suffices, frame, group, enter, of_opd, unit_lit, stop, init, assigns, no_more, and_then, returns, alloc_all, pass_all, free_all, look_at, get, through, sets, lands_as, yes, Is, shows, part_at, part_in, Ptr, RawPtr, block_ptr, in_a_block, rawptr_vals, rawptr_Tells, plain, nothing, heard, peeks, calls_at, Lasts, lasts, triple_of, Stays, walk_of, says, stay_dropped, Goes-dropped, ends_at, framed}
use Rattle.pcef_c.specs.GxPorts.{IsEmptyPort}
use Rattle.pcef_c.specs.Handles.{gx_lies, gx_room}
use Rattle.pcef_c.specs.declared.gx_port.GxPort.{GxPort}
use Rattle.pcef_c.specs.contracts.gx_port.GxPort.{the_row as R}
use Rattle.pcef_c.proofs.gx_port.GxPort.TheLaws.{the_row_laws as R-laws}
use Rattle.std.specs.Global.{Global}
use Rattle.std.specs.contracts.alloc.Global.{the_row as H}
use Rattle.std.proofs.alloc.Global.TheLaws as heap
use Rattle.pcef_c.specs.contracts.gx_exports.pcef_gx_room as f
use Rattle.pcef_c.proofs.gx_exports.pcef_gx_room.Statement.{statement}
use Rattle.pcef_c.proofs.gx_exports.pcef_gx_room.Code as code
use Rattle.pcef_c.specs.contracts.gx_calls.empty_port as g
use Rattle.pcef_c.proofs.gx_calls.empty_port.Met.{met}

abbrev stayed : Stays f.ended.signature.params f.ended.kept
stayed = (stay_dropped _ yes, (stay_dropped _ yes, tt))

abbrev heap_vals : Global → List Val
heap_vals h = heap.lowers.lowered h ∷ []

pub pcef_gx_room_spec : {M : Type 1} → statement M
pcef_gx_room_spec 𝓤 𝓛 𝓜 𝓡 wired =
    let c = f.clauses 𝓛 𝓜.mem 𝓡.returns in let W = walk_of 𝓛 f.ended stayed c in let 𝓣 = tables 𝓤 𝓛.H 𝓜 𝓡 𝓡.env in
    proved 𝓛 f.ended stayed c 𝓜 𝓡 (Goes-dropped 𝓛 0 (plain (λ _. H)) yes (λ κs x w. refl), (Goes-dropped 𝓛 0 (plain (λ _. RawPtr)) yes (λ κs x w. refl), tt))
    f.Key.name code.function (code.unfolded 𝓤 𝓛.H 𝓜 𝓡 wired)
    (λ κs. (heap_vals, (rawptr_vals, tt))) (λ κs. ((λ h us is. heap.lowers.val_is h us is), (rawptr_Tells, tt))) (λ κs qs bounds a none are.
    let h : Global = a.0 in
    let y : Ptr → W.Ghost = λ p. ((κs, qs, bounds, (h, (p, tt)), (heap_vals h, (rawptr_vals p, tt))), none) in
    qed 𝓛 ((‵ ftrue ⊛ ‵ (H.own_val h (heap_vals h)) ⊛ ‵ (RawPtr.own_val a.1.0 (rawptr_vals a.1.0)) ⊛ ‵ ftrue) ∷ ‵ (gx_room a.1.0) ∷ []) ∵
    split3 ! $ keep ! (3 ∷ 1 ∷ []) $
    in_a_block ! a.1.0 gx_room (id⊢ 𝓤 _) (λ b o e.
    regoal ! (λ p. prop (WpFn 𝓤 𝓛.H 𝓣.C 𝓣.Λ code.function (heap_vals h ++ (rawptr_vals p ++ [])) (W.post (y p)))) e refl $
    enter ! _ _ _ _ _ $ alloc_all ! (λ l. pass_all ! refl (((heap.the_row_laws.lawful 𝓛).typed h _ are.0).0, ((tt, tt), tt)) $
    -- [the room; the allocator; the locals]
    sets ! (of_opd ! (get ! refl)) refl (tt, tt) $ move ! (1 ∷ []) $
    let G = triple_of 𝓛 g.signature (g.spec 𝓛 𝓜.mem 𝓡.returns) in
    let z : G.Ghost = ((tt, tt, tt, (h, tt), (heap_vals h, tt)), tt) in
    nothing ! $ move ! (1 ∷ 0 ∷ []) $ fjoin ! $ nothing ! $ join ! $ nothing ! $ move ! (1 ∷ 0 ∷ []) $ join ! $ use1 𝓛 (raw (G.pre z)) (id⊢ 𝓤 _) $
    calls_at ! (framed 𝓤 𝓛.H 𝓜 𝓣) G (met 𝓤 𝓛 𝓜 𝓡 (code.calls-pcef_c::gx_calls::empty_port 𝓡.env wired)) z (and_then ! (get ! refl) (no_more !)) (λ v.
    use1 𝓛 (later (some (λ (u : GxPort). (‵ ftrue ⊛ ‵ (R.own_val u (v ∷ []))) ⊛
    some (λ (ws : Lasts g.ended z.0.0 z.0.3). ‵ (lasts g.ended z.0.0 z.0.3 ws) ⊛ raw (fact 𝓤 (IsEmptyPort u)))))) (id⊢ 𝓤 _) $
    await ! tt $ pick ! (λ u. split ! $ split ! $ move ! (2 ∷ []) $ pick ! (λ ws. split ! $ move ! (1 ∷ []) $ heard ! _ (λ told. move ! (2 ∷ []) $
    -- [what the handle owns; nothing; nothing; the room]
    peeks ! R (Is R) (shows 𝓛 R) u (v ∷ []) (λ is. let typed = ((R-laws.lawful 𝓛).typed u _ is).0 in lands_as ! refl refl typed $
    assigns ! (of_opd ! (get ! refl)) (through ! refl (stop !)) (init ! 3 refl typed) $
    sets ! (of_opd ! (unit_lit !)) refl (tt, tt) $
    returns ! (look_at ! 0 refl) $ free_all ! refl $ keep ! (3 ∷ 0 ∷ []) $ use2 𝓛 (‵ (part_at R full_share u b o)) (part_in 𝓛 R refl full_share u b o v) $
    suffices ! _ (ends_at 𝓛 f.ended stayed c (y (block_ptr b o)) vunit tt (tt, (tt, tt)) (tt, (tt, tt))) $
    feq_i ! _ (vunit ∷ []) _ refl $ nothing ! $ nothing ! $ join ! $ nothing ! $ join ! $ nothing ! $ group ! 3 $ frame ! $
    show ! (λ (new : GxPort). sep 𝓤 (sem 𝓛 (gx_lies (block_ptr b o) new)) (fact 𝓤 (IsEmptyPort new))) u $ says ! told $ done !))))))))
