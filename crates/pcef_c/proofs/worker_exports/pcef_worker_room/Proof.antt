-- A handle without a worker is written into the room.
use Rattle.pcef_c.proofs.Steps.{◌≡◌, [], ◌∷◌, ◌++◌, refl, proved, full_share, id⊢, sep, ftrue, vunit, WpFn, fact, tables, sem, ‵, raw, ◌⊛◌, some, later, prop, ◌$◌, ◌∵◌, !, qed, done, move, keep, drop, use1, use2, split, join, feq_i, pick, await, regoal, show, suffices, frame, group, enter, of_opd, unit_lit, stop, init, assigns, no_more, returns, alloc_all, pass_all, free_all, look_at, get, through, sets, lands_as, yes, Is, shows, part_at, part_in, Ptr, RawPtr, block_ptr, in_a_block, rawptr_vals, rawptr_Tells, plain, nothing, heard, peeks, calls_at, Lasts, lasts, on_entry, triple_of, Stays, walk_of, says, stay_dropped, Goes-dropped, ends_at, framed}
use Rattle.std.specs.Prelude.{None}
use Rattle.pcef_c.specs.Handles.{worker_room, worker_lies}
use Rattle.pcef_handle.specs.declared.worker.WorkerHandle.{WorkerHandle}
use Rattle.pcef_handle.specs.contracts.worker.WorkerHandle.{the_row as R}
use Rattle.pcef_handle.proofs.worker.WorkerHandle.TheLaws.{the_row_laws as R-laws}
use Rattle.pcef_c.specs.contracts.worker_exports.pcef_worker_room as f
use Rattle.pcef_c.proofs.worker_exports.pcef_worker_room.Statement.{statement}
use Rattle.pcef_c.proofs.worker_exports.pcef_worker_room.Code as code
use Rattle.pcef_c.specs.contracts.working.no_worker as g
use Rattle.pcef_c.proofs.working.no_worker.Met.{met}

abbrev stayed : Stays f.ended.signature.params f.ended.kept
stayed = (stay_dropped _ yes, tt)

pub pcef_worker_room_spec : {M : Type 1} → statement M
pcef_worker_room_spec 𝓤 𝓛 𝓜 𝓡 wired =
    let c = f.clauses 𝓛 𝓜.mem 𝓡.returns in let W = walk_of 𝓛 f.ended stayed c in let 𝓣 = tables 𝓤 𝓛.H 𝓜 𝓡 𝓡.env in
    proved 𝓛 f.ended stayed c 𝓜 𝓡 (Goes-dropped 𝓛 0 (plain (λ _. RawPtr)) yes (λ κs x w. refl), tt)
    f.Key.name code.function (code.unfolded 𝓤 𝓛.H 𝓜 𝓡 wired)
    (λ κs. (rawptr_vals, tt)) (λ κs. (rawptr_Tells, tt)) (λ κs qs bounds a none are.
    let y : Ptr → W.Ghost = λ p. ((κs, qs, bounds, (p, tt), (rawptr_vals p, tt)), none) in
    qed 𝓛 (raw (on_entry 𝓛 f.signature κs qs a (y a.0).0.4) ∷ ‵ (worker_room a.0) ∷ []) ∵ drop ! $
    in_a_block ! a.0 worker_room (id⊢ 𝓤 _) (λ b o e.
    regoal ! (λ p. prop (WpFn 𝓤 𝓛.H 𝓣.C 𝓣.Λ code.function (rawptr_vals p ++ []) (W.post (y p)))) e refl $
    enter ! _ _ _ _ _ $ alloc_all ! (λ l. pass_all ! refl ((tt, tt), tt) $
    -- [the room; the locals]
    sets ! (of_opd ! (get ! refl)) refl (tt, tt) $
    let G = triple_of 𝓛 g.signature (g.spec 𝓛 𝓜.mem 𝓡.returns) in
    let z : G.Ghost = ((tt, tt, tt, tt, tt), tt) in
    nothing ! $ nothing ! $ join ! $ nothing ! $ move ! (1 ∷ 0 ∷ []) $ join ! $ use1 𝓛 (raw (G.pre z)) (id⊢ 𝓤 _) $
    calls_at ! (framed 𝓤 𝓛.H 𝓜 𝓣) G (met 𝓤 𝓛 𝓜 𝓡 (code.calls-pcef_c::working::no_worker 𝓡.env wired)) z (no_more !) (λ v.
    use1 𝓛 (later (some (λ (u : WorkerHandle). (‵ ftrue ⊛ ‵ (R.own_val u (v ∷ []))) ⊛
    some (λ (ws : Lasts g.ended z.0.0 z.0.3). ‵ (lasts g.ended z.0.0 z.0.3 ws) ⊛ raw (fact 𝓤 (u.worker ≡ None)))))) (id⊢ 𝓤 _) $
    await ! tt $ pick ! (λ u. split ! $ split ! $ move ! (2 ∷ []) $ pick ! (λ ws. split ! $ move ! (1 ∷ []) $ heard ! _ (λ told. move ! (2 ∷ []) $
    -- [what the handle owns; nothing; nothing; the room]
    peeks ! R (Is R) (shows 𝓛 R) u (v ∷ []) (λ is. let typed = ((R-laws.lawful 𝓛).typed u _ is).0 in lands_as ! refl refl typed $
    assigns ! (of_opd ! (get ! refl)) (through ! refl (stop !)) (init ! 3 refl typed) $
    sets ! (of_opd ! (unit_lit !)) refl (tt, tt) $
    returns ! (look_at ! 0 refl) $ free_all ! refl $ keep ! (3 ∷ 0 ∷ []) $ use2 𝓛 (‵ (part_at R full_share u b o)) (part_in 𝓛 R refl full_share u b o v) $
    suffices ! _ (ends_at 𝓛 f.ended stayed c (y (block_ptr b o)) vunit tt (tt, tt) (tt, tt)) $
    feq_i ! _ (vunit ∷ []) _ refl $ nothing ! $ nothing ! $ join ! $ nothing ! $ group ! 3 $ frame ! $
    show ! (λ (new : WorkerHandle). sep 𝓤 (sem 𝓛 (worker_lies (block_ptr b o) new)) (fact 𝓤 (new.worker ≡ None))) u $ says ! told $ done !))))))))
