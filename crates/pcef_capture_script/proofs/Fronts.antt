-- A front of what is written.
use Rattle.std.proofs.Common.{◌≡◌, ◌∙◌, ◌+◌, ◌++◌, ℕ, Bool, List, [], ◌∷◌, length, Option, Some, refl, sym, ap, subst, append_assoc}
use Rattle.std.specs.Io.KnownBytes.{Appends}
use Rattle.std.proofs.KnownBytes.{Appends-trans}
use Rattle.std.proofs.lemmas.List.Elements.{filter_map-append}
use Rattle.pcef_packet.specs.declared.header.Addr.{Addr}
use Rattle.pcef_capture_file.specs.Captured.{Captured}
use Rattle.pcef_capture_script.specs.Fates.{AreFates, Fate, items_of}
use Rattle.pcef_capture_script.specs.Scripts.{Rota, last_flush, script_of}
use Rattle.pcef_capture_script.specs.Turns.{WroteFrameFront, WroteSoFar, lines_if, rest_flush, turn_past}
use Rattle.pcef_capture_script.specs.Writing.{WritesScriptFront, WritesTakes}
use Rattle.pcef_capture_script.specs.declared.counts.Counts.{Counts}
use Rattle.pcef_capture_script.specs.declared.turn.Turn.{Turn}
use Rattle.pcef_base.specs.Writing.{AppendsFront}
use Rattle.pcef_base.proofs.Fronts.{front_after, front_more}
use Rattle.pcef_capture_script.proofs.Fates.{fates_both, fates_there}
use Rattle.pcef_capture_script.proofs.Writings.{frame_there, items_more, lines_both, lines_from}

-- ---- the script begins with the lines for the first packets
pub script_front : (rota : Rota) (fates others : List Fate) → (rest : List ℕ) × (lines_from rota 0 (items_of fates) ++ rest ≡ script_of rota (items_of (fates ++ others)))
script_front rota fates others =
    let items = items_of fates in
    let more = items_of others in
    let all = items_of (fates ++ others) in
    let last = last_flush rota (length all) in
    let both : all ≡ items ++ more = filter_map-append (λ (f : Fate). f.1) fates others in
    let behind = lines_from rota (0 + length items) more in
    let lines : lines_from rota 0 all ≡ lines_from rota 0 items ++ behind = ap (lines_from rota 0) both ∙ lines_both rota 0 items more in
    (behind ++ last, sym (append_assoc (lines_from rota 0 items) behind last) ∙ ap (λ t. t ++ last) (sym lines))

-- a front of the lines for a frame, behind those for the frames before it
pub frame_front : (ue : Addr) (pads : Bool) (rota : Rota) (frames rest all : List Captured) (frame : Captured) (old now next : Option (List ℕ)) (turn : Turn) (counts : Counts)
    → WroteSoFar ue pads rota frames old now turn counts
    → WroteFrameFront ue pads frame turn now next
    → all ≡ frames ++ frame ∷ rest
    → WritesScriptFront ue pads rota all old next
frame_front ue pads rota frames rest all frame old now next turn counts so_far wrote whole =
    let fates = so_far.0 in
    let fate = wrote.0 in
    let others = fates_there ue pads rest in
    let items = items_of fates in
    let text = lines_from rota 0 items in
    let here = frame_there rota items fate.1 turn (turn_past turn fate.1) (Some []) (Some text) (Some (text ++ lines_if turn fate.1)) so_far.2 refl refl refl in
    let lines : text ++ lines_if turn fate.1 ≡ lines_from rota 0 (items_of (fates ++ fate ∷ [])) = here.1 ∙ ap (lines_from rota 0) (sym (items_more fates fate)) in
    let script = script_front rota (fates ++ fate ∷ []) others.0 in
    let done : AppendsFront old next (text ++ lines_if turn fate.1) = front_after old now next text (lines_if turn fate.1) so_far.3 wrote.2 in
    let longer : AppendsFront old next ((text ++ lines_if turn fate.1) ++ script.0) = front_more old next (text ++ lines_if turn fate.1) script.0 done in
    let same : (text ++ lines_if turn fate.1) ++ script.0 ≡ script_of rota (items_of (fates ++ fate ∷ others.0)) =
    ap (λ t. t ++ script.0) lines ∙ script.1 ∙ ap (λ fs. script_of rota (items_of fs)) (append_assoc fates (fate ∷ []) others.0) in (
      fates ++ fate ∷ others.0,
      subst (λ fs. AreFates ue pads fs (fates ++ fate ∷ others.0)) (sym whole) (fates_both ue pads frames (frame ∷ rest) fates (fate ∷ others.0) so_far.1 (wrote.1, others.1)),
      subst (AppendsFront old next) same longer,
    )

-- a front of the last flush, behind all lines
pub rest_front : (ue : Addr) (pads : Bool) (rota : Rota) (frames : List Captured) (old now next : Option (List ℕ)) (turn : Turn) (counts : Counts)
    → WroteSoFar ue pads rota frames old now turn counts
    → AppendsFront now next (rest_flush turn)
    → WritesScriptFront ue pads rota frames old next
rest_front ue pads rota frames old now next turn counts so_far wrote =
    let text = lines_from rota 0 (items_of so_far.0) in (
      so_far.0,
      so_far.1,
      subst (AppendsFront old next) (ap (λ t. text ++ rest_flush t) so_far.2) (front_after old now next text (rest_flush turn) so_far.3 wrote),
    )

-- what was written so far is a front of the script for these frames and any behind them
pub so_far_front : (ue : Addr) (pads : Bool) (rota : Rota) (frames rest : List Captured) (old now : Option (List ℕ)) (turn : Turn) (counts : Counts)
    → WroteSoFar ue pads rota frames old now turn counts
    → WritesScriptFront ue pads rota (frames ++ rest) old now
so_far_front ue pads rota frames rest old now turn counts so_far =
    let fates = so_far.0 in
    let others = fates_there ue pads rest in
    let script = script_front rota fates others.0 in (
      fates ++ others.0,
      fates_both ue pads frames rest fates others.0 so_far.1 others.1,
      (lines_from rota 0 (items_of fates), script.0, sym script.1, so_far.3),
    )

-- all lines, and the last flush
pub takes_done : (ue : Addr) (pads : Bool) (rota : Rota) (frames : List Captured) (old now next : Option (List ℕ)) (turn : Turn) (counts : Counts)
    → WroteSoFar ue pads rota frames old now turn counts
    → Appends now next (rest_flush turn)
    → WritesTakes ue pads rota frames old next counts
takes_done ue pads rota frames old now next turn counts so_far last =
    let items = items_of so_far.0 in
    let text = lines_from rota 0 items in
    let flush : rest_flush turn ≡ last_flush rota (length items) = ap rest_flush so_far.2 in (
      so_far.0,
      so_far.1,
      subst (λ t. Appends old next (text ++ t)) flush (Appends-trans old now next text (rest_flush turn) so_far.3 last),
      so_far.4,
    )
