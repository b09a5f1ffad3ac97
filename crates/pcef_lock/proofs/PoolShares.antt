-- The share that a session has of a pool.
use Rattle.std.proofs.Common.{◌≡◌, ◌∙◌, true, false, sym, ap, subst, Some, None, Ok}
use Rattle.std.specs.Prelude.{Bool, Option, is_some, IfSome}
use Rattle.pcef_rule.specs.declared.quantity.Sums.{Sums}
use Rattle.pcef_model.specs.Entries.{Journal}
use Rattle.pcef_model.specs.Journals.{tables}
use Rattle.pcef_model.specs.Refusals.{first_of, refusals_within, total_now}
use Rattle.pcef_model.specs.Setting.{Setting}
use Rattle.pcef_model.proofs.Rooms.{total_same}
use Rattle.pcef_model.specs.declared.answer.Accepted.{Accepted}
use Rattle.pcef_model.specs.declared.command.Command.{Command}
use Rattle.pcef_model.specs.Laws.{IsInRoom}
use Rattle.pcef_model.specs.Outcomes.{Gives, command_outcome}
use Rattle.pcef_session.specs.SessionModel.{SessionModel}
use Rattle.pcef_session.specs.Preparing.{IsPreparedFor, command_of}
use Rattle.pcef_session.specs.declared.prepared.Prepared.{Prepared}
use Rattle.pcef_session.proofs.RoomRates.{settled_fits}
use Rattle.pcef_share.specs.Pools.{IsPart, IsPool, PoolModel, pool_faults, pool_with, rates_due, room_beside}
use Rattle.pcef_share.proofs.Within.{held_fits, pool_gives}

-- ---- the share stays as its session goes on
pub due_same : (b : Bool) (p q : Setting) (j k : Journal) (r : Option Sums) → q ≡ p → tables k ≡ tables j → r ≡ rates_due b p j → r ≡ rates_due b q k
due_same true p q j k r setting same is = is ∙ ap (λ s. Some s) (sym (total_same p j k same)) ∙ ap (λ (x : Setting). Some (total_now x k)) (sym setting)
due_same false p q j k r setting same is = is

pub due_kept : (b : Bool) (p q : Setting) (j k : Journal) (r : Option Sums) → q ≡ p → k ≡ j → r ≡ rates_due b p j → r ≡ rates_due b q k
due_kept b p q j k r setting journal is = due_same b p q j k r setting (ap tables journal) is

pub due_none : (b : Bool) (p q : Setting) (j k : Journal) (r : Option Sums) → b ≡ false → r ≡ rates_due b p j → r ≡ rates_due b q k
due_none true p q j k r absent is = absurd cc
due_none false p q j k r absent is = is

pub due_some : (b : Bool) (p : Setting) (j : Journal) (r : Option Sums) → b ≡ true → r ≡ rates_due b p j → r ≡ Some (total_now p j)
due_some true p j r exists is = is
due_some false p j r exists is = absurd cc

pub due_set : (b : Bool) (p : Setting) (j : Journal) (r : Option Sums) (rates : Sums) → b ≡ true → r ≡ Some rates → rates ≡ total_now p j → r ≡ rates_due b p j
due_set true p j r rates exists is total = is ∙ ap (λ s. Some s) total
due_set false p j r rates exists is total = absurd cc

pub is_there : (b : Bool) (p : Setting) (j : Journal) (r : Option Sums) → b ≡ true → r ≡ rates_due b p j → is_some r ≡ true
is_there b p j r exists is = ap (λ (o : Option Sums). is_some o) (due_some b p j r exists is)

-- what holds of the rates of a share that is there
pub of_held : (F : Sums → Type 0) (r : Option Sums) (held : Sums) → r ≡ Some held → IfSome r F → F held
of_held F r held is of = subst (λ (o : Option Sums). IfSome o F) is of

pub if_held : (F : Sums → Type 0) (r : Option Sums) (held : Sums) → r ≡ Some held → F held → IfSome r F
if_held F r held is of = subst (λ (o : Option Sums). IfSome o F) (sym is) of

-- ---- a command of a session that has a share
-- the room that its pool leaves it
pub room_wanted : (b : Bool) (p : Setting) (s : SessionModel) (now : Journal) (r : Option Sums) (v : PoolModel) (room : Sums) → b ≡ true → r ≡ rates_due b s.setting s.journal → s.setting ≡ p → s.journal ≡ now →
    IfSome r (λ held. room ≡ room_beside v held) → room ≡ room_beside v (total_now p now)
room_wanted b p s now r v room exists due setting now_is of =
    let held : Sums = total_now s.setting s.journal in
    let here : room ≡ room_beside v held = of_held (λ h. room ≡ room_beside v h) r held (due_some b s.setting s.journal r exists due) of in
    rw (← setting, ← now_is) here

-- it is part of what the pool has granted
pub part_wanted : (b : Bool) (p : Setting) (s : SessionModel) (now : Journal) (r : Option Sums) (v : PoolModel) → b ≡ true → r ≡ rates_due b s.setting s.journal → s.setting ≡ p → s.journal ≡ now →
    IfSome r (λ held. IsPart held v) → IsPart (total_now p now) v
part_wanted b p s now r v exists due setting now_is of =
    let held : Sums = total_now s.setting s.journal in
    let here : IsPart held v = of_held (λ h. IsPart h v) r held (due_some b s.setting s.journal r exists due) of in
    rw (← setting, ← now_is) here

-- what its rules sum up to afterwards fits into the pool
pub fits_in : (b : Bool) (s m t : SessionModel) (c : Command) (d : Prepared) (a : Accepted) (r r2 : Option Sums) (v v2 : PoolModel) (room rates : Sums) → b ≡ true → r ≡ rates_due b s.setting s.journal → r2 ≡ r → v2 ≡ v → IsPool v →
    IfSome r (λ held. room ≡ room_beside v held) → IfSome r (λ held. IsPart held v) → first_of (refusals_within s.setting s.journal c (Some room)) ≡ None → m.setting ≡ s.setting → m.journal ≡ s.journal →
    command_of d ≡ c → IsPreparedFor m d → Gives (command_outcome m.setting m.journal (command_of d)) (Ok a) t.journal → t.setting ≡ m.setting → rates ≡ total_now t.setting t.journal →
    IfSome r2 (λ held. first_of (pool_faults v2 held rates) ≡ None)
fits_in b s m t c d a r r2 v v2 room rates exists due r_same v_same is of_room of_part none setting_kept kept command ready gives setting rates_are =
    let held : Sums = total_now s.setting s.journal in
    let some : r ≡ Some held = due_some b s.setting s.journal r exists due in
    let room_is : room ≡ room_beside v held = of_held (λ h. room ≡ room_beside v h) r held some of_room in
    let part : IsPart held v = of_held (λ h. IsPart h v) r held some of_part in
    let after : IsInRoom (total_now t.setting t.journal) room = settled_fits s m t c d room a none setting_kept kept command ready gives setting (held_fits v held room is part room_is) in
    let fits : first_of (pool_faults v held rates) ≡ None = pool_gives v held rates room is room_is (subst (λ x. IsInRoom x room) (sym rates_are) after) in
    if_held (λ h. first_of (pool_faults v2 h rates) ≡ None) r2 held (r_same ∙ some) (subst (λ (x : PoolModel). first_of (pool_faults x held rates) ≡ None) (sym v_same) fits)

-- the pool afterwards
pub pool_gave : (b : Bool) (p : Setting) (s t : SessionModel) (now : Journal) (r r2 : Option Sums) (v v2 w : PoolModel) (rates : Sums) → b ≡ true → r ≡ rates_due b s.setting s.journal → s.setting ≡ p → s.journal ≡ now → r2 ≡ r →
    v2 ≡ v → t.setting ≡ s.setting → rates ≡ total_now t.setting t.journal → IfSome r2 (λ held. w ≡ pool_with v2 held rates) → w ≡ pool_with v (total_now p now) (total_now p t.journal)
pool_gave b p s t now r r2 v v2 w rates exists due setting now_is r_same v_same setting_kept rates_are of =
    let held : Sums = total_now s.setting s.journal in
    let some : r2 ≡ Some held = r_same ∙ due_some b s.setting s.journal r exists due in
    let here : w ≡ pool_with v2 held rates = of_held (λ h. w ≡ pool_with v2 h rates) r2 held some of in
    rw (← setting, ← now_is, ← v_same) (here ∙ ap (pool_with v2 held) (rates_are ∙ ap (λ (q : Setting). total_now q t.journal) setting_kept))
