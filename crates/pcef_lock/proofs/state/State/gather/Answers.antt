use Rattle.std.proofs.Common.{rules, ◌≡◌, ◌∙◌, ◌≤◌, ◌<◌, ◌+◌, ◌∷◌, ℕ, List, All, Some, ap, arith, count_by, is_some, length, map, refl, subst, sym}
use Rattle.std.specs.Prelude.{slice_index}
use Rattle.std.proofs.lemmas.List.{length-map}
use Rattle.pcef_model.specs.Entries.{Journal, rows}
use Rattle.pcef_model.specs.Journals.{attach_count, slots}
use Rattle.pcef_model.specs.Lawful.{Lawful}
use Rattle.pcef_model.specs.Setting.{Setting}
use Rattle.pcef_journaled.specs.Archiving.{Archives}
use Rattle.pcef_share.specs.Amounts.{sums, zeros}
use Rattle.pcef_share.specs.Pools.{rates_due}
use Rattle.pcef_handover.specs.Counting.{slot_total}
use Rattle.pcef_lock.specs.Gathering.{AgreeWith, AreGathered, CanGather, gathered, key_totals, key_total}
use Rattle.pcef_lock.specs.declared.key_totals.KeyTotal.{KeyTotal}
use Rattle.pcef_lock.proofs.Gathered.{gathered_all, share_of, shares_there}
use Rattle.pcef_lock.proofs.TotalsOfKeys.{totals_exact, totals_gathered}
use Rattle.pcef_lock.proofs.state.State.gather.Goals as goal

pub unreachable-requires : goal.unreachable-requires
unreachable-requires g c =
    let can = c.gather_fault.ensures.none (search rules) in
    let here : count_by is_some c.all_shares-shares.result.0.items ≡ 1 + length c.args.finished.items =
    ap (count_by is_some) c.all_shares-shares.ensures.shares ∙ shares_there c.args.finished.items c.into_shares.result in
    let out = c.in_default-gather.ensures in
    let came : attach_count c.self.inside.session.session.journal ≡ attach_count c.args.self.session.journal = ap (λ v. attach_count v.session.journal) c.self.view_is in
    omega (arith, here, can.0, came, c.self.invariant.0.issued_is, out.missing, out.some)

pub totals_of-keys-requires : goal.totals_of-keys-requires
totals_of-keys-requires g c = λ n below.
    rw (c.into_parts-session.ensures.setting, c.into_parts-session.ensures.journal, c.self.invariant.0.kept.setting_is)
    (ap (λ (xs : List ℕ). slice_index xs n) c.in-Ok.ensures.totals ∙ c.self.invariant.0.kept.counted.slots_are n below)

pub returns-clause-totals : goal.returns-clause-totals
returns-clause-totals g c =
    let p = g.N.Naming.setting in
    let j = c.self.inside.session.session.journal in
    let handed = c.args.finished.items in
    let told : c.into_parts-session.result.0.journal ≡ j = c.into_parts-session.ensures.journal in
    let setting : c.into_parts-session.result.0.setting ≡ p = c.into_parts-session.ensures.setting ∙ c.self.invariant.0.kept.setting_is in
    let here : count_by is_some c.all_shares-shares.result.0.items ≡ 1 + length handed =
    ap (count_by is_some) c.all_shares-shares.ensures.shares ∙ shares_there handed c.into_shares.result in
    let all : count_by is_some c.all_shares-shares.result.0.items ≡ c.self.inside.books.issued = c.in-Ok.ensures.all.0 (search rules) in
    let keys : c.totals_of-keys.result ≡ key_totals p j =
    c.totals_of-keys.ensures.keys ∙ rw (setting, told) refl in
    let few : length (slots p j) ≤ 8 = omega (arith, ap length keys, length-map (slots p j) (key_total p j), c.totals_of-keys.ensures.few) in
    let books : (n : ℕ) → n < 8 → slice_index c.in-Ok.amounts n ≡ slot_total p j n =
    λ n below. ap (λ (xs : List ℕ). slice_index xs n) c.in-Ok.ensures.totals ∙ c.self.invariant.0.kept.counted.slots_are n below in
    let shares : (n : ℕ) → n < 8 → slice_index c.in-Ok.amounts n ≡ gathered n handed =
    λ n below. ap (λ (xs : List ℕ). slice_index xs n)
    (c.in-Ok.ensures.sums ∙ ap (sums zeros) (c.all_shares-shares.ensures.shares ∙ ap (λ (s : List ℕ). Some s ∷ map share_of handed) c.into_shares.ensures))
    ∙ gathered_all handed (length c.args.desk.commands) n below in
    let can : CanGather c.are_compared-compared.result j c.args.desk.commands handed = search rules in
    record {
      keys_are = keys ∙ ap (key_totals p) (sym told);
      gathered = subst (λ (ks : List KeyTotal). AreGathered ks handed) (sym keys) (totals_gathered p j c.in-Ok.amounts handed few books shares);
      sums = subst (λ (ks : List KeyTotal). All (λ (k : KeyTotal). k.counted ≡ k.reported + k.unreported) ks) (sym keys)
          (totals_exact p j (subst (λ (q : Setting). Lawful q j) c.self.invariant.0.kept.setting_is c.gather_fault.ensures.lawful));
      many = omega (arith, here, all, ap attach_count told, c.self.invariant.0.issued_is);
      agree = λ compared. subst (λ (k : Journal). AgreeWith k c.args.desk.commands handed) (sym told) (can.1 compared);
      rest = record {
        setting_is = setting;
        all_reports = c.into_parts-session.ensures.kept;
        archived = subst (λ (k : Journal). Archives k c.into_parts-session.result.1) (sym told) c.into_parts-session.ensures.archives;
        lists_are = c.all_shares-shares.ensures.lists;
        compared_is = search rules;
        rows_are = ap (λ (xs : List ℕ). slice_index xs 8) c.in-Ok.ensures.totals ∙ c.self.invariant.0.kept.counted.rows_are ∙ ap (λ (k : Journal). length (rows k)) (sym told);
        abandoned_are = search rules;
        rates_are = c.self.invariant.1 ∙ ap (λ (q : Setting). rates_due g.P.Pooling.is_there q j) c.self.invariant.0.kept.setting_is ∙ ap (rates_due g.P.Pooling.is_there p) (sym told);
      };
    }
