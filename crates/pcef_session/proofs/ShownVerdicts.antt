-- A table that shows a generation gives the generation's verdicts.
use Rattle.std.proofs.Common.{◌≡◌, ◌∙◌, ℕ, true, false, List, refl, sym, ap, inl, inr, All, Contains, Some, None}
use Rattle.std.specs.Prelude.{◌⊎◌, Option, slice_get}
use Rattle.std.specs.List.{list_all}
use Rattle.std.specs.Option.{option_map}
use Rattle.std.proofs.lemmas.Bool.{cases_Bool, and_from, or_left, or_right}
use Rattle.std.proofs.lemmas.List.Elements.{All-contains}
use Rattle.pcef_packet.specs.declared.header.Addr.{Addr}
use Rattle.pcef_packet.specs.declared.header.Header.{Header}
use Rattle.pcef_rule.specs.declared.quantity.BearerId.{BearerId}
use Rattle.pcef_rule.specs.declared.rule.Properties.{Properties}
use Rattle.pcef_rule.specs.Gate.{opens}
use Rattle.pcef_table.specs.declared.entry.TableEntry.{TableEntry}
use Rattle.pcef_table.specs.declared.entry.Source.{Source}
use Rattle.pcef_table.specs.declared.entry.Source.TheVariants.{Dynamic, Predefined}
use Rattle.pcef_catalog.specs.declared.listing.Offer.{Offer}
use Rattle.pcef_model.specs.declared.verdict.Verdict.{Verdict}
use Rattle.pcef_model.specs.declared.verdict.Verdict.TheVariants.{Stray, Unmatched, Gated, Passed}
use Rattle.pcef_table.specs.Sources.{properties_of}
use Rattle.pcef_table.specs.Sources as sources
use Rattle.pcef_table.specs.Tables.{GoesBefore, TableValue}
use Rattle.pcef_table.specs.Verdicts.{IsVerdict}
use Rattle.pcef_model.specs.Setting.{Setting}
use Rattle.pcef_model.specs.ActiveRules.{Active, decisive, dynamic, fits, goes_ahead_of, is_before, is_decisive, is_named, predefined, rank_of}
use Rattle.pcef_model.specs.Entries.{Journal}
use Rattle.pcef_model.specs.Journals.{at, verdict_at}
use Rattle.pcef_model.proofs.Sameness.{same_name_of}
use Rattle.pcef_session.specs.Shown.{Shows, StandsFor, entry_rule}
use Rattle.pcef_model.proofs.BoundRules.{NamesOnce}
use Rattle.pcef_base.proofs.Found.{all_from, find_none, find_one}
use Rattle.pcef_model.proofs.Decisive.{decisive_once}

-- ---- an entry and the rule that it stands for
pub record IsRule (offers : List Offer) (s : Source) (r : Active) : Type 0 where
  pub properties_are : properties_of offers s ≡ Some r.properties
  pub rank_is : sources.source_rank offers s ≡ rank_of r
  pub fits_alike : (ue : Addr) (header : Header) → sources.source_fits offers ue header s ≡ fits ue header r

some_is : {X : Type 0} (x y : X) → Some x ≡ Some y → x ≡ y
some_is x y is = cc

offer_is : (offers : List Offer) (index : ℕ) (o : Option Offer) (r : Active) → slice_get offers index ≡ o → option_map predefined o ≡ Some r → IsRule offers (Predefined index) r
offer_is offers index None r at_index is = absurd cc
offer_is offers index (Some o) r at_index is =
    rw (← some_is (predefined o) r is) (record {
      properties_are = rw at_index refl;
      rank_is = rw at_index refl;
      fits_alike = λ ue header. rw at_index refl;
    })

pub rule_is : (offers : List Offer) (s : Source) (r : Active) → entry_rule offers s ≡ Some r → IsRule offers s r
rule_is offers (Dynamic rule) r is =
    rw (← some_is (dynamic rule) r is) (record { properties_are = refl; rank_is = refl; fits_alike = λ ue header. refl })
rule_is offers (Predefined index) r is = offer_is offers index (slice_get offers index) r refl is

-- ---- the entry that decides, and its rule
-- the rule of a decisive entry is the one that decides
pub entry_decides : (p : Setting) (j : Journal) (g : ℕ) (t : TableValue) (header : Header) (e : TableEntry) (r : Active) → Shows p j g t → NamesOnce (at p j g).rules →
    Contains (at p j g).rules r → StandsFor p j g e r → sources.source_fits p.catalog p.ue header e.source ≡ true →
    All (λ f. sources.source_fits p.catalog p.ue header f.source ≡ true → (f ≡ e) ⊎ GoesBefore p.catalog e f) t.entries →
    decisive (at p j g).rules p.ue header ≡ Some r
entry_decides p j g t header e r shows once there stands fitting first =
    let rules = (at p j g).rules in
    let e_is = rule_is p.catalog e.source r stands.rule_is in
    let r_fits : fits p.ue header r ≡ true = sym (e_is.fits_alike p.ue header) ∙ fitting in
    let goes : (s : Active) → Contains rules s → goes_ahead_of p.ue header r s ≡ true = λ s s_there.
    elim (cases_Bool (fits p.ue header s)) [
      | inr misses ↦ rw misses refl
      | inl hits ↦
          let w = shows.each s s_there in
          let f_is = rule_is p.catalog w.0.source s w.2.rule_is in
          let f_fits : sources.source_fits p.catalog p.ue header w.0.source ≡ true = f_is.fits_alike p.ue header ∙ hits in
          rw hits (elim (All-contains (λ f. sources.source_fits p.catalog p.ue header f.source ≡ true → (f ≡ e) ⊎ GoesBefore p.catalog e f) t.entries w.0 first w.1 f_fits) [
            | inl same ↦
                let one : s ≡ r = some_is s r (sym w.2.rule_is ∙ ap (λ (x : TableEntry). entry_rule p.catalog x.source) same ∙ stands.rule_is) in
                or_left (is_named r.properties.name s) (is_before r s) (same_name_of s.properties.name r.properties.name (ap (λ (x : Active). x.properties.name) one))
            | inr before ↦ or_right (is_named r.properties.name s) (is_before r s) (rw (e_is.rank_is, f_is.rank_is) at before)
          ])
    ] in
    let r_is : is_decisive rules p.ue header r ≡ true =
    and_from (fits p.ue header r) (list_all (goes_ahead_of p.ue header r) rules) r_fits (all_from (goes_ahead_of p.ue header r) rules goes) in
    find_one (is_decisive rules p.ue header) rules r there r_is (λ s s_there s_is. decisive_once rules p.ue header r s once there s_there r_is s_is)

-- where no entry fits, no rule does
none_decides : (p : Setting) (j : Journal) (g : ℕ) (t : TableValue) (header : Header) → Shows p j g t →
    All (λ e. sources.source_fits p.catalog p.ue header e.source ≡ false) t.entries → decisive (at p j g).rules p.ue header ≡ None
none_decides p j g t header shows none =
    let rules = (at p j g).rules in
    find_none (is_decisive rules p.ue header) rules (λ r there.
    let w = shows.each r there in
    let misses : fits p.ue header r ≡ false =
    sym ((rule_is p.catalog w.0.source r w.2.rule_is).fits_alike p.ue header) ∙ All-contains (λ e. sources.source_fits p.catalog p.ue header e.source ≡ false) t.entries w.0 none w.1 in
    rw misses refl)

-- ---- verdicts
bearer_same : (b : BearerId) (n : ℕ) → b.0 ≡ n → b ≡ record { 0 = n }
bearer_same b n is = ap (λ (m : ℕ). record { 0 = m }) is

pub shown_judges : (p : Setting) (j : Journal) (g : ℕ) (t : TableValue) (header : Header) (v : Verdict) → Shows p j g t → NamesOnce (at p j g).rules →
    IsVerdict p.catalog t.entries p.ue header v → v ≡ verdict_at p (at p j g) header
shown_judges p j g t header Stray shows once is = rw is refl
shown_judges p j g t header Unmatched shows once (own, none) = rw (own, none_decides p j g t header shows none) refl
shown_judges p j g t header (Gated rule) shows once (own, e, properties, decides, closed, name_is) =
    let w = shows.only e decides.there in
    let r_is = rule_is p.catalog e.source w.0 w.2.rule_is in
    let same : properties ≡ w.0.properties = some_is properties w.0.properties (sym decides.properties_are ∙ r_is.properties_are) in
    let closing : opens w.0.properties.gate header.dir ≡ false = ap (λ q. opens q.gate header.dir) (sym same) ∙ closed in
    rw (own, entry_decides p j g t header e w.0 shows once w.1 w.2 decides.fitting decides.first, closing)
    (ap Gated (name_is ∙ ap (λ (q : Properties). q.name) same))
shown_judges p j g t header (Passed rule bearer) shows once (own, e, properties, decides, opened, name_is, bearer_is) =
    let w = shows.only e decides.there in
    let r_is = rule_is p.catalog e.source w.0 w.2.rule_is in
    let same : properties ≡ w.0.properties = some_is properties w.0.properties (sym decides.properties_are ∙ r_is.properties_are) in
    let opening : opens w.0.properties.gate header.dir ≡ true = ap (λ q. opens q.gate header.dir) (sym same) ∙ opened in
    rw (own, entry_decides p j g t header e w.0 shows once w.1 w.2 decides.fitting decides.first, opening)
    (ap (λ n. Passed n bearer) (name_is ∙ ap (λ (q : Properties). q.name) same)
    ∙ ap (λ b. Passed w.0.properties.name b) (bearer_is ∙ bearer_same e.bearer ((at p j g).id_of w.0.properties.qos) w.2.bearer_is))
