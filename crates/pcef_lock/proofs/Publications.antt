-- The published tables stay those of their generations as the journal grows.
use Rattle.std.proofs.Common.{◌≡◌, ◌∙◌, ◌<◌, ◌+◌, ℕ, zero, suc, Bool, true, false, List, [], ◌∷◌, ◌++◌, length, refl, sym, ap, subst, arith, inl, inr, Some, None}
use Rattle.std.specs.Prelude.{IfSome, Option, if◌then◌else◌, slice_get}
use Rattle.std.specs.Option.{option_to_list}
use Rattle.std.proofs.lemmas.Bool.{cases_lt}
use Rattle.std.proofs.lemmas.List.{append-nil, length_push}
use Rattle.pcef_table.specs.Tables.{IsTable, TableValue}
use Rattle.pcef_model.specs.declared.command.Command.{Command}
use Rattle.pcef_model.specs.Setting.{Setting}
use Rattle.pcef_model.specs.Commands.{is_table}
use Rattle.pcef_model.specs.Entries.{Journal}
use Rattle.pcef_model.specs.Journals.{gen, tables}
use Rattle.pcef_model.specs.Reports.{after_command}
use Rattle.pcef_model.proofs.AfterEvents.{gen_after, tables_after}
use Rattle.pcef_model.proofs.Growth.{tables_of_other}
use Rattle.pcef_model.proofs.JournalExtends.{JournalExtends, extends_by_command}
use Rattle.pcef_session.specs.Preparing.{IsTableAfter}
use Rattle.pcef_session.specs.Shown.{Shows}
use Rattle.pcef_session.proofs.ShownLater.{shows_later, shows_same}
use Rattle.pcef_lock.specs.Published.{ArePublished}
use Rattle.pcef_lock.proofs.Places.{get_end, get_left, get_within}

-- where no table command came
pub published_same : (p : Setting) (j k : Journal) (first : ℕ) (ts : List TableValue) → tables k ≡ tables j → ArePublished p j first ts → ArePublished p k first ts
published_same p j k first ts same is = record {
  through = is.through ∙ ap (λ n. n + 1) (sym (ap length same));
  shown = λ n t at. shows_same p j k (first + n) t same (is.shown n t at);
}

-- the table of the next generation is published
published_next : (p : Setting) (j k : Journal) (first : ℕ) (ts : List TableValue) (new : TableValue) → JournalExtends p j k → gen k ≡ gen j + 1 → Shows p k (gen k) new → ArePublished p j first ts →
    ArePublished p k first (ts ++ new ∷ [])
published_next p j k first ts new extends more shows is = record {
  through = omega (arith, is.through, more, length_push ts new);
  shown = λ n t at.
      elim (cases_lt n (length ts)) [
        | inl inside ↦
            let old : Shows p j (first + n) t = is.shown n t (sym (get_left ts (new ∷ []) n inside) ∙ at) in
            shows_later p j k (first + n) t (extends.at_is (first + n) (omega (arith, is.through, inside))) extends.grows old
        | inr past ↦
            let within : n < length (ts ++ new ∷ []) = get_within (ts ++ new ∷ []) n t at in
            let last : length ts ≡ n = omega (arith, within, past, length_push ts new) in
            let newest : gen k ≡ first + n = omega (arith, is.through, more, last) in
            let same : Some new ≡ Some t = sym (get_end ts new) ∙ ap (slice_get (ts ++ new ∷ [])) last ∙ at in
            let new_is : new ≡ t = cc in
            subst (λ u. Shows p k (first + n) u) new_is (subst (λ g. Shows p k g new) newest shows)
      ];
}

-- how many generations there are after a command
gen_more : (p : Setting) (j : Journal) (c : Command) (b : Bool) → is_table c ≡ b → gen (after_command p j c) ≡ gen j + (if b then 1 else 0)
gen_more p j c b is =
    let more : gen (after_command p j c) ≡ (if b then 1 else 0) + gen j = gen_after p j c ∙ ap (λ (x : Bool). (if x then 1 else 0) + gen j) is in
    omega (arith, more)

-- a command came, with the table that it makes, if it makes one
pub published_command : (p : Setting) (j : Journal) (c : Command) (first : ℕ) (ts : List TableValue) (made : Option TableValue) → IsTableAfter p (after_command p j c) c made → ArePublished p j first ts →
    ArePublished p (after_command p j c) first (ts ++ option_to_list made)
published_command p j c first ts None is published =
    let none : is_table c ≡ false = sym is.makes in
    rw (append-nil ts) (published_same p j (after_command p j c) first ts (tables_after p j c ∙ tables_of_other j c none) published)
published_command p j c first ts (Some new) is published =
    published_next p j (after_command p j c) first ts new (extends_by_command p j c) (gen_more p j c true (sym is.makes)) is.shows published

-- it is the next one
pub next_table : (p : Setting) (j : Journal) (c : Command) (first : ℕ) (ts : List TableValue) (made : Option TableValue) → IsTableAfter p (after_command p j c) c made → ArePublished p j first ts →
    IfSome made (λ t. (t.number ≡ first + length ts) × IsTable p.catalog t.entries)
next_table p j c first ts None is published = tt
next_table p j c first ts (Some new) is published =
    let shows : Shows p (after_command p j c) (gen (after_command p j c)) new = is.shows in
    let more = gen_more p j c true (sym is.makes) in
    (omega (arith, shows.number_is, more, published.through), shows.ordered)

-- the newest table alone, of which the session has its generation
pub published_first : (p : Setting) (j : Journal) (t : TableValue) → Shows p j (gen j) t → ArePublished p j (gen j) (t ∷ [])
published_first p j t shows = record { through = refl; shown = each }
  where
    each : (n : ℕ) (u : TableValue) → slice_get (t ∷ []) n ≡ Some u → Shows p j (gen j + n) u
    each zero u at =
        let same : t ≡ u = cc in
        subst (λ x. Shows p j (gen j + 0) x) same (subst (λ g. Shows p j g t) (omega arith) shows)
    each (suc n) u at = absurd cc
