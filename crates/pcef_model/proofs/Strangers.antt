-- A key that has no slot was never on, and no row counts for it.
use Rattle.std.proofs.Common.{◌≡◌, ◌∙◌, ◌&&◌, ◌||◌, not, ℕ, Bool, true, false, List, [], ◌∷◌, filter, length, nat_le, refl, sym, inl, inr}
use Rattle.std.proofs.lemmas.Bool.{cases_Bool}
use Rattle.pcef_model.specs.declared.command.Command.{Command}
use Rattle.pcef_model.specs.declared.command.Command.TheVariants.{Install, Activate, Remove, Monitor, Stop, ReportNow, Triggers, Notice, LoseBearer, Close, Terminate}
use Rattle.pcef_model.specs.declared.row.Row.{Row}
use Rattle.pcef_model.specs.Setting.{Setting, same_name}
use Rattle.pcef_model.specs.ActiveRules.{has_key}
use Rattle.pcef_model.specs.Generations.{add_if_some, made_by, oldest, rules_after, slots_of}
use Rattle.pcef_model.specs.Commands.{is_among, key_named, switched}
use Rattle.pcef_model.specs.Entries.{Journal}
use Rattle.pcef_model.specs.Journals.{at, counts, decision, passed_for, slots, tables}
use Rattle.pcef_model.proofs.Levels.{absent_before, among_add, no_or}

and_no : (a b : Bool) → b ≡ false → (a && b) ≡ false
and_no true b absent = absent
and_no false b absent = refl

pub among_fewer : (k : List ℕ) (test : List ℕ → Bool) (keys : List (List ℕ)) → is_among k keys ≡ false → is_among k (filter test keys) ≡ false
among_fewer k test [] absent = refl
among_fewer k test (m ∷ keys) absent =
    let parts = no_or (same_name k m) (is_among k keys) absent in
    elim (cases_Bool (test m)) [
      | inl passes ↦ rw passes (rw (parts.0, among_fewer k test keys parts.1) refl)
      | inr fails ↦ rw fails (among_fewer k test keys parts.1)
    ]

switched_off : (p : Setting) (c : Command) (keys on : List (List ℕ)) (k : List ℕ) →
    is_among k (add_if_some (key_named p c) keys) ≡ false → is_among k on ≡ false → is_among k (switched c on) ≡ false
switched_off p (Monitor l amount level) keys on k absent off =
    among_add k l on ∙ (let parts = no_or (is_among k keys) (same_name k l) (sym (among_add k l keys) ∙ absent) in rw (off, parts.1) refl)
switched_off p (Stop l) keys on k absent off = among_fewer k (λ m. not (same_name l m)) on off
switched_off p Terminate keys on k absent off = refl
switched_off p (Install rule) keys on k absent off = off
switched_off p (Activate name) keys on k absent off = off
switched_off p (Remove name) keys on k absent off = off
switched_off p (ReportNow l) keys on k absent off = off
switched_off p (Triggers set) keys on k absent off = off
switched_off p (Notice kind value) keys on k absent off = off
switched_off p (LoseBearer id) keys on k absent off = off
switched_off p Close keys on k absent off = off

pub stranger_off : (p : Setting) (cs : List Command) (k : List ℕ) → is_among k (slots_of p cs) ≡ false → is_among k (made_by p cs).on ≡ false
unfolding made_by slots_of
stranger_off p [] k absent = refl
stranger_off p (c ∷ cs) k absent =
    let off = stranger_off p cs k (absent_before k (key_named p c) (slots_of p cs) absent) in
    among_fewer k (λ l. not (has_key l (made_by p cs).rules) || has_key l (rules_after p (made_by p cs) c)) _ (switched_off p c (slots_of p cs) (made_by p cs).on k absent off)

stranger_older : (p : Setting) (n : ℕ) (cs : List Command) (k : List ℕ) → is_among k (slots_of p cs) ≡ false → is_among k (slots_of p (oldest n cs)) ≡ false
unfolding oldest slots_of
stranger_older p n [] k absent = refl
stranger_older p n (c ∷ cs) k absent =
    elim (cases_Bool (nat_le n (length cs))) [
      | inl is ↦ rw is (stranger_older p n cs k (absent_before k (key_named p c) (slots_of p cs) absent))
      | inr isnt ↦ rw isnt absent
    ]

pub stranger_counts : (p : Setting) (j : Journal) (k : List ℕ) (r : Row) → is_among k (slots p j) ≡ false → counts p j k r ≡ false
stranger_counts p j k r absent =
    and_no (passed_for (at p j r.generation) k (decision p (at p j r.generation) r.header)) (is_among k (at p j r.generation).on)
    (stranger_off p (oldest r.generation (tables j)) k (stranger_older p r.generation (tables j) k absent))
