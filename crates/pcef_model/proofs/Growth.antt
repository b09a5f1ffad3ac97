-- What one more entry changes in what a journal says, and what it doesn't.
use Rattle.std.proofs.Common.{◌≡◌, ◌≤◌, ◌+◌, ◌∙◌, ℕ, suc, Bool, true, false, List, [], ◌∷◌, length, refl, ap, arith, inl, inr, nat_le}
use Rattle.std.specs.Prelude.{if◌then◌else◌}
use Rattle.std.proofs.lemmas.Bool.{le-leb, lt-leb, cases_Bool}
use Rattle.pcef_model.specs.declared.command.Command.{Command}
use Rattle.pcef_model.specs.declared.entry.Entry.TheVariants as entry
use Rattle.pcef_model.specs.declared.report.Report.{Report}
use Rattle.pcef_model.specs.declared.row.Row.{Row}
use Rattle.pcef_model.specs.Setting.{Setting}
use Rattle.pcef_model.specs.Generations.{Generation, made_by, next, oldest}
use Rattle.pcef_model.specs.Entries.{Journal, rows}
use Rattle.pcef_model.specs.Journals.{at, counted, counts, counts_in, gen, now, octets_of, tables}
use Rattle.pcef_model.specs.Commands.{is_table}

pub tables_of_table : (j : Journal) (c : Command) → is_table c ≡ true → tables (entry.Command c ∷ j) ≡ c ∷ tables j
tables_of_table j c is = rw is refl

pub tables_of_other : (j : Journal) (c : Command) → is_table c ≡ false → tables (entry.Command c ∷ j) ≡ tables j
tables_of_other j c is = rw is refl

-- a table command makes the next generation
pub now_after_table : (p : Setting) (j : Journal) (c : Command) → is_table c ≡ true → now p (entry.Command c ∷ j) ≡ next p (now p j) c
unfolding made_by
now_after_table p j c is = ap (made_by p) (tables_of_table j c is)

pub gen_after_table : (j : Journal) (c : Command) → is_table c ≡ true → gen (entry.Command c ∷ j) ≡ suc (gen j)
gen_after_table j c is = ap length (tables_of_table j c is)

-- the oldest of a list stay as it grows
pub oldest-more : {A : Type 0} (n : ℕ) (x : A) (xs : List A) → n ≤ length xs → oldest n (x ∷ xs) ≡ oldest n xs
unfolding oldest
oldest-more n x xs within = rw (le-leb n (length xs) within) refl

pub oldest-all : {A : Type 0} (xs : List A) → oldest (length xs) xs ≡ xs
unfolding oldest
oldest-all [] = refl
oldest-all (x ∷ xs) =
    let past : nat_le (suc (length xs)) (length xs) ≡ false = lt-leb (suc (length xs)) (length xs) (omega arith) in rw past refl

-- an earlier generation stays as commands come
pub at_after_command : (p : Setting) (j : Journal) (c : Command) (g : ℕ) → g ≤ gen j → at p (entry.Command c ∷ j) g ≡ at p j g
at_after_command p j c g within =
    elim (cases_Bool (is_table c)) [
      | inl is ↦ ap (λ cs. made_by p (oldest g cs)) (tables_of_table j c is) ∙ ap (made_by p) (oldest-more g c (tables j) within)
      | inr is ↦ ap (λ cs. made_by p (oldest g cs)) (tables_of_other j c is)
    ]

-- the newest generation is the last
pub at_newest : (p : Setting) (j : Journal) → at p j (gen j) ≡ now p j
at_newest p j = ap (made_by p) (oldest-all (tables j))

pub at_after_row : (p : Setting) (j : Journal) (r : Row) (g : ℕ) → at p (entry.Row r ∷ j) g ≡ at p j g
at_after_row p j r g = refl

pub at_after_report : (p : Setting) (j : Journal) (r : Report) (g : ℕ) → at p (entry.Report r ∷ j) g ≡ at p j g
at_after_report p j r g = refl

-- a row adds its octets where it counts
pub counted_after_row : (p : Setting) (j : Journal) (key : List ℕ) (r : Row) →
    counted p (entry.Row r ∷ j) key ≡ (if counts p j key r then r.header.octets else 0) + counted p j key
unfolding octets_of
counted_after_row p j key r = refl

-- ---- rows of generations that were made
unfoldable pub Known : ℕ → List Row → Type 0
Known n [] = Unit {0}
Known n (r ∷ rs) = (r.generation ≤ n) × Known n rs

pub known-more : (m n : ℕ) (rs : List Row) → m ≤ n → Known m rs → Known n rs
unfolding Known
known-more m n [] le known = tt
known-more m n (r ∷ rs) le known = (omega (arith, known.0), known-more m n rs le known.1)

-- two tests that agree on known rows
pub octets_agree : (s t : Row → Bool) (n : ℕ) (rs : List Row) → ((r : Row) → r.generation ≤ n → s r ≡ t r) → Known n rs → octets_of s rs ≡ octets_of t rs
unfolding octets_of Known
octets_agree s t n [] same known = refl
octets_agree s t n (r ∷ rs) same known = rw (same r known.0, octets_agree s t n rs same known.1) refl

-- a command counts no row anew
pub counted_after_command : (p : Setting) (j : Journal) (key : List ℕ) (c : Command) → Known (gen j) (rows j) →
    counted p (entry.Command c ∷ j) key ≡ counted p j key
counted_after_command p j key c known =
    octets_agree (counts p (entry.Command c ∷ j) key) (counts p j key) (gen j) (rows j)
    (λ r within. ap (λ (g : Generation). counts_in p g key r.header) (at_after_command p j c r.generation within)) known

pub gen_grows : (j : Journal) (c : Command) → gen j ≤ gen (entry.Command c ∷ j)
gen_grows j c =
    elim (cases_Bool (is_table c)) [
      | inl is ↦ let more : gen (entry.Command c ∷ j) ≡ suc (gen j) = gen_after_table j c is in omega arith
      | inr is ↦ let same : gen (entry.Command c ∷ j) ≡ gen j = ap length (tables_of_other j c is) in omega arith
    ]
