-- What is led is a beginning of what is to be led.
use Rattle.std.proofs.Common.{◌≡◌, ◌∙◌, ◌==◌, ℕ, ◌<◌, Bool, true, false, List, [], ◌∷◌, ◌++◌, length, Option, Some, None, refl, sym, ap, subst, append_assoc, append-nil, arith}
use Rattle.std.specs.Io.KnownBytes.{Consumes, IsAtEnd}
use Rattle.std.specs.declared.hash.RandomState.{RandomState}
use Rattle.std.proofs.lemmas.Bool.{eqb-true}
use Rattle.pcef_script.specs.ScriptLines.{has_feed}
use Rattle.pcef_script.specs.Scripts.{last_line}
use Rattle.pcef_shards.specs.declared.sorting.Sorting.{Sorting}
use Rattle.pcef_shards.specs.Leading.{IfKnown, part_known}
use Rattle.pcef_shards.specs.Parts.{part_of, part_so_far}
use Rattle.pcef_shards.specs.Picks.{is_settled, thread_of}
use Rattle.pcef_shards.specs.Sorted.{IsSorted, Stays}
use Rattle.pcef_shards.specs.Ways.{Begins, LeadsAll, led_to}
use Rattle.pcef_shards.proofs.Fronts.{same_thread, still_settled}
use Rattle.pcef_shards.proofs.Sortings.{feed_more, settled_more, unsettled_more, whole_by}

abbrev Pick : Type 0
Pick = List ℕ → ℕ

-- ---- beginnings
begins_more : (a b c : List ℕ) → Begins a b → Begins b c → Begins a c
begins_more a b c h k = (h.0 ++ k.0, k.1 ∙ ap (λ t. t ++ k.0) h.1 ∙ append_assoc a h.0 k.0)

-- more octets don't change where a settled line goes
abbrev Steady : Pick → Type 0
Steady pick = (line more : List ℕ) → is_settled line ≡ true → pick (line ++ more) ≡ pick line

run_more : (pick : Pick) → Steady pick → (t : ℕ) (input run : List ℕ) → has_feed run ≡ false → (settled : Bool) → is_settled (last_line input) ≡ settled → Begins (part_so_far pick t input) (part_so_far pick t (input ++ run))
run_more pick steady t input run none true is =
    (_, settled_more pick t input run none is (still_settled (last_line input) run is) (steady (last_line input) run is))
run_more pick steady t input run none false isnt = (_, unsettled_more pick t input run none isnt)

whole_more : (pick : Pick) (t : ℕ) (input : List ℕ) → Begins (part_so_far pick t input) (part_of pick t input)
whole_more pick t input = (_, whole_by pick t input (is_settled (last_line input)) refl)

octet_more : (pick : Pick) → Steady pick → (t : ℕ) (input : List ℕ) (b : ℕ) (feed : Bool) → (b == 10) ≡ feed → Begins (part_so_far pick t input) (part_so_far pick t (input ++ b ∷ []))
octet_more pick steady t input b true is =
    let here : b ≡ 10 = eqb-true b 10 is in
    subst (λ x. Begins (part_so_far pick t input) (part_so_far pick t (input ++ x ∷ []))) (sym here)
    (begins_more (part_so_far pick t input) (part_of pick t input) (part_so_far pick t (input ++ 10 ∷ [])) (whole_more pick t input) (_, feed_more pick t input))
octet_more pick steady t input b false isnt = run_more pick steady t input (b ∷ []) (rw isnt refl) (is_settled (last_line input)) refl

part_begins : (pick : Pick) → Steady pick → (t : ℕ) (input more : List ℕ) → Begins (part_so_far pick t input) (part_of pick t (input ++ more))
part_begins pick steady t input [] = subst (λ x. Begins (part_so_far pick t input) (part_of pick t x)) (sym (append-nil input)) (whole_more pick t input)
part_begins pick steady t input (b ∷ more) =
    subst (λ x. Begins (part_so_far pick t input) (part_of pick t x)) (append_assoc input (b ∷ []) more)
    (begins_more (part_so_far pick t input) (part_so_far pick t (input ++ b ∷ [])) (part_of pick t ((input ++ b ∷ []) ++ more))
    (octet_more pick steady t input b (b == 10) refl) (part_begins pick steady t (input ++ b ∷ []) more))

-- ---- what is known of the input
pub so_far_begins : (keys : RandomState) (threads t : ℕ) (known now : Option (List ℕ)) (input front : List ℕ) → Consumes known now input → front ≡ part_so_far (thread_of keys threads) t input
    → IfKnown (part_known keys threads known t) (Begins front)
so_far_begins keys threads t None now input front read is = tt
so_far_begins keys threads t (Some whole) None input front read is = absurd read
so_far_begins keys threads t (Some whole) (Some rest) input front read is =
    let begins = part_begins (thread_of keys threads) (same_thread keys threads) t input rest in
    (begins.0, ap (part_of (thread_of keys threads) t) read ∙ begins.1 ∙ ap (λ x. x ++ begins.0) (sym is))

pub whole_is : (keys : RandomState) (threads t : ℕ) (known now : Option (List ℕ)) (input front : List ℕ) → Consumes known now input → IsAtEnd now → front ≡ part_of (thread_of keys threads) t input
    → IfKnown (part_known keys threads known t) (λ whole. whole ≡ front)
whole_is keys threads t None now input front read end is = tt
whole_is keys threads t (Some whole) None input front read end is = absurd read
whole_is keys threads t (Some whole) (Some rest) input front read end is =
    ap (part_of (thread_of keys threads) t) (read ∙ ap (λ x. input ++ x) end ∙ append-nil input) ∙ sym is

pub whole_begins : (part : Option (List ℕ)) (front : List ℕ) → IfKnown part (λ whole. whole ≡ front) → IfKnown part (Begins front)
whole_begins None front h = tt
whole_begins (Some whole) front h = ([], h ∙ sym (append-nil front))

-- what waited was led
pub led_sorted : (keys : RandomState) (threads : ℕ) (input : List ℕ) (old new : List (List ℕ)) (s now : Sorting) → length old ≡ threads → LeadsAll old s new now → Stays s now → IsSorted keys threads (led_to old) s input
    → IsSorted keys threads (led_to new) now input
led_sorted keys threads input old new s now many all stays h = record {
  keys_are = ap (λ p. p.keys) stays.picking_stays ∙ h.keys_are;
  threads_are = ap (λ p. p.threads) stays.picking_stays ∙ h.threads_are;
  many = stays.many_stay ∙ h.many;
  line_is = stays.line_stays ∙ h.line_is;
  thread_is = stays.thread_stays ∙ h.thread_is;
  parts_are = λ t lt.
      let inside : t < length old = omega (arith, lt, many) in
      ap (λ x. led_to new t ++ x) (all.none t inside) ∙ append-nil (led_to new t) ∙ all.led t inside ∙ h.parts_are t lt;
}
