-- The sum of a name with some octets more.
use denote.Ref.{Bor}
use Rattle.std.proofs.Common.{◌≡◌, ◌+◌, ℕ, Bool, true, false, cond, List, Option, Some, BTreeMap, refl, sym, ap, subst, add-zero, if◌then◌else◌}
use Rattle.std.specs.BTreeMap.{get_by}
use Rattle.std.specs.Cmp.Lexicographic.{bytes_decides, slice_cmp}
use Rattle.std.specs.Ordering.{nat_cmp}
use Rattle.std.specs.Str.{bytes_eq}
use Rattle.pcef_page.specs.Sums.{IsSum, or_nought, sum_in}

more_by : (new old : BTreeMap (Bor (List ℕ)) (Option ℕ)) (name key : List ℕ) (octets n : ℕ) (sum : Option ℕ) (same : Bool) → bytes_eq name key ≡ same
    → ((m : ℕ) → IsSum m (sum_in old name) → IsSum (m + octets) sum)
    → get_by (λ k. slice_cmp nat_cmp key k.now) new ≡ cond same (Some sum) (get_by (λ k. slice_cmp nat_cmp key k.now) old)
    → IsSum n (sum_in old key) → IsSum (n + (if same then octets else 0)) (sum_in new key)
more_by new old name key octets n sum true is more now was =
    let named : name ≡ key = (bytes_decides name key).0 is in
    subst (IsSum (n + octets)) (sym (ap or_nought now)) (more n (subst (λ k. IsSum n (sum_in old k)) (sym named) was))
more_by new old name key octets n sum false is more now was =
    subst (λ m. IsSum m (sum_in new key)) (sym (add-zero n)) (subst (IsSum n) (sym (ap or_nought now)) was)

pub more_of : (new old : BTreeMap (Bor (List ℕ)) (Option ℕ)) (name key : List ℕ) (octets n : ℕ) (sum : Option ℕ)
    → ((m : ℕ) → IsSum m (sum_in old name) → IsSum (m + octets) sum)
    → get_by (λ k. slice_cmp nat_cmp key k.now) new ≡ cond (bytes_eq name key) (Some sum) (get_by (λ k. slice_cmp nat_cmp key k.now) old)
    → IsSum n (sum_in old key) → IsSum (n + (if bytes_eq name key then octets else 0)) (sum_in new key)
more_of new old name key octets n sum more now was = more_by new old name key octets n sum (bytes_eq name key) refl more now was
