-- Sums of octets over the figures of a script (own choice).
use denote.Ref.{Bor}
use Rattle.std.specs.Prelude.{ℕ, Bool, true, false, not, ◌≡◌, ◌≤◌, ◌^◌, List, Option, Some, None, is_some, string_bytes, ◌&&◌, if◌then◌else◌}
use Rattle.std.specs.BTreeMap.{BTreeMap, get_by}
use Rattle.std.specs.Cmp.Lexicographic.{slice_cmp}
use Rattle.std.specs.Ordering.{nat_cmp}
use Rattle.std.specs.List.{sum_by}
use Rattle.std.specs.Str.{bytes_eq}
use Rattle.pcef_page.specs.declared.figures.Judged.{Judged}
use Rattle.pcef_page.specs.declared.figures.Usage.{Usage}
use Rattle.pcef_page.specs.declared.figures.Verdict.{Verdict}
use Rattle.pcef_page.specs.declared.figures.Verdict.TheVariants.{Passed, Gated, Unmatched, Stray}
use Rattle.pcef_page.specs.declared.sums.Count.{Count}
use Rattle.pcef_page.specs.declared.sums.Count.TheVariants.{PacketsUp, PacketsDown, OctetsUp, OctetsDown, Octets}
use Rattle.pcef_page.specs.declared.sums.Count.TheVariants as count

-- ---- sums by name
-- a name that has no sum has 0
abbrev pub or_nought : Option (Option ℕ) → Option ℕ
or_nought None = Some 0
or_nought (Some sum) = sum

abbrev pub sum_in : BTreeMap (Bor (List ℕ)) (Option ℕ) → List ℕ → Option ℕ
sum_in sums name = or_nought (get_by (λ k. slice_cmp nat_cmp name k.now) sums)

-- none stands for a sum of 2^64 or more
abbrev pub IsSum : ℕ → Option ℕ → Type 0
IsSum octets None = 2 ^ 64 ≤ octets
IsSum octets (Some sum) = sum ≡ octets

-- ---- octets
-- the octets of the reports of a key
abbrev pub reported_for : List ℕ → Usage → ℕ
reported_for key u = if bytes_eq (string_bytes u.key) key then u.octets else 0

abbrev pub usage_octets : List ℕ → List Usage → ℕ
usage_octets key usage = sum_by (reported_for key) usage

-- ---- packets
-- a packet that passed has a bearer
abbrev pub passed : Judged → Bool
passed j = is_some j.bearer

abbrev pub passed_up : Judged → Bool
passed_up j = passed j && j.packet.is_up

abbrev pub passed_down : Judged → Bool
passed_down j = passed j && not j.packet.is_up

abbrev pub is_gated : Verdict → Bool
is_gated Passed = false
is_gated Gated = true
is_gated Unmatched = false
is_gated Stray = false

-- how much a packet adds to a count
abbrev pub weight : Count → Judged → ℕ
weight PacketsUp j = if passed_up j then 1 else 0
weight PacketsDown j = if passed_down j then 1 else 0
weight OctetsUp j = if passed_up j then j.packet.octets else 0
weight OctetsDown j = if passed_down j then j.packet.octets else 0
weight Octets j = if passed j then j.packet.octets else 0
weight count.Gated j = if is_gated j.verdict then 1 else 0

-- and to that of a rule
abbrev pub weight_by : Count → List ℕ → Judged → ℕ
weight_by count rule j = if bytes_eq (string_bytes j.rule) rule then weight count j else 0

abbrev pub counted_for_rule : Count → List ℕ → List Judged → ℕ
counted_for_rule count rule judged = sum_by (weight_by count rule) judged
