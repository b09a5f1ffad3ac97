-- What it takes to pass over extension headers.
use Rattle.std.proofs.Common.{ℕ, zero, suc, ◌≡◌, ◌+◌, ◌-◌, ◌*◌, ◌<◌, ◌≤◌, ◌∙◌, List, length, drop, inl, inr, Result, Ok, Err, refl, sym, ap, arith, true, false}
use Rattle.std.specs.Prelude.{◌==◌, ◌≢◌, nat_lt}
use Rattle.std.proofs.lemmas.Bool.{cases_Bool}
use Rattle.std.proofs.lemmas.Bool.Decides.{nat_tests}
use Rattle.std.proofs.lemmas.List.{length-drop}
use Rattle.pcef_base.specs.Readings.{◌>>=◌}
use Rattle.pcef_gtp.specs.Messages.{behind_extensions, behind_within, past}
use Rattle.pcef_gtp.specs.Numbers.{octet_at}
use Rattle.pcef_gtp.specs.declared.refusal.NotTunneled.{NotTunneled}

-- a header takes octets
past_shorter : (octets : List ℕ) (found : ℕ × List ℕ) → past octets ≡ Ok found → length found.1 < length octets
unfolding past
past_shorter octets found is =
    let units = octet_at octets 0 in
    elim (cases_Bool (units == 0)) [
      | inl none ↦ absurd (let clash = rw none at is in cc)
      | inr some ↦
          elim (cases_Bool (nat_lt (length octets) (units * 4))) [
            | inl cut ↦ absurd (let clash = rw (some, cut) at is in cc)
            | inr whole ↦
                let same : found ≡ (octet_at octets (units * 4 - 1), drop (units * 4) octets) = let there = rw (some, whole) at is in cc in
                let rest : length found.1 ≡ length (drop (units * 4) octets) = ap (λ (q : ℕ × List ℕ). length q.1) same in
                let least : 0 < units = grind (arith, nat_tests) in
                let within : units * 4 ≤ length octets = grind (arith, nat_tests) in
                omega (arith, rest, least, within, length-drop (units * 4) octets)
          ]
    ]

-- any number of headers that the octets can't hold serves
enough : (m n kind : ℕ) (octets : List ℕ) → length octets < m → length octets < n → behind_within m kind octets ≡ behind_within n kind octets
unfolding behind_within
enough zero n kind octets h k = absurd (omega arith)
enough (suc m) zero kind octets h k = absurd (omega arith)
enough (suc m) (suc n) kind octets h k = go (past octets) refl (λ next rest shorter. enough m n next rest (omega arith) (omega arith))
  where
    go : (r : Result (ℕ × List ℕ) NotTunneled) → past octets ≡ r → ((next : ℕ) (rest : List ℕ) → length rest < length octets → behind_within m next rest ≡ behind_within n next rest)
        → behind_within (suc m) kind octets ≡ behind_within (suc n) kind octets
    go (Err e) is same = rw is refl
    go (Ok found) is same =
        let shorter = past_shorter octets found is in
        rw (is, same found.0 found.1 shorter) refl

-- the first step
step : (kind : ℕ) (octets : List ℕ) → kind ≢ 0 → behind_extensions kind octets ≡ (past octets >>= (λ found. behind_within (length octets) found.0 found.1))
unfolding behind_within
step kind octets some =
    let one : length octets + 1 ≡ suc (length octets) = omega arith in
    let test : (kind == 0) ≡ false = grind (arith, nat_tests) in
    let opened : behind_within (suc (length octets)) kind octets ≡ (past octets >>= (λ found. behind_within (length octets) found.0 found.1)) = rw test refl in
    ap (λ (n : ℕ). behind_within n kind octets) one ∙ opened

pub none_more : (kind : ℕ) (octets : List ℕ) (whole : Result (List ℕ) NotTunneled) → behind_extensions kind octets ≡ whole → kind ≡ 0 → whole ≡ Ok octets
unfolding behind_within
none_more kind octets whole is none =
    let one : length octets + 1 ≡ suc (length octets) = omega arith in
    let test : (kind == 0) ≡ true = grind (arith, nat_tests) in
    let opened : behind_within (suc (length octets)) kind octets ≡ Ok octets = rw test refl in
    sym is ∙ ap (λ (n : ℕ). behind_within n kind octets) one ∙ opened

pub refused : (kind : ℕ) (octets : List ℕ) (whole : Result (List ℕ) NotTunneled) (e : NotTunneled) → behind_extensions kind octets ≡ whole → kind ≢ 0 → past octets ≡ Err e → whole ≡ Err e
refused kind octets whole e is some why =
    sym is ∙ step kind octets some ∙ ap (λ r. r >>= (λ (found : ℕ × List ℕ). behind_within (length octets) found.0 found.1)) why

pub passed : (kind next : ℕ) (octets rest : List ℕ) (whole : Result (List ℕ) NotTunneled) → behind_extensions kind octets ≡ whole → kind ≢ 0 → past octets ≡ Ok (next, rest) → behind_extensions next rest ≡ whole
passed kind next octets rest whole is some there =
    let shorter = past_shorter octets (next, rest) there in
    enough (length rest + 1) (length octets) next rest (omega arith) shorter
    ∙ sym (step kind octets some ∙ ap (λ r. r >>= (λ (found : ℕ × List ℕ). behind_within (length octets) found.0 found.1)) there) ∙ is
