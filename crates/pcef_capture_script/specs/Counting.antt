-- What is counted: each frame, and once more by its outcome.
use Rattle.std.specs.Prelude.{ℕ, ◌+◌, ◌-◌, ◌^◌, min, List, fold}
use Rattle.pcef_capture_script.specs.declared.counts.Counts.{Counts}
use Rattle.pcef_capture_script.specs.declared.counts.Outcome.{Outcome}
use Rattle.pcef_capture_script.specs.declared.counts.Outcome.TheVariants.{Taken, NotIp, Cut, Neither}

-- one more, up to the greatest number
abbrev pub more : ℕ → ℕ
more n = min (n + 1) (2 ^ 64 - 1)

abbrev pub with_counted : Outcome → Counts → Counts
with_counted Taken c = record c { read = more c.read; taken = more c.taken }
with_counted NotIp c = record c { read = more c.read; not_ip = more c.not_ip }
with_counted Cut c = record c { read = more c.read; cut = more c.cut }
with_counted Neither c = record c { read = more c.read; neither = more c.neither }

abbrev pub no_counts : Counts
no_counts = record { read = 0; taken = 0; not_ip = 0; cut = 0; neither = 0 }

-- the counts of all outcomes
abbrev pub counts_of : List Outcome → Counts
counts_of outcomes = fold (λ counts outcome. with_counted outcome counts) no_counts outcomes
