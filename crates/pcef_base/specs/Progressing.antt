-- How far a program is (own choice).
use Rattle.std.specs.Prelude.{ℕ, ◌*◌, ◌/◌, min}
use Rattle.pcef_base.specs.declared.progress.Progress.{Progress}
use Rattle.pcef_base.specs.declared.progress.Watched.{Watched}

-- 100 at most, and 0 of nothing
abbrev pub percents_of : ℕ → ℕ → ℕ
percents_of done len = min (done * 100 / len) 100

abbrev pub octets_done : Progress → ℕ
octets_done p = p.done

abbrev pub octets_of_all : Progress → ℕ
octets_of_all p = p.len

-- the reader that is watched
abbrev pub watched_reader : {R : Type 0} → Watched R → R
watched_reader w = w.reader
