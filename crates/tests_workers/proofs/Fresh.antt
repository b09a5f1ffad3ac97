-- A session whose journal is empty.
use Rattle.std.proofs.Common.{◌≡◌, [], refl}
use Rattle.pcef_model.specs.Bearers.{sum_down, sum_up}
use Rattle.pcef_model.specs.Entries.{Journal}
use Rattle.pcef_model.specs.Generations.{made_by}
use Rattle.pcef_model.specs.Journals.{attach_count}
use Rattle.pcef_model.specs.Refusals.{total_now}
use Rattle.pcef_model.specs.Setting.{Setting}
use Rattle.pcef_share.specs.Rates.{no_rates}

pub no_rates_yet : (p : Setting) (j : Journal) → j ≡ [] → total_now p j ≡ no_rates
unfolding made_by sum_up sum_down
no_rates_yet p j fresh = rw fresh refl

pub no_worker_yet : (j : Journal) → j ≡ [] → attach_count j ≡ 0
unfolding attach_count
no_worker_yet j fresh = rw fresh refl
