use Rattle.std.proofs.Common.{◌-◌, ◌/◌, ◌^◌, ◌==◌, ◌∙◌, ℕ, ap}
use Rattle.pcef_packet.proofs.Differences.{same_in_front}
use Rattle.pcef_packet.proofs.header.is_same_wide_front.Goals as goal

pub returns-else-rest : goal.returns-else-rest
returns-else-rest c =
    same_in_front c.args.a c.args.b c.saturating_sub-rest.result
    ∙ ap (λ (k : ℕ). (c.args.a / 2 ^ k) == (c.args.b / 2 ^ k)) c.saturating_sub-rest.ensures
