use Rattle.std.proofs.Common.{◌-◌, ◌/◌, ◌^◌, ◌==◌, ◌∙◌, ℕ, ap}
use Rattle.pcef_packet.proofs.Differences.{same_in_front}
use Rattle.pcef_packet.proofs.header.is_same_front.Goals as goal

pub returns : goal.returns
returns c =
    ap (λ (n : ℕ). (n / 2 ^ c.saturating_sub.result) == 0) c.from.ensures
    ∙ same_in_front c.args.a c.args.b c.saturating_sub.result
    ∙ ap (λ (k : ℕ). (c.args.a / 2 ^ k) == (c.args.b / 2 ^ k)) c.saturating_sub.ensures
