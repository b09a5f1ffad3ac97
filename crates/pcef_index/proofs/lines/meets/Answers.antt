use Rattle.std.proofs.Common.{◌≡◌, ◌∙◌, ℕ, true, ap, subst}
use Rattle.pcef_filter.specs.declared.filter.Place.{Place}
use Rattle.pcef_filter.specs.Matching.{place_fits}
use Rattle.pcef_packet.specs.Addresses.{agrees_in}
use Rattle.pcef_index.proofs.Owning.{meets_net}
use Rattle.pcef_index.proofs.lines.meets.Goals as goal

pub returns-in-Net : goal.returns-in-Net
returns-in-Net c a own fits =
    let net = c.in-Net.net in
    let ue = c.args.ue in
    let here : agrees_in net.bits a net.addr ≡ true = subst (λ (p : Place). place_fits p ue a ≡ true) c.in-Net.is fits in
    c.agrees_in.ensures ∙ ap (λ (bits : ℕ). agrees_in bits ue net.addr) c.shared_bits.ensures ∙ meets_net net.bits ue a net.addr own here
