-- Each frame has a fate.
use Rattle.std.proofs.Common.{◌≡◌, ℕ, Bool, List, [], ◌∷◌, ◌++◌, length, inl, inr, None, Some, Ok, Err, refl, subst}
use Rattle.std.specs.Prelude.{◌≢◌, Option, Result}
use Rattle.std.proofs.lemmas.Bool.{cases_lt}
use Rattle.pcef_packet.specs.declared.header.Addr.{Addr}
use Rattle.pcef_packet.specs.declared.header.Dir.{Dir}
use Rattle.pcef_packet.specs.declared.header.PacketFault.{PacketFault}
use Rattle.pcef_packet.specs.declared.header.PacketFault.TheVariants as fault
use Rattle.pcef_capture_file.specs.Captured.{Captured}
use Rattle.pcef_capture_file.specs.Contents.{Holds, IsContent}
use Rattle.pcef_capture_file.specs.Directions.{direction_of_packet}
use Rattle.pcef_capture_file.specs.Frames.{ip_in}
use Rattle.pcef_capture_file.specs.declared.content.Content.{Content}
use Rattle.pcef_capture_file.specs.declared.content.Content.TheVariants.{Packet, Neither, Cut, NotIp}
use Rattle.pcef_capture_script.specs.Fates.{AreFates, Fate, IsFate, fate_of}

-- a packet whose header is wrong
wrong_content : (ue : Addr) (p : Captured) (octets : List ℕ) (f : PacketFault) → Holds p octets → direction_of_packet ue octets ≡ Err f → f ≢ fault.Version → (content : Content) × IsContent ue p content
wrong_content ue p octets f holds is differs =
    elim (cases_lt (length p.octets) p.original) [
      | inl cut ↦ (Cut (record { ref_ptr = (0, 0); now = octets }), (cut, holds, f, is, differs))
      | inr whole ↦ (
        NotIp,
        λ other there.
            let same : octets ≡ other = cc (holds, there) in
            (f, subst (λ o. direction_of_packet ue o ≡ Err f) same is, inr whole),
      )
    ]

-- the octets that the frame has in the place of a packet
content_at : (ue : Addr) (p : Captured) (octets : List ℕ) → Holds p octets → (r : Result (Option Dir) PacketFault) → direction_of_packet ue octets ≡ r → (content : Content) × IsContent ue p content
content_at ue p octets holds (Ok (Some dir)) is = (Packet dir (record { ref_ptr = (0, 0); now = octets }), (holds, is))
content_at ue p octets holds (Ok None) is = (Neither, (octets, holds, is))
content_at ue p octets holds (Err fault.Version) is = (
  NotIp,
  λ other there.
      let same : octets ≡ other = cc (holds, there) in
      (fault.Version, subst (λ o. direction_of_packet ue o ≡ Err fault.Version) same is, inl refl),
)
content_at ue p octets holds (Err f) is = wrong_content ue p octets f holds is (λ e. cc e)

content_in : (ue : Addr) (p : Captured) (found : Option (List ℕ)) → ip_in p.link p.endianness p.octets ≡ found → (content : Content) × IsContent ue p content
content_in ue p None is = (NotIp, λ octets there. absurd (cc (is, there)))
content_in ue p (Some octets) is = content_at ue p octets is (direction_of_packet ue octets) refl

pub fate_there : (ue : Addr) (pads : Bool) (p : Captured) → (fate : Fate) × IsFate ue pads p fate
fate_there ue pads p =
    let c = content_in ue p (ip_in p.link p.endianness p.octets) refl in
    (fate_of ue pads c.0, (c.0, c.1, refl))

pub fates_there : (ue : Addr) (pads : Bool) (frames : List Captured) → (fates : List Fate) × AreFates ue pads frames fates
fates_there ue pads [] = ([], tt)
fates_there ue pads (frame ∷ frames) =
    let first = fate_there ue pads frame in
    let rest = fates_there ue pads frames in
    (first.0 ∷ rest.0, (first.1, rest.1))

pub fates_both : (ue : Addr) (pads : Bool) (frames more : List Captured) (fates others : List Fate) →
    AreFates ue pads frames fates → AreFates ue pads more others → AreFates ue pads (frames ++ more) (fates ++ others)
fates_both ue pads [] more [] others are rest = rest
fates_both ue pads (x ∷ frames) more (f ∷ fates) others are rest = (are.0, fates_both ue pads frames more fates others are.1 rest)
fates_both ue pads [] more (f ∷ fates) others are rest = absurd are
fates_both ue pads (x ∷ frames) more [] others are rest = absurd are
