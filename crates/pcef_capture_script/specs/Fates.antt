-- The outcomes of frames, and their packets.
use Rattle.std.specs.Prelude.{◌≡◌, ℕ, Bool, List, [], ◌∷◌, map, Option, Some, None, Result, Ok, Err, if◌then◌else◌}
use Rattle.std.specs.List.{filter_map}
use Rattle.pcef_packet.specs.declared.header.Addr.{Addr}
use Rattle.pcef_packet.specs.declared.header.Dir.{Dir}
use Rattle.pcef_packet.specs.declared.header.PacketFault.{PacketFault}
use Rattle.pcef_capture_file.specs.Captured.{Captured}
use Rattle.pcef_capture_file.specs.Contents.{IsContent}
use Rattle.pcef_capture_file.specs.Directions.{direction_of_packet}
use Rattle.pcef_capture_file.specs.Padding.{padded}
use Rattle.pcef_capture_file.specs.declared.content.Content.{Content}
use Rattle.pcef_capture_file.specs.declared.content.Content.TheVariants.{Packet, Neither, Cut, NotIp}
use Rattle.pcef_capture_script.specs.Lines.{Item}
use Rattle.pcef_capture_script.specs.declared.counts.Outcome.{Outcome}
use Rattle.pcef_capture_script.specs.declared.counts.Outcome.TheVariants as outcome

-- what a frame counts as, and the packet that has a line, if there is one
abbrev pub Fate : Type 0
Fate = Outcome × Option Item

-- a packet whose missing octets are filled in
abbrev pub filled_fate : List ℕ → Result (Option Dir) PacketFault → Fate
filled_fate octets (Ok (Some dir)) = (outcome.Taken, Some (dir, octets))
filled_fate octets (Ok None) = (outcome.Neither, None)
filled_fate octets (Err fault) = (outcome.Cut, None)

-- A packet of the session has a line. One that was recorded in part is left out, or filled with zeros.
abbrev pub fate_of : Addr → Bool → Content → Fate
fate_of ue pads (Packet dir octets) = (outcome.Taken, Some (dir, octets.now))
fate_of ue pads Neither = (outcome.Neither, None)
fate_of ue pads (Cut octets) =
    if pads then filled_fate (padded octets.now) (direction_of_packet ue (padded octets.now))
    else (outcome.Cut, None)
fate_of ue pads NotIp = (outcome.NotIp, None)

abbrev pub IsFate : Addr → Bool → Captured → Fate → Type 0
IsFate ue pads frame fate = (content : Content) × IsContent ue frame content × (fate ≡ fate_of ue pads content)

-- one after another
abbrev pub AreFates : Addr → Bool → List Captured → List Fate → Type 0
AreFates ue pads [] [] = Unit {0}
AreFates ue pads (frame ∷ frames) (fate ∷ fates) = IsFate ue pads frame fate × AreFates ue pads frames fates
AreFates ue pads [] (fate ∷ fates) = ⊥
AreFates ue pads (frame ∷ frames) [] = ⊥

abbrev pub outcomes_of : List Fate → List Outcome
outcomes_of fates = map (λ fate. fate.0) fates

abbrev pub items_of : List Fate → List Item
items_of fates = filter_map (λ fate. fate.1) fates
