-- What the first CCR tells of a session, beside what each CCR has (TS 29.212, clauses 4.5.1 and 5.6.2).
use Rattle.std.specs.Prelude.{ℕ, ◌++◌, Bool, List, [], ◌∷◌, take, if◌then◌else◌}
use Rattle.std.specs.Int.{w32, w128, to_be_bytes}
use Rattle.pcef_diameter.specs.Avps.{Shown}
use Rattle.pcef_diameter.specs.Spellings.{avps_octets}
use Rattle.pcef_gx.specs.Codes.{allocation_retention_priority, default_eps_bearer_qos, framed_ip_address, framed_ipv6_prefix, ip_can_type, pre_emption_capability, pre_emption_vulnerability, priority_level, qos_class_identifier}
use Rattle.pcef_gx.specs.Writing.{avp_of, group_avp, number_avp}
use Rattle.pcef_model.specs.ProfileModel.{ProfileModel}
use Rattle.pcef_packet.specs.declared.header.Addr.{Addr}
use Rattle.pcef_packet.specs.declared.header.Addr.TheVariants.{V4, V6}
use Rattle.pcef_rule.specs.Priority.{Priority}
use Rattle.pcef_rule.specs.declared.quantity.Qos.{Qos}

-- The address of the user equipment: Framed-IP-Address (RFC 7155, clause 4.4.10.5.1), or Framed-IPv6-Prefix with the first
-- 64 bits (RFC 3162, clause 2.3: an octet that is 0, the length of the prefix, the prefix).
abbrev pub prefix_avp : List ℕ → Shown
prefix_avp address = avp_of framed_ipv6_prefix (0 ∷ 64 ∷ take 8 address)

abbrev pub address_avp : Addr → Shown
address_avp (V4 bits) = avp_of framed_ip_address (to_be_bytes w32 bits)
address_avp (V6 bits) = prefix_avp (to_be_bytes w128 bits)

-- Pre-emption-Capability and -Vulnerability are 0 where they are enabled (TS 29.212, clauses 5.3.46 and 5.3.47).
abbrev pub word_of : Bool → ℕ
word_of enabled = if enabled then 0 else 1

-- Allocation-Retention-Priority (clause 5.3.32)
abbrev pub arp_avp : Priority → Shown
arp_avp arp =
    group_avp allocation_retention_priority
    (number_avp priority_level arp.level ∷ number_avp pre_emption_capability (word_of arp.capability)
    ∷ number_avp pre_emption_vulnerability (word_of arp.vulnerability) ∷ [])

-- Default-EPS-Bearer-QoS (clause 5.3.48)
abbrev pub qos_avp : Qos → Shown
qos_avp qos = group_avp default_eps_bearer_qos (number_avp qos_class_identifier qos.qci.0 ∷ arp_avp qos.arp ∷ [])

-- its address, its IP-CAN-Type 3GPP-EPS, 5 (clause 5.3.27), and the QoS of its default bearer
abbrev pub initial_avps : ProfileModel → List Shown
initial_avps p = address_avp p.ue ∷ number_avp ip_can_type 5 ∷ qos_avp p.default_qos ∷ []

-- with the octets of the host's AVPs behind them
abbrev pub proposal : ProfileModel → List ℕ → List ℕ
proposal p others = avps_octets (initial_avps p) ++ others
