-- What the newest generation decides of a packet, without the name of the rule (TS 23.203, clause 6.2.2).
use Rattle.std.specs.Prelude.{ℕ, ◌≡◌, List, [], ◌∷◌, Option, get_or}
use Rattle.std.specs.Int.Bits.{bit_or}
use Rattle.pcef_packet.specs.declared.header.Addr.{Addr}
use Rattle.pcef_packet.specs.declared.header.Header.{Header}
use Rattle.pcef_rule.specs.declared.quantity.Slot.{Slot}
use Rattle.pcef_catalog.specs.declared.listing.Offer.{Offer}
use Rattle.pcef_model.specs.declared.verdict.Verdict.{Verdict}
use Rattle.pcef_model.specs.declared.verdict.Verdict.TheVariants as verdict
use Rattle.pcef_table.specs.SessionSlots.{slots_counted}
use Rattle.pcef_table.specs.Tables.{TableValue}
use Rattle.pcef_table.specs.Verdicts.{IsPlaced, IsVerdict}
use Rattle.pcef_session.specs.Answers.{ShowsNewest}
use Rattle.pcef_session.specs.SessionModel.{SessionModel}
use Rattle.pcef_world.specs.declared.newest.Brief.{Brief}
use Rattle.pcef_world.specs.declared.newest.Outcome.{Outcome}
use Rattle.pcef_world.specs.declared.newest.Outcome.TheVariants.{Gated, Passed, Stray, Unmatched}

abbrev pub outcome_of : Verdict → Outcome
outcome_of (verdict.Passed rule bearer) = Passed bearer
outcome_of (verdict.Gated rule) = Gated
outcome_of verdict.Unmatched = Unmatched
outcome_of verdict.Stray = Stray

-- bit n stands for slot n
abbrev pub flag_of : ℕ → ℕ
flag_of n = get_or (1 ∷ 2 ∷ 4 ∷ 8 ∷ 16 ∷ 32 ∷ 64 ∷ 128 ∷ []) n 0

-- the bits of slots beside some that are set
abbrev pub flags_of : List Slot → ℕ → ℕ
flags_of [] flags = flags
flags_of (slot ∷ slots) flags = flags_of slots (bit_or flags (flag_of slot.0))

-- a decision of this generation in brief: its verdict, the place of its rule, and the slots that the packet counts for
abbrev pub brief_of : ℕ → Verdict → Option ℕ → List Slot → Brief
brief_of generation v place slots = record { generation = generation; outcome = outcome_of v; place = place; slots = flags_of slots 0 }

-- what a table decides of a packet, in brief
abbrev pub IsBriefOf : List Offer → TableValue → Addr → Header → Brief → Type 0
IsBriefOf offers t ue header b =
    (v : Verdict) × (place : Option ℕ) × IsVerdict offers t.entries ue header v × IsPlaced offers t.entries v place
    × (b ≡ brief_of t.number v place (slots_counted offers t v))

-- what the table of a session's newest generation does
abbrev pub IsNewestBrief : SessionModel → Header → Brief → Type 0
IsNewestBrief s header b = (t : TableValue) × ShowsNewest s t × IsBriefOf s.setting.catalog t s.setting.ue header b
