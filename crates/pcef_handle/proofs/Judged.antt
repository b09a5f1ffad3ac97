-- A packet that the table of the newest generation judges is judged as the journal says.
use Rattle.std.proofs.Common.{ℕ, ◌≡◌, List, Ok, arith, length, subst, sym, take}
use Rattle.std.proofs.lemmas.List.{take_all}
use Rattle.pcef_packet.specs.HeaderOf.{header_of}
use Rattle.pcef_packet.specs.declared.header.Dir.{Dir}
use Rattle.pcef_packet.specs.declared.header.Header.{Header}
use Rattle.pcef_front.specs.Fronts.{IsSettledBy}
use Rattle.pcef_front.proofs.FrontReadings.{whole_told}
use Rattle.pcef_table.specs.SessionSlots.{slots_counted}
use Rattle.pcef_model.specs.Generations.{oldest}
use Rattle.pcef_model.specs.Journals.{gen, tables}
use Rattle.pcef_model.proofs.Decisive.{made_once}
use Rattle.pcef_session.specs.SessionModel.{SessionModel}
use Rattle.pcef_session.proofs.ShownSlots.{shown_slots_of}
use Rattle.pcef_session.proofs.ShownVerdicts.{shown_judges}
use Rattle.pcef_world.specs.Newest.{IsNewestBrief, brief_of}
use Rattle.pcef_world.specs.declared.newest.Brief.{Brief}
use Rattle.pcef_handle.specs.Judging.{IsJudgementOf, Judgement}

-- a brief decision of the newest table is one of a judgement
pub judged_newest : (s : SessionModel) (header : Header) (b : Brief) → IsNewestBrief s header b
    → (d : Judgement) × IsJudgementOf s header d × (b ≡ brief_of d.generation d.verdict d.place d.slots)
judged_newest s header b (newest, shows, (verdict, place, judged, placed, brief)) =
    let g = gen s.journal in
    let once = made_once s.setting (oldest g (tables s.journal)) in
    let is = shown_judges s.setting s.journal g newest header verdict shows once judged in (
      record { generation = newest.number; verdict = verdict; place = place; slots = slots_counted s.setting.catalog newest verdict },
      record {
        generation_is = shows.number_is;
        verdict_is = is;
        counts_is = shown_slots_of s.setting s.journal g newest header verdict shows once is;
        placed = (newest, shows, placed);
      },
      brief,
    )

-- a packet that is whole at hand is read as its octets are
pub plain_settles : (dir : Dir) (front : List ℕ) (whole : ℕ) (header : Header) → whole ≡ length front → header_of dir front ≡ Ok header → IsSettledBy (header_of dir) (take whole front) whole (Ok header)
plain_settles dir front whole header long read =
    let all : take whole front ≡ front = take_all whole front (omega arith) in
    subst (λ octets. IsSettledBy (header_of dir) octets whole (Ok header)) (sym all) (whole_told (header_of dir) front whole (sym long) (Ok header) read)
