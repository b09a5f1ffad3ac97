-- A front has one answer.
use Rattle.std.proofs.Common.{ℕ, ◌≡◌, ◌-◌, ◌≤◌, ◌∙◌, List, length, take, Result, Ok, Err, refl, sym, ap, arith}
use Rattle.std.proofs.lemmas.List.{length-take}
use Rattle.pcef_packet.specs.declared.header.PacketFault.{PacketFault}
use Rattle.pcef_packet.specs.HeaderOf.{header_of}
use Rattle.pcef_front.specs.Fronts.{IsOpen, IsSure, IsSettledBy, MayFollow}
use Rattle.pcef_front.specs.Laws.{OneAnswer}
use Rattle.pcef_front.specs.declared.fault.FrontFault.{FrontFault}
use Rattle.pcef_front.specs.declared.fault.FrontFault.TheVariants.{TooFew, Packet}
use Rattle.pcef_front.proofs.Told.{blank, blank_len, zeros}

-- what is sure isn't open
closed : {A : Type 0} (read : List ℕ → A) (front : List ℕ) (whole : ℕ) (a : A) → IsSure read front whole a → IsOpen read front whole → ⊥
closed read front whole a sure told = told.4 (sure told.0 told.2 ∙ sym (sure told.1 told.3))

-- something may follow, so that at most one thing is sure
both : {A : Type 0} (read : List ℕ → A) (front : List ℕ) (whole : ℕ) (a b : A) → length front ≤ whole → IsSure read front whole a → IsSure read front whole b → a ≡ b
both read front whole a b within one other =
    let long = blank_len (whole - length front) in
    let follows : MayFollow front whole (blank (whole - length front)) = record { octets = zeros (whole - length front); long = omega arith } in
    sym (one (blank (whole - length front)) follows) ∙ other (blank (whole - length front)) follows

told_once : {A : Type 0} (read : List ℕ → Result A PacketFault) (front : List ℕ) (whole : ℕ) → length front ≤ whole → (r s : Result A FrontFault) → IsSettledBy read front whole r → IsSettledBy read front whole s → r ≡ s
told_once read front whole within (Ok a) (Ok b) one other = let same = both read front whole (Ok a) (Ok b) within one other in ap Ok (cc)
told_once read front whole within (Ok a) (Err (Packet f)) one other = absurd (let same = both read front whole (Ok a) (Err f) within one other in cc)
told_once read front whole within (Ok a) (Err TooFew) one other = absurd (closed read front whole (Ok a) one other)
told_once read front whole within (Err (Packet e)) (Ok b) one other = absurd (let same = both read front whole (Err e) (Ok b) within one other in cc)
told_once read front whole within (Err (Packet e)) (Err (Packet f)) one other = let same = both read front whole (Err e) (Err f) within one other in ap (λ g. Err (Packet g)) (cc)
told_once read front whole within (Err (Packet e)) (Err TooFew) one other = absurd (closed read front whole (Err e) one other)
told_once read front whole within (Err TooFew) (Ok b) one other = absurd (closed read front whole (Ok b) other one)
told_once read front whole within (Err TooFew) (Err (Packet f)) one other = absurd (closed read front whole (Err f) other one)
told_once read front whole within (Err TooFew) (Err TooFew) one other = refl

pub one_answer : OneAnswer
one_answer dir front whole answer other one another =
    let cut = length-take whole front in
    told_once (header_of dir) (take whole front) whole (omega arith) answer other one another
