use Rattle.std.proofs.Common.{ℕ, ◌≡◌, ◌<◌, ◌∙◌, ◌==◌, true, false, List, [], ◌∷◌, ap, arith, length, refl, subst, sym, take}
use Rattle.std.proofs.lemmas.Bool.Decides.{nat_tests}
use Rattle.std.proofs.lemmas.List.{length-take-le, take_all}
use Rattle.pcef_packet.specs.HeaderOf.{header_of, reading_v6}
use Rattle.pcef_front.specs.Fronts.{IsOpen, IsSettledBy, as_front}
use Rattle.pcef_front.specs.private.Transports.{reading_v4}
use Rattle.pcef_front.proofs.EnoughOctets.{closed_v4, closed_v6}
use Rattle.pcef_front.proofs.FrontReadings.{none_told, v4_told, v6_told, whole_told}
use Rattle.pcef_front.proofs.reading.read_front.Goals as goal

-- what is at hand of a longer packet
at_hand : (front : List ℕ) (whole : ℕ) → length front < whole → take whole front ≡ front
at_hand front whole fewer = take_all whole front (omega arith)

some : (front : List ℕ) → (length front == 0) ≡ false → 0 < length front
some front full = grind (arith, nat_tests)

none : (front : List ℕ) → (length front == 0) ≡ true → front ≡ []
none [] empty = refl
none (x ∷ front) empty = absurd (grind (arith, nat_tests))

pub returns-then-whole-front-clause-reading : goal.returns-then-whole-front-clause-reading
returns-then-whole-front-clause-reading c =
    let told = whole_told (header_of c.args.dir) (take c.args.whole c.args.front.now) c.args.whole
    (length-take-le c.args.whole c.args.front.now c.if-whole-front.true) (header_of c.args.dir (take c.args.whole c.args.front.now)) refl in
    let is : c.read_whole.result ≡ as_front (header_of c.args.dir (take c.args.whole c.args.front.now)) =
    c.read_whole.ensures ∙ ap (λ l. as_front (header_of c.args.dir l)) c.first.ensures in
    subst (IsSettledBy (header_of c.args.dir) (take c.args.whole c.args.front.now) c.args.whole) (sym is) told

pub returns-then-is_empty-clause-reading : goal.returns-then-is_empty-clause-reading
returns-then-is_empty-clause-reading c =
    let fewer = c.if-whole-front.false in
    let nothing : take c.args.whole c.args.front.now ≡ [] =
    at_hand c.args.front.now c.args.whole fewer ∙ none c.args.front.now (sym c.is_empty.ensures ∙ c.if-is_empty.true) in
    subst (λ l. IsOpen (header_of c.args.dir) l c.args.whole) (sym nothing) (none_told c.args.dir c.args.whole (omega arith))

pub returns-in-4-clause-reading : goal.returns-in-4-clause-reading
returns-in-4-clause-reading c =
    subst (λ l. IsSettledBy (header_of c.args.dir) l c.args.whole c.read_v4.result) (sym (at_hand c.args.front.now c.args.whole c.if-whole-front.false))
    (v4_told c.args.dir c.args.front.now c.args.whole (some c.args.front.now (sym c.is_empty.ensures ∙ c.if-is_empty.false)) (sym c.version_of.ensures ∙ c.in-4.is)
    c.read_v4.result c.read_v4.ensures)

pub returns-in-6-clause-reading : goal.returns-in-6-clause-reading
returns-in-6-clause-reading c =
    subst (λ l. IsSettledBy (header_of c.args.dir) l c.args.whole c.read_v6.result) (sym (at_hand c.args.front.now c.args.whole c.if-whole-front.false))
    (v6_told c.args.dir c.args.front.now c.args.whole (some c.args.front.now (sym c.is_empty.ensures ∙ c.if-is_empty.false)) (sym c.version_of.ensures ∙ c.in-6.is)
    c.read_v6.result c.read_v6.ensures)

pub returns-in-4-clause-enough_v4 : goal.returns-in-4-clause-enough_v4
returns-in-4-clause-enough_v4 c = λ four enough same.
    closed_v4 c.args.dir c.args.front.now c.args.whole enough (subst (IsSettledBy (reading_v4 c.args.dir) c.args.front.now c.args.whole) same c.read_v4.ensures)

pub returns-in-6-clause-enough_v6 : goal.returns-in-6-clause-enough_v6
returns-in-6-clause-enough_v6 c = λ carried six long is four same.
    closed_v6 c.args.dir c.args.front.now c.args.whole carried long is four (subst (IsSettledBy (reading_v6 c.args.dir) c.args.front.now c.args.whole) same c.read_v6.ensures)
