use Rattle.std.proofs.Common.{ℕ, ◌≡◌, ◌∙◌, List, [], ◌∷◌, None, ap, refl, slice_get, subst, sym}
use Rattle.std.specs.Option.{option_copied}
use Rattle.pcef_front.specs.Fronts.{IsOpen}
use Rattle.pcef_front.specs.private.Transports.{transport_in}
use Rattle.pcef_front.proofs.FrontExtensions.{short_room, unknown}
use Rattle.pcef_front.proofs.extensions.past.Goals as goal

empty : (xs : List ℕ) → slice_get xs 0 ≡ None → xs ≡ []
empty [] none = refl
empty (x ∷ xs) none = absurd (cc)

pub returns-then-room-lt-LEAST_LEN : goal.returns-then-room-lt-LEAST_LEN
returns-then-room-lt-LEAST_LEN c = short_room c.args.kind c.args.room c.args.left.now c.requires.extends c.if-room-lt-LEAST_LEN.true

pub returns-in_default : goal.returns-in_default
returns-in_default c =
    let none : slice_get c.args.left.now 0 ≡ None = sym c.first.ensures.value ∙ ap option_copied c.in_default.is in
    subst (λ left. IsOpen (transport_in c.args.kind) left c.args.room) (sym (empty c.args.left.now none)) (unknown c.args.kind c.args.room c.requires.extends c.if-room-lt-LEAST_LEN.false)
