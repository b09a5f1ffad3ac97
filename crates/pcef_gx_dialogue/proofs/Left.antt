-- The keys that are kept and left without a grant are those of the journal.
use Rattle.std.proofs.Common.{◌≡◌, ◌∙◌, ℕ, true, false, List, [], ◌∷◌, filter, map, refl, sym, ap, inl, inr}
use Rattle.std.specs.Prelude.{is_none}
use Rattle.std.specs.List.{AllByRecursion}
use Rattle.std.proofs.lemmas.Bool.{cases_Bool}
use Rattle.pcef_gx.specs.declared.order.Order.{Order}
use Rattle.pcef_model.specs.Commands.{is_among}
use Rattle.pcef_model.specs.Entries.{Journal}
use Rattle.pcef_model.specs.Journals.{grant, now}
use Rattle.pcef_model.specs.Setting.{Setting}
use Rattle.pcef_session.specs.Agreement.{KeyAgrees, KeysAgree}
use Rattle.pcef_usage.specs.declared.usage.KeyState.{KeyState}
use Rattle.pcef_gx_dialogue.specs.Stopping.{is_left, keys_left}
use Rattle.pcef_gx_dialogue.specs.private.Left.{is_state_left, states_left}

left_are : (p : Setting) (j : Journal) (told : ℕ) (orders : List Order) (states : List KeyState) → AllByRecursion (KeyAgrees p j) states →
    states_left j told orders states ≡ filter (is_left j told orders) (filter (λ key. is_among key (now p j).on) (map (λ s. s.key) states))
unfolding is_state_left
left_are p j told orders [] agree = refl
left_are p j told orders (s ∷ states) agree =
    elim (cases_Bool s.on) [
      | inl is ↦
          let among : is_among s.key (now p j).on ≡ true = sym agree.0.on_is ∙ is in
          let same : is_none s.grant ≡ is_none (grant j s.key) = ap is_none agree.0.grant_is in
          elim (cases_Bool (is_left j told orders s.key)) [
            | inl left ↦
                let hit : is_state_left j told orders s ≡ true = rw (is, same) left in
                rw (hit, among) (rw left (ap (λ keys. s.key ∷ keys) (left_are p j told orders states agree.1)))
            | inr gone ↦
                let miss : is_state_left j told orders s ≡ false = rw (is, same) gone in
                rw (miss, among) (rw gone (left_are p j told orders states agree.1))
          ]
      | inr isnt ↦
          let among : is_among s.key (now p j).on ≡ false = sym agree.0.on_is ∙ isnt in
          let miss : is_state_left j told orders s ≡ false = rw isnt refl in
          rw (miss, among) (left_are p j told orders states agree.1)
    ]

pub keys_are_left : (p : Setting) (j : Journal) (told : ℕ) (orders : List Order) (states : List KeyState) → KeysAgree p j states →
    states_left j told orders states ≡ keys_left p j told orders
keys_are_left p j told orders states agree =
    left_are p j told orders states agree.usage_is ∙ ap (λ keys. filter (is_left j told orders) (filter (λ key. is_among key (now p j).on) keys)) agree.keys_are
