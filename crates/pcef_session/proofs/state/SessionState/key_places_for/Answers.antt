use Rattle.std.proofs.Common.{◌≡◌, ◌∙◌, List, ap, subst, sym, ℕ}
use Rattle.std.specs.Prelude.{IfOk, Option}
use Rattle.std.specs.Option.{option_copied}
use Rattle.pcef_model.specs.Commands.{activated, key_named}
use Rattle.pcef_model.specs.Journals.{slots}
use Rattle.pcef_model.specs.ProfileModel.{setting_of}
use Rattle.pcef_usage.specs.Keys.{HasPlaceFor, keys_of}
use Rattle.pcef_session.specs.Preparing.{Activates, HasKeyPlaces}
use Rattle.pcef_session.specs.SessionModel.{SessionModel}
use Rattle.pcef_session.specs.private.Changes.{key_of}
use Rattle.pcef_session.proofs.Activations.{served_key}
use Rattle.pcef_session.proofs.state.SessionState.key_places_for.Goals as goal

pub returns : goal.returns
returns c =
    let s = c.self.inside in
    let p = setting_of s.profile s.listing in
    let command = c.args.command.now in
    let told = c.key_places.result in
    let brings = subst (λ (m : SessionModel). Activates m.setting (activated m.setting command) (option_copied c.args.rule)) (sym c.self.view_is) c.requires.rule in
    let key : key_of (option_copied c.as_ref.result) command ≡ key_named p command =
    ap (λ (k : Option (List ℕ)). key_of k command) (c.as_ref.ensures.value ∙ c.rule_key-key.ensures) ∙ sym (served_key p command (option_copied c.args.rule) brings) in
    let keys : keys_of c.usage.result.now ≡ slots p s.counted.journal = ap keys_of c.usage.ensures ∙ c.self.invariant.agrees.keys_are in
    subst (λ (m : SessionModel). IfOk told (HasKeyPlaces m.setting m.journal command)) c.self.view_is
    (subst (λ (ks : List (List ℕ)). IfOk told (λ n. HasPlaceFor (key_named p command) n ks)) keys
    (subst (λ (k : Option (List ℕ)). IfOk told (λ n. HasPlaceFor k n (keys_of c.usage.result.now))) key c.key_places.ensures))
