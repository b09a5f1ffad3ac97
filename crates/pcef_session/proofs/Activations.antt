-- The rules that are prepared to become active.
use Rattle.std.proofs.Common.{◌≡◌, refl, sym, ap, subst, Some, None}
use Rattle.std.specs.Prelude.{Option}
use Rattle.std.specs.Option.{option_map}
use Rattle.pcef_catalog.specs.declared.listing.Offer.{Offer}
use Rattle.pcef_model.specs.declared.command.Command.{Command}
use Rattle.pcef_model.specs.declared.command.Command.TheVariants.{Install, Activate, Remove, Monitor, Stop, ReportNow, Triggers, Notice, LoseBearer, Close, Terminate}
use Rattle.pcef_model.specs.Setting.{Setting, offer_named}
use Rattle.pcef_model.specs.ActiveRules.{Active, predefined}
use Rattle.pcef_model.specs.Commands.{key_named, key_offered, activated}
use Rattle.pcef_session.specs.declared.prepared.Activation.{Activation}
use Rattle.pcef_session.specs.Preparing.{Activates, IsActivationOf}
use Rattle.pcef_session.specs.private.Changes.{key_of, rule_key}

-- the rule that is prepared is the one that the command makes active
pub record IsPrepared (p : Setting) (c : Command) (x : Activation) : Type 0 where
  pub rule : Active
  pub is_of : IsActivationOf p rule x
  pub becomes : activated p c ≡ Some rule

pub brought : (p : Setting) (c : Command) (o : Option Activation) (x : Activation) → o ≡ Some x → Activates p (activated p c) o → IsPrepared p c x
brought p c o x is brings = from (activated p c) refl (subst (Activates p (activated p c)) is brings)
  where
    from : (b : Option Active) → activated p c ≡ b → Activates p b (Some x) → IsPrepared p c x
    from None becomes brings = absurd brings
    from (Some r) becomes brings = record { rule = r; is_of = brings; becomes = becomes }

pub brought_none : (p : Setting) (c : Command) (o : Option Activation) → o ≡ None → Activates p (activated p c) o → activated p c ≡ None
brought_none p c o is brings = from (activated p c) (subst (Activates p (activated p c)) is brings)
  where
    from : (b : Option Active) → Activates p b None → b ≡ None
    from None brings = refl
    from (Some r) brings = absurd brings

-- the key that a command names
pub served_key : (p : Setting) (c : Command) (x : Option Activation) → Activates p (activated p c) x → key_named p c ≡ key_of (rule_key x) c
served_key p (Install d) None brings = absurd brings
served_key p (Install d) (Some x) brings = sym (ap (λ q. q.key) brings.properties_are)
served_key p (Activate name) x brings = from (offer_named p name) x brings
  where
    from : (o : Option Offer) (x : Option Activation) → Activates p (option_map predefined o) x → key_offered o ≡ rule_key x
    from None None brings = refl
    from None (Some x) brings = absurd brings
    from (Some o) None brings = absurd brings
    from (Some o) (Some x) brings = sym (ap (λ q. q.key) brings.properties_are)
served_key p (Remove name) None brings = refl
served_key p (Remove name) (Some x) brings = absurd brings
served_key p (Monitor key amount level) x brings = refl
served_key p (Stop key) None brings = refl
served_key p (Stop key) (Some x) brings = absurd brings
served_key p (ReportNow key) None brings = refl
served_key p (ReportNow key) (Some x) brings = absurd brings
served_key p (Triggers set) None brings = refl
served_key p (Triggers set) (Some x) brings = absurd brings
served_key p (Notice kind value) None brings = refl
served_key p (Notice kind value) (Some x) brings = absurd brings
served_key p (LoseBearer id) None brings = refl
served_key p (LoseBearer id) (Some x) brings = absurd brings
served_key p Close None brings = refl
served_key p Close (Some x) brings = absurd brings
served_key p Terminate None brings = refl
served_key p Terminate (Some x) brings = absurd brings
