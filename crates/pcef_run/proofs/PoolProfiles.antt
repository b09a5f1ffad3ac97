-- Profiles that are read, one after the other.
use Rattle.std.proofs.Common.{◌≡◌, ◌∙◌, ◌<◌, ◌+◌, ℕ, List, [], ◌∷◌, ◌++◌, length, take, drop, get_or, refl, sym, ap, inl, subst}
use Rattle.std.proofs.lemmas.List.{drop_more, take-append-drop, take_more}
use Rattle.std.specs.Prelude.{Ok, Err}
use Rattle.pcef_catalog.specs.declared.listing.Offer.{Offer}
use Rattle.pcef_run.specs.Opening.{Asked}
use Rattle.pcef_run.specs.declared.end.End.{End}
use Rattle.pcef_run.specs.declared.end.End.TheVariants as ending
use Rattle.pcef_run.specs.PoolEnds.{TextsAskFor, AsksFor, FirstUnread, IsProfileUnread, Text}

pub asked_more : (offers : List Offer) (texts : List Text) (asked : List Asked) (text : Text) (a : Asked) → TextsAskFor offers texts asked → AsksFor offers text a → TextsAskFor offers (texts ++ text ∷ []) (asked ++ a ∷ [])
asked_more offers [] asked text a none is = (a, [], ap (λ t. t ++ a ∷ []) none, is, refl)
asked_more offers (t ∷ texts) asked text a (first, others, same, first_is, rest) is =
    (first, others ++ a ∷ [], ap (λ t. t ++ a ∷ []) same, first_is, asked_more offers texts others text a rest is)

-- there is no room for one more
pub no_room : (offers : List Offer) (text : Text) (a : Asked) → AsksFor offers text a → IsProfileUnread text ending.NoMemory
no_room offers (Ok text) a is = inl refl
no_room offers (Err error) a is = absurd is

-- the text at a place is read
pub asked_next : (offers : List Offer) (texts : List Text) (i : ℕ) (text : Text) (asked : List Asked) (a : Asked) → i < length texts → text ≡ get_or texts i text → TextsAskFor offers (take i texts) asked → AsksFor offers text a
    → TextsAskFor offers (take (i + 1) texts) (asked ++ a ∷ [])
asked_next offers texts i text asked a within is are asks =
    subst (λ ts. TextsAskFor offers ts (asked ++ a ∷ [])) (sym (take_more texts i text within ∙ ap (λ x. take i texts ++ x ∷ []) (sym is))) (asked_more offers (take i texts) asked text a are asks)

-- or it can't be read
pub first_unread : (offers : List Offer) (texts : List Text) (i : ℕ) (text : Text) (asked : List Asked) (e : End) → i < length texts → text ≡ get_or texts i text → TextsAskFor offers (take i texts) asked → IsProfileUnread text e
    → FirstUnread offers texts e
first_unread offers texts i text asked e within is are unread = (
  take i texts,
  text,
  drop (i + 1) texts,
  asked,
  sym (take-append-drop i texts) ∙ ap (λ t. take i texts ++ t) (drop_more texts i text within ∙ ap (λ x. x ∷ drop (i + 1) texts) (sym is)),
  are,
  unread,
)
