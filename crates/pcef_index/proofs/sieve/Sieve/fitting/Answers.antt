use Rattle.std.proofs.Common.{◌≡◌, ◌∙◌, ℕ, Bool, List, Option, Some, ap, refl, sym, length, true, false}
use Rattle.std.specs.Prelude.{slice_get}
use Rattle.std.specs.Option.{option_map_or}
use Rattle.std.proofs.lemmas.Bool.{ltb-true}
use Rattle.std.proofs.lemmas.Option.{slice_get_read}
use Rattle.pcef_index.specs.declared.lines.Line.{Line}
use Rattle.pcef_index.specs.private.Lines.{standing_fits}
use Rattle.pcef_index.specs.private.Words.{fits_at, passes_at}
use Rattle.pcef_index.proofs.Numbering.{place_of}
use Rattle.pcef_index.proofs.Searching.{line_fails}
use Rattle.pcef_index.proofs.sieve.Sieve.fitting.Goals as goal

-- a line that is there passes a test as it does itself
fits_there : (test : Line → Bool) (lines : List Line) (n : ℕ) (l : Line) (b : Bool) → slice_get lines n ≡ Some l → test l ≡ b → fits_at test lines n ≡ b
fits_there test lines n l b there is = ap (λ (o : Option Line). option_map_or test o false) there ∙ is

pub returns-then-fits : goal.returns-then-fits
returns-then-fits g c =
    let test = standing_fits c.args.standing.places.now (g.C.Offers.offers c.args.catalog.now) c.args.ue.now c.args.header.now in
    let lines = c.args.standing.lines.now in
    let number = c.in_ok-number.number.now in
    let line = c.in_ok-line.line.now in
    let here : slice_get c.deref.result.now c.args.place ≡ Some number =
    slice_get_read c.deref.result.now (length c.deref.result.now) c.args.place number refl (ltb-true _ _ (sym c.in_ok-number.ensures.lookup.0)) c.in_ok-number.ensures.lookup.1 in
    let there : slice_get lines number ≡ Some line =
    slice_get_read lines (length lines) number line refl (ltb-true _ _ (sym c.in_ok-line.ensures.lookup.0)) c.in_ok-line.ensures.lookup.1 in (
      number,
      ap (λ (ns : List ℕ). slice_get ns c.args.place) (sym c.deref.ensures.value) ∙ here,
      fits_there test lines number line true there (sym c.fits.ensures ∙ c.if-fits.true),
      ap place_of there,
    )

pub returns-else-fits : goal.returns-else-fits
returns-else-fits g c =
    let test = standing_fits c.args.standing.places.now (g.C.Offers.offers c.args.catalog.now) c.args.ue.now c.args.header.now in
    let lines = c.args.standing.lines.now in
    let number = c.in_ok-number.number.now in
    let line = c.in_ok-line.line.now in
    let here : slice_get c.deref.result.now c.args.place ≡ Some number =
    slice_get_read c.deref.result.now (length c.deref.result.now) c.args.place number refl (ltb-true _ _ (sym c.in_ok-number.ensures.lookup.0)) c.in_ok-number.ensures.lookup.1 in
    let there : slice_get lines number ≡ Some line =
    slice_get_read lines (length lines) number line refl (ltb-true _ _ (sym c.in_ok-line.ensures.lookup.0)) c.in_ok-line.ensures.lookup.1 in
    ap (λ (ns : List ℕ). passes_at (fits_at test lines) ns c.args.place) (sym c.deref.ensures.value)
    ∙ line_fails (fits_at test lines) c.deref.result.now c.args.place number here (fits_there test lines number line false there (sym c.fits.ensures ∙ c.if-fits.false))
