-- From the first place of rules that fit to the first entry that does.
use Rattle.std.proofs.Common.{◌≡◌, ◌∙◌, ℕ, zero, suc, Bool, false, Option, Some, None, List, [], ◌∷◌, All, Bor, find, map, refl, subst, sym, arith}
use Rattle.std.specs.Prelude.{IfSome, slice_get}
use Rattle.std.specs.Option.{option_copied}
use Rattle.std.proofs.lemmas.Bool.{cond-false, cond-true}
use Rattle.std.proofs.lemmas.Option.{get_or_from_slice_get, slice_get_within}
use Rattle.pcef_packet.specs.declared.header.Addr.{Addr}
use Rattle.pcef_packet.specs.declared.header.Header.{Header}
use Rattle.pcef_catalog.specs.declared.listing.Offer.{Offer}
use Rattle.pcef_table.specs.declared.entry.TableEntry.{TableEntry}
use Rattle.pcef_table.specs.declared.entry.Source.{Source}
use Rattle.pcef_table.specs.Sources.{IsKnown, source_fits}
use Rattle.pcef_index.specs.private.Bases.{IsFirstOf, fits_at}

abbrev pub entry_fits : List Offer → Addr → Header → TableEntry → Bool
entry_fits offers ue h e = source_fits offers ue h e.source

abbrev pub sources_of : List TableEntry → List Source
sources_of es = map (λ e. e.source) es

-- where no rule fits, no entry does
pub no_entry : (offers : List Offer) (ue : Addr) (h : Header) (es : List TableEntry) → ((k : ℕ) → fits_at offers ue h (sources_of es) k ≡ false) → find (entry_fits offers ue h) es ≡ None
no_entry offers ue h [] none = refl
no_entry offers ue h (e ∷ es) none =
    cond-false (source_fits offers ue h e.source) (Some e) (find (entry_fits offers ue h) es) (none 0) ∙ no_entry offers ue h es (λ k. none (suc k))

-- the entry at the first place where a rule fits is the first that fits
pub entry_at : (offers : List Offer) (ue : Addr) (h : Header) (n : ℕ) (es : List TableEntry) → IsFirstOf (fits_at offers ue h (sources_of es)) (Some n) → slice_get es n ≡ find (entry_fits offers ue h) es
entry_at offers ue h n [] first = absurd (let f = first.0 in cc)
entry_at offers ue h zero (e ∷ es) first = sym (cond-true (source_fits offers ue h e.source) (Some e) (find (entry_fits offers ue h) es) first.0)
entry_at offers ue h (suc n) (e ∷ es) first =
    entry_at offers ue h n es (first.0, λ k below. first.1 (suc k) (omega (arith, below)))
    ∙ sym (cond-false (source_fits offers ue h e.source) (Some e) (find (entry_fits offers ue h) es) (first.1 0 (omega arith)))

-- an entry of a table is known
pub known_at : (offers : List Offer) (es : List TableEntry) (n : ℕ) (o : Option (Bor TableEntry)) → All (λ e. IsKnown offers e.source) es → option_copied o ≡ slice_get es n → IfSome o (λ e. IsKnown offers e.now.source)
known_at offers es n None all is = tt
known_at offers es n (Some b) all is =
    let there : slice_get es n ≡ Some b.now = sym is in
    subst (λ (e : TableEntry). IsKnown offers e.source) (get_or_from_slice_get es n b.now b.now there) (all n b.now (slice_get_within es n b.now there))
